-- Words and the six functions of FIPS 180-4: a reader with the standard in hand ticks off Words and Functions; the
-- files named Laws are proofs over them.
pub mod Bytes
pub mod Words
pub mod Functions
pub mod Laws
