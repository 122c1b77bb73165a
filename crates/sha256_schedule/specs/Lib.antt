-- The message schedule of a block, as FIPS 180-4 defines it.
pub mod Schedule
pub mod Laws
