-- An answer as one number for C, and what the header's functions read out of it.
pub mod Packing
pub mod Unpacking
