-- The padded message and its blocks, as FIPS 180-4 defines them.
pub mod Padding
pub mod Ending
pub mod Laws
