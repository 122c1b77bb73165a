-- The constants and the rounds, as FIPS 180-4 defines them.
pub mod Constants
pub mod Rounds
pub mod Laws
