-- What the tests of the moves speak of, and laws about it.
pub mod Found
pub mod Held
pub mod Took
pub mod Laws
