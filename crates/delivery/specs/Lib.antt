-- What the contracts of Deliver's parts speak of, and laws about it.
pub mod Kept
pub mod Laws
