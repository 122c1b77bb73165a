-- What the contracts of chains and entries speak of.
pub mod Walkable
pub mod Entries
pub mod Back
