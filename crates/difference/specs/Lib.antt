-- What the contracts of the difference speak of.
pub mod Difference
