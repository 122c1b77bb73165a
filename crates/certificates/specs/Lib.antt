-- What the contracts of certificates speak of.
pub mod Kind
