-- What the contracts of an observer's delivery speak of, and laws about it.
pub mod Certificate
pub mod Laws
