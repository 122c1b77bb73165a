-- What the contracts of contradictions speak of, and laws about it.
pub mod Accepted
pub mod Laws
