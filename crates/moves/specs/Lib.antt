-- What the choice of a move speaks of, and laws about it.
pub mod Later
pub mod Laws
