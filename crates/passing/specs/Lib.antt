-- What a pass speaks of, and laws about it.
pub mod Second
pub mod Laws
