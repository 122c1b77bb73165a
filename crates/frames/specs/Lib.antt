-- What the contracts of frames speak of, and laws about it.
pub mod Kind
pub mod Parts
pub mod Laws
