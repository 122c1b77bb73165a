-- What the contracts of packets speak of, and laws about it.
pub mod Frames
pub mod Left
pub mod Reached
pub mod Laws
