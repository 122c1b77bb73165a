-- What the contracts of an observer's refusals speak of, and laws about it.
pub mod Rows
pub mod Laws
