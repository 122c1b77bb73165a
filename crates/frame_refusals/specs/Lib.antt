-- What the contracts of the refusals speak of, and laws about it.
pub mod Given
pub mod Refusal
pub mod RefusalNumber
pub mod Laws
