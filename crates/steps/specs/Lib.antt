-- What the steps speak of, and laws about it.
pub mod Proposal
pub mod Laws
