-- What the contracts of a memory speak of.
pub mod Memo
pub mod Laws
