-- Soundness in the order of the code, and what a book that was found sound grants.
pub mod Rows
pub mod SoundRows
pub mod Laws
