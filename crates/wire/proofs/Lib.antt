pub mod Rows
pub mod Scan
pub mod BlockRows
pub mod Masks
pub mod Writes
