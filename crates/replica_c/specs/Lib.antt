-- The number of the interface for C.
pub mod Interface
