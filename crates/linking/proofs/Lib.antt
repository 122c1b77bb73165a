pub mod Walk
pub mod Final
