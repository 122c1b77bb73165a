pub mod Blocks
pub mod WordStores
