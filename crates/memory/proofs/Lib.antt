mod Words
mod Runs
pub mod Stores
