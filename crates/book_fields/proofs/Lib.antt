pub mod Places
pub mod ObservedPlaces
pub mod Showing
pub mod SettingTests
pub mod Counts
pub mod FlagBits
