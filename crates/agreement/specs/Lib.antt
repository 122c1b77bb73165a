-- Demand 3: the claim over lists of calls, without observers and with them, its proof, and two lists that meet every
-- premise.
pub mod Lists
pub mod ObserverLists
pub mod Unpacked
pub mod ObserverUnpacked
pub mod Met
pub mod ListTests
pub mod Turns
pub mod AnyDigest
pub mod ObserverMet
pub mod ObserverListTests
pub mod ObserverWitness
