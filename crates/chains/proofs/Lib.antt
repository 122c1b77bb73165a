pub mod ChainWalk
pub mod Pending
pub mod Closing
pub mod OfferLoop
pub mod AddPendingLoop
pub mod Looked
