-- Soundness of an observer's book in the order of the code.
pub mod ObserverRows
pub mod Laws
