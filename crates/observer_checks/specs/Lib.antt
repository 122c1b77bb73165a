-- Observers' books and calls computed on numbers.
pub mod ObserverSoundChecks
pub mod ObserverDeliverChecks
pub mod ObserverChecks
pub mod ObserverExamples
pub mod ObserverWeightChecks
pub mod ObserverHeightChecks
