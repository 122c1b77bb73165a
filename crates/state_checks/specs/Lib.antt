-- Formats, soundness, quorums and linking computed on document 01's numbers.
pub mod BasicChecks
pub mod FormChecks
pub mod SoundChecks
pub mod ViewChecks
pub mod WeightChecks
pub mod WeightQuorumChecks
pub mod HeightChecks
