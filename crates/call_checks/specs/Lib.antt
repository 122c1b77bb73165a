-- The calls computed on document 01's numbers.
pub mod Checks
pub mod RunChecks
pub mod ReferenceChecks
pub mod RuleChecks
pub mod OpenChecks
pub mod DeliverChecks
pub mod EquivocationChecks
pub mod KeepChecks
pub mod PacketChecks
pub mod MoveChecks
pub mod MoveFrameChecks
pub mod CallChecks
pub mod RepeatChecks
pub mod EffectChecks
pub mod WeightCallChecks
pub mod WeightForkChecks
pub mod HeightCallChecks
