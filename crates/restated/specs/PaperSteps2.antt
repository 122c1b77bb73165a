-- Written by tests/restated --write: what docs/statements has of
-- crates/paper/specs/Steps.antt.
use package.Rattle.protocol.specs.Bytes.{Bytes}
use package.Rattle.protocol.specs.State.{State}
use package.Rattle.protocol.specs.Move.{step}
use package.Rattle.paper.specs.Steps.{LeaderProposal, DummyBlocks, NotarizingProposals, NextIteration, FinalizedOutputs, Idling, OneOfSix, FiveSteps}
use mathlib.Core.Path.{◌≡◌ as ◌is-kept◌, refl as by-text}
use package.Rattle.paper.specs.Steps as page

FiveSteps-kept : (digest : Bytes → Bytes) (s : State) (leader_proposal : LeaderProposal digest s) (dummy_blocks : DummyBlocks digest s) (notarizing_proposals : NotarizingProposals digest s) (next_iteration : NextIteration digest s) (finalized_outputs : FinalizedOutputs digest s) (idling : Idling digest s) (one_of_six : OneOfSix digest s (step digest s).move) →
    FiveSteps digest s
FiveSteps-kept digest s x0 x1 x2 x3 x4 x5 x6 = record { leader_proposal = x0; dummy_blocks = x1; notarizing_proposals = x2; next_iteration = x3; finalized_outputs = x4; idling = x5; one_of_six = x6 }
