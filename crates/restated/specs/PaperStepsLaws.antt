-- Written by tests/restated --write: what docs/statements has of
-- crates/paper/proofs/Laws/StepsLaws.antt.
use Rattle.std.specs.Prelude.{◌≡◌, length}
use package.Rattle.protocol.specs.SoundState.{SoundState}
use package.Rattle.protocol.specs.Bytes.{Bytes}
use package.Rattle.protocol.specs.State.{State}
use package.Rattle.paper.specs.Steps.{FiveSteps}
use mathlib.Core.Path.{◌≡◌ as ◌is-kept◌, refl as by-text}
use package.Rattle.paper.proofs.Laws.StepsLaws as page

pub five_steps-kept : (digest : Bytes → Bytes) → ((block : Bytes) → length (digest block) ≡ 32) → (s : State) →
    SoundState digest s → FiveSteps digest s
five_steps-kept = page.five_steps
