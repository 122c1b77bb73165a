-- Written by tests/restated --write: what docs/statements has of
-- crates/agreement/proofs/Laws/ObserverWitnessLaws.antt.
use Rattle.std.specs.Prelude.{length}
use Rattle.std.proofs.Math.Path.{◌≡◌}
use package.Rattle.protocol.specs.Bytes.{Bytes}
use package.Rattle.agreement.specs.ObserverWitness.{ObserverWitness}
use package.Rattle.agreement.specs.Turns.{next_block}
use mathlib.Core.Path.{◌≡◌ as ◌is-kept◌, refl as by-text}
use package.Rattle.agreement.proofs.Laws.ObserverWitnessLaws as page

module _ (digest : Bytes → Bytes) where
  module _ (size : length (digest next_block) ≡ 32) where
    pub observer_witness-kept : ObserverWitness digest
    observer_witness-kept = page.observer_witness digest size
