-- Written by tests/restated --write: what docs/statements has of
-- crates/protocol/proofs/Laws/ExamplesLaws.antt.
use package.Rattle.protocol.specs.Examples.{Letter, claim}
use Rattle.std.specs.Prelude.{◌≡◌, ◌≢◌}
use package.Rattle.protocol.specs.Examples.{Start, first_leader}
use mathlib.Core.Path.{◌≡◌ as ◌is-kept◌, refl as by-text}
use package.Rattle.protocol.proofs.Laws.ExamplesLaws as page

pub examples-kept : (x : Letter) → claim x
examples-kept = page.examples

pub led_by_other-kept : (x : Start) × (x.n ≡ 4) × (first_leader x ≢ x.own)
led_by_other-kept = page.led_by_other

pub led_by_own-kept : (x : Start) × (x.n ≡ 4) × (first_leader x ≡ x.own)
led_by_own-kept = page.led_by_own
