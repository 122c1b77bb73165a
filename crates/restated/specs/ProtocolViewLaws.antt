-- Written by tests/restated --write: what docs/statements has of
-- crates/protocol/proofs/Laws/ViewLaws.antt.
use Prim.Native.Nat.{ℕ, ◌+◌, ◌≤◌, ◌<◌}
use Rattle.std.specs.Prelude.{◌≡◌, true}
use package.Rattle.protocol.specs.View.{View, is_dummy, dummy_run}
use mathlib.Core.Path.{◌≡◌ as ◌is-kept◌, refl as by-text}
use package.Rattle.protocol.proofs.Laws.ViewLaws as page

pub run_sound-kept : (v : View) (j count : ℕ) → dummy_run v j count ≡ true → (k : ℕ) → j < k → k ≤ j + count →
    is_dummy v k ≡ true
run_sound-kept = page.run_sound
