-- Written by tests/restated --write: what docs/statements has of
-- crates/protocol/proofs/Laws/PlaceLaws.antt.
use Rattle.std.specs.Prelude.{ℕ, suc, ◌≡◌}
use package.Rattle.protocol.specs.State.{State, at, with_height}
use mathlib.Core.Path.{◌≡◌ as ◌is-kept◌, refl as by-text}
use package.Rattle.protocol.proofs.Laws.PlaceLaws as page

module _ (s : State) (i : ℕ) where
  pub with_at-kept : with_height s (suc i) (at s (suc i)) ≡ s
  with_at-kept = page.with_at s i
