-- Written by tests/restated --write: what docs/statements has of
-- crates/protocol/proofs/Laws/ParentLaws.antt.
use Prim.Native.Nat.{ℕ, ◌≤◌}
use Rattle.std.specs.Prelude.{◌≡◌}
use Rattle.std.proofs.Math.Option.{some, none}
use package.Rattle.protocol.specs.Bytes.{Bytes}
use package.Rattle.protocol.specs.View.{View, parent_of, largest_finalized}
use package.Rattle.protocol.specs.Linked.{ChainOf, Largest}
use mathlib.Core.Path.{◌≡◌ as ◌is-kept◌, refl as by-text}
use package.Rattle.protocol.proofs.Laws.ParentLaws as page

module _ (digest : Bytes → Bytes) (v : View) where
  pub parent_some-kept : (h j : ℕ) → parent_of digest v h ≡ some j →
      ChainOf digest v h j × ((k : ℕ) → ChainOf digest v h k → k ≤ j)
  parent_some-kept = page.parent_some digest v

  pub parent_none-kept : (h : ℕ) → parent_of digest v h ≡ none → (j : ℕ) → ChainOf digest v h j → ⊥
  parent_none-kept = page.parent_none digest v

  pub largest_finalized-is-kept : (h : ℕ) → Largest digest v h (largest_finalized digest v h)
  largest_finalized-is-kept = page.largest_finalized-is digest v
