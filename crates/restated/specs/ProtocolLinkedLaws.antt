-- Written by tests/restated --write: what docs/statements has of
-- crates/protocol/proofs/Laws/LinkedLaws.antt.
use Prim.Native.Nat.{ℕ, suc}
use Rattle.std.specs.Prelude.{◌≡◌, ◌&&◌}
use Rattle.std.proofs.Math.Bool.{true}
use package.Rattle.protocol.specs.Bytes.{Bytes}
use package.Rattle.protocol.specs.View.{View, linked, extends}
use package.Rattle.protocol.specs.View.{is_finalized}
use package.Rattle.protocol.specs.Linked.{Linked, Finalized}
use mathlib.Core.Path.{◌≡◌ as ◌is-kept◌, refl as by-text}
use package.Rattle.protocol.proofs.Laws.LinkedLaws as page

module _ (digest : Bytes → Bytes) where
  pub linked_suc-kept : (v : View) (i : ℕ) → linked digest v
      (suc i) ≡ (v.has_block (suc i) && extends digest v (suc i) (v.block (suc i)))
  linked_suc-kept = page.linked_suc digest

  pub linked_sound-kept : (v : View) (h : ℕ) → linked digest v h ≡ true → Linked digest v h
  linked_sound-kept = page.linked_sound digest

  pub linked_complete-kept : (v : View) {h : ℕ} → Linked digest v h → linked digest v h ≡ true
  linked_complete-kept = page.linked_complete digest

  pub finalized_sound-kept : (v : View) (h : ℕ) → is_finalized digest v h ≡ true → Finalized digest v h
  finalized_sound-kept = page.finalized_sound digest
