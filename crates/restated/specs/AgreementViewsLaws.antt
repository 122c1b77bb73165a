-- Written by tests/restated --write: what docs/statements has of
-- crates/agreement/proofs/Laws/ViewsLaws.antt.
use Rattle.std.specs.Prelude.{ℕ, suc, ◌≡◌, ◌⊎◌, true, List}
use package.Rattle.protocol.specs.Bytes.{Bytes}
use package.Rattle.protocol.specs.View.{View, is_finalized, quorum}
use package.Rattle.agreement.proofs.Laws.BackingLaws.{Shown}
use package.Rattle.agreement.proofs.Laws.ObserverRunLaws.{AnySeen, AnyStates}
use package.Rattle.agreement.specs.Lists.{FewDishonest, HonestIn, KeepsOneBook}
use package.Rattle.agreement.specs.Lists.{finalizes}
use package.Rattle.agreement.specs.ObserverLists.{AnyMember, Meant, NoneCollide, NoneForged}
use package.Rattle.agreement.specs.ObserverLists.{replica_calls}
use package.Rattle.agreement.proofs.Laws.ViewsLaws.{ShownIn}
use mathlib.Core.Path.{◌≡◌ as ◌is-kept◌, refl as by-text}
use package.Rattle.agreement.proofs.Laws.ViewsLaws as page

module _ (digest : Bytes → Bytes) (weights : List ℕ) (books names observers : ℕ → Type 0) (l : List AnyMember) where
  abbrev ShownIn-kept : View → Type 0
  ShownIn-kept v = (i : ℕ) →
      Shown digest (AnyStates digest weights books names observers l) (AnySeen digest weights books names observers l)
      (suc i) (v.dummy_mask (suc i)) (v.finalize_mask (suc i)) (v.certificate_mask (suc i)) (v.has_block (suc i))
      (v.block (suc i))

  same-ShownIn : ShownIn-kept is-kept page.ShownIn digest weights books names observers l
  same-ShownIn = by-text

module _ (digest : Bytes → Bytes) (weights : List ℕ) (dishonest : ℕ) (observers : ℕ → Type 0) (l : List AnyMember)
    (third : FewDishonest weights dishonest)
    (keeps : (s : ℕ) → HonestIn weights dishonest s → KeepsOneBook digest weights (replica_calls l) s)
    (unforged : NoneForged digest (Meant (HonestIn weights dishonest) observers) (HonestIn weights dishonest) l)
    (collisionless : NoneCollide digest (Meant (HonestIn weights dishonest) observers) l) where
  abbrev Honest : ℕ → Type 0
  Honest s = HonestIn weights dishonest s

  abbrev HadView : (v : View) (g : ℕ) → Type 0
  HadView = page.HadView digest weights dishonest observers l third keeps unforged collisionless

  HadView-kept : (v : View) (g : ℕ) (shown : ShownIn digest weights Honest Honest observers l v) (same_weights : v.weights ≡ weights) (certificates : (i : ℕ) → v.has_block (suc i) ≡ true → quorum v (v.certificate_mask (suc i)) ≡ true) (finalizes : (g ≡ 0) ⊎ (is_finalized digest v g ≡ true)) →
      HadView v g
  HadView-kept v g x0 x1 x2 x3 = record { shown = x0; same_weights = x1; certificates = x2; finalizes = x3 }
