-- Written by tests/restated --write: what docs/statements has of
-- crates/agreement/proofs/Laws/ViewsLaws.antt.
use Rattle.std.specs.Prelude.{ℕ, suc, ◌≡◌, ◌⊎◌, true, List}
use package.Rattle.protocol.specs.Bytes.{Bytes}
use package.Rattle.protocol.specs.Mask.{in_mask}
use package.Rattle.protocol.specs.View.{View, is_finalized, quorum}
use package.Rattle.agreement.specs.Lists.{FewDishonest, HonestIn, KeepsOneBook}
use package.Rattle.agreement.specs.Lists.{finalizes}
use package.Rattle.agreement.specs.ObserverLists.{AnyMember, Meant, NoneCollide, NoneForged}
use package.Rattle.agreement.specs.ObserverLists.{replica_calls}
use package.Rattle.agreement.proofs.Laws.ViewsLaws.{ShownIn}
use mathlib.Core.Path.{◌≡◌ as ◌is-kept◌, refl as by-text}
use package.Rattle.agreement.proofs.Laws.ViewsLaws as page

module _ (digest : Bytes → Bytes) (weights : List ℕ) (dishonest : ℕ) (observers : ℕ → Type 0) (l : List AnyMember)
    (third : FewDishonest weights dishonest)
    (keeps : (s : ℕ) → HonestIn weights dishonest s → KeepsOneBook digest weights (replica_calls l) s)
    (unforged : NoneForged digest (Meant (HonestIn weights dishonest) observers) (HonestIn weights dishonest) l)
    (collisionless : NoneCollide digest (Meant (HonestIn weights dishonest) observers) l) where
  abbrev Honest : ℕ → Type 0
  Honest s = HonestIn weights dishonest s

  abbrev HadView : (v : View) (g : ℕ) → Type 0
  HadView = page.HadView digest weights dishonest observers l third keeps unforged collisionless

  module _ (v v' : View) (g g' : ℕ) (x : HadView v g) (x' : HadView v' g') where
    abbrev Shared : ℕ → ℕ → Type 0
    Shared m m' = (t : ℕ) × Honest t × (in_mask m t ≡ true) × (in_mask m' t ≡ true)

    pub shared-kept : (m m' : ℕ) → quorum v m ≡ true → quorum v' m' ≡ true → Shared m m'
    shared-kept = page.shared digest weights dishonest observers l third keeps unforged collisionless v v' g g' x x'

    pub final_not_dummy-kept : (i : ℕ) → quorum v (v.finalize_mask (suc i)) ≡ true →
        quorum v' (v'.dummy_mask (suc i)) ≡ true → ⊥
    final_not_dummy-kept = page.final_not_dummy digest weights dishonest observers l third keeps unforged collisionless v v' g g' x x'
