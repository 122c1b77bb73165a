-- Written by tests/restated --write: what docs/statements has of
-- crates/agreement/specs/ObserverMet.antt.
use Rattle.std.specs.Prelude.{ℕ, ◌≡◌, ◌≢◌}
use mathlib.Core.List.{List, [], Memᴰ}
use Rattle.std.proofs.Math.Option.{some}
use package.Rattle.protocol.specs.Bytes.{Bytes}
use package.Rattle.agreement.specs.Lists.{Begins, FewDishonest, HonestIn, KeepsOneBook, Reads}
use package.Rattle.agreement.specs.Met.{MemberOf}
use package.Rattle.agreement.specs.ObserverLists.{AnyMember, AnyReads, Meant, NoneCollide, NoneForged}
use package.Rattle.agreement.specs.ObserverLists.{ObserverKeepsOneBook, ObserverMember, observer_calls, observes}
use package.Rattle.agreement.specs.ObserverLists.{of_observer, replica_calls}
use package.Rattle.agreement.specs.ObserverMet.{ObserverOf}
use mathlib.Core.Path.{◌≡◌ as ◌is-kept◌, refl as by-text}
use package.Rattle.agreement.specs.ObserverMet as page

abbrev ObserverOf-kept : List AnyMember → ℕ → (ObserverMember → Type 0) → Type 0
ObserverOf-kept list s P = (m : ObserverMember) × Memᴰ (of_observer m) list × (m.observer ≡ s) × P m

same-ObserverOf : ObserverOf-kept is-kept page.ObserverOf
same-ObserverOf = by-text

module _ (digest : Bytes → Bytes) where
  abbrev ObserverReads : Bytes → ObserverMember → Type 0
  ObserverReads = page.ObserverReads digest

  abbrev ObservedMet : (weights : List ℕ) (dishonest : ℕ) (observers : ℕ → Type 0) (list : List AnyMember) (shorter part : Bytes) → Type 0
  ObservedMet = page.ObservedMet digest

  abbrev ObserverReads-kept : Bytes → ObserverMember → Type 0
  ObserverReads-kept part m = (observes digest m).reads ≡ some part

  same-ObserverReads : ObserverReads-kept is-kept page.ObserverReads digest
  same-ObserverReads = by-text

  ObservedClaim-kept : (Bytes → Bytes → Type 0) → Type 1
  ObservedClaim-kept Conclusion =
      (weights : List ℕ) (dishonest : ℕ) (observers : ℕ → Type 0) (list : List AnyMember) →
      FewDishonest weights dishonest →
      ((s : ℕ) → HonestIn weights dishonest s → KeepsOneBook digest weights (replica_calls list) s) →
      ((s : ℕ) → observers s → ObserverKeepsOneBook digest weights (observer_calls list) s) →
      NoneForged digest (Meant (HonestIn weights dishonest) observers) (HonestIn weights dishonest) list →
      NoneCollide digest (Meant (HonestIn weights dishonest) observers) list →
      (m m' : AnyMember) (part part' : Bytes) → Memᴰ m list → Memᴰ m' list →
      Meant (HonestIn weights dishonest) observers m → Meant (HonestIn weights dishonest) observers m' →
      AnyReads digest m part → AnyReads digest m' part' → Conclusion part part'

  same-ObservedClaim : ObservedClaim-kept is-kept page.ObservedClaim digest
  unfolding ObservedClaim-kept page.ObservedClaim
  same-ObservedClaim = by-text

  ObservedMet-kept : (weights : List ℕ) (dishonest : ℕ) (observers : ℕ → Type 0) (list : List AnyMember) (shorter part : Bytes) (few : FewDishonest weights dishonest) (keeps : (s : ℕ) → HonestIn weights dishonest s → KeepsOneBook digest weights (replica_calls list) s) (observers_keep : (s : ℕ) → observers s → ObserverKeepsOneBook digest weights (observer_calls list) s) (unforged : NoneForged digest (Meant (HonestIn weights dishonest) observers) (HonestIn weights dishonest) list) (collisionless : NoneCollide digest (Meant (HonestIn weights dishonest) observers) list) (honest_0 : HonestIn weights dishonest 0) (meant_0 : observers 0) (meant_1 : observers 1) (reads_replica : MemberOf (replica_calls list) 0 (λ m. Reads digest m part)) (reads_0 : ObserverOf list 0 (ObserverReads part)) (reads_1 : ObserverOf list 1 (ObserverReads part)) (not_empty : part ≢ []) (reads_shorter : ObserverOf list 1 (ObserverReads shorter)) (begins : Begins shorter part) (begins_not : Begins part shorter → ⊥) →
      ObservedMet weights dishonest observers list shorter part
  ObservedMet-kept weights dishonest observers list shorter part x0 x1 x2 x3 x4 x5 x6 x7 x8 x9 x10 x11 x12 x13 x14 = record { few = x0; keeps = x1; observers_keep = x2; unforged = x3; collisionless = x4; honest_0 = x5; meant_0 = x6; meant_1 = x7; reads_replica = x8; reads_0 = x9; reads_1 = x10; not_empty = x11; reads_shorter = x12; begins = x13; begins_not = x14 }
