-- What a list must show so that demand 3 with observers is not vacuous: it meets every premise, two observers and an
-- honest replica read an entry or more, and one of the observers a part that strictly begins it.
use Rattle.std.specs.Prelude.{ℕ, ◌≡◌, ◌≢◌}
use mathlib.Core.List.{List, [], Memᴰ}
use Rattle.std.proofs.Math.Option.{some}
use Rattle.protocol.specs.Bytes.{Bytes}
use Rattle.agreement.specs.Lists.{Begins, FewDishonest, HonestIn, KeepsOneBook, Reads}
use Rattle.agreement.specs.Met.{MemberOf}
use Rattle.agreement.specs.ObserverLists.{AnyMember, AnyReads, Meant, NoneCollide, NoneForged}
use Rattle.agreement.specs.ObserverLists.{ObserverKeepsOneBook, ObserverMember, observer_calls, observes}
use Rattle.agreement.specs.ObserverLists.{of_observer, replica_calls}

-- a member of the list, of this observer, with a property
abbrev pub ObserverOf : List AnyMember → ℕ → (ObserverMember → Type 0) → Type 0
ObserverOf list s P = (m : ObserverMember) × Memᴰ (of_observer m) list × (m.observer ≡ s) × P m

module _ (digest : Bytes → Bytes) where
  -- an observer's member is a reading that returns this part
  abbrev pub ObserverReads : Bytes → ObserverMember → Type 0
  ObserverReads part m = (observes digest m).reads ≡ some part

  -- demand 3 with any other conclusion about the two parts that are read; with its own it is `ObservedAgreement`
  -- (ObserverMetLaws)
  unfoldable pub ObservedClaim : (Bytes → Bytes → Type 0) → Type 1
  ObservedClaim Conclusion =
      (weights : List ℕ) (dishonest : ℕ) (observers : ℕ → Type 0) (list : List AnyMember) →
      FewDishonest weights dishonest →
      ((s : ℕ) → HonestIn weights dishonest s → KeepsOneBook digest weights (replica_calls list) s) →
      ((s : ℕ) → observers s → ObserverKeepsOneBook digest weights (observer_calls list) s) →
      NoneForged digest (Meant (HonestIn weights dishonest) observers) (HonestIn weights dishonest) list →
      NoneCollide digest (Meant (HonestIn weights dishonest) observers) list →
      (m m' : AnyMember) (part part' : Bytes) → Memᴰ m list → Memᴰ m' list →
      Meant (HonestIn weights dishonest) observers m → Meant (HonestIn weights dishonest) observers m' →
      AnyReads digest m part → AnyReads digest m' part' → Conclusion part part'

  pub record ObservedMet (weights : List ℕ) (dishonest : ℕ) (observers : ℕ → Type 0) (list : List AnyMember)
      (shorter part : Bytes) : Type 0 where
    -- the premises
    pub few : FewDishonest weights dishonest
    pub keeps : (s : ℕ) → HonestIn weights dishonest s → KeepsOneBook digest weights (replica_calls list) s
    pub observers_keep : (s : ℕ) → observers s → ObserverKeepsOneBook digest weights (observer_calls list) s
    pub unforged : NoneForged digest (Meant (HonestIn weights dishonest) observers) (HonestIn weights dishonest) list
    pub collisionless : NoneCollide digest (Meant (HonestIn weights dishonest) observers) list
    -- replica 0 is honest, observers 0 and 1 are meant, and all three read this part, which is not empty
    pub honest_0 : HonestIn weights dishonest 0
    pub meant_0 : observers 0
    pub meant_1 : observers 1
    pub reads_replica : MemberOf (replica_calls list) 0 (λ m. Reads digest m part)
    pub reads_0 : ObserverOf list 0 (ObserverReads part)
    pub reads_1 : ObserverOf list 1 (ObserverReads part)
    pub not_empty : part ≢ []
    -- observer 1 reads the shorter part as well, which begins this one, and not the other way round
    pub reads_shorter : ObserverOf list 1 (ObserverReads shorter)
    pub begins : Begins shorter part
    pub begins_not : Begins part shorter → ⊥
