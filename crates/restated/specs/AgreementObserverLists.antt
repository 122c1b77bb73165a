-- Written by tests/restated --write: what docs/statements has of
-- crates/agreement/specs/ObserverLists.antt.
use Rattle.std.specs.Prelude.{ℕ, ◌≡◌, ◌⊎◌, cond, eqb}
use mathlib.Core.List.{List, [], ◌∷◌, ◌++◌, Memᴰ}
use Rattle.std.proofs.Math.Option.{Option, some, none}
use package.Rattle.protocol.specs.Bytes.{Bytes}
use package.Rattle.protocol.specs.ObserverCall.{ObserverCall, Observation, observation}
use package.Rattle.agreement.specs.Lists.{Begins, FewDishonest, HonestIn, KeepsOneBook, Member, Reads, Statement, Wrote}
use package.Rattle.agreement.specs.Lists.{block_in, delivers, or_else, statement_of, writes}
use package.Rattle.agreement.specs.ObserverLists.{ObserverMember, AnyMember, of_replica, of_observer, replica_calls, observer_calls, Meant}
use mathlib.Core.Path.{◌≡◌ as ◌is-kept◌, refl as by-text}
use package.Rattle.agreement.specs.ObserverLists as page

ObserverMember-kept : (observer : ℕ) (book : Bytes) (call : ObserverCall) →
    ObserverMember
ObserverMember-kept x0 x1 x2 = record { observer = x0; book = x1; call = x2 }

AnyMember-of_replica-kept : Member → AnyMember
AnyMember-of_replica-kept = page.AnyMember.of_replica

AnyMember-of_observer-kept : ObserverMember → AnyMember
AnyMember-of_observer-kept = page.AnyMember.of_observer

AnyMember-apart : AnyMember → Unit {0}
AnyMember-apart (page.AnyMember.of_replica _) = tt
AnyMember-apart (page.AnyMember.of_observer _) = tt

replica_calls-kept : List AnyMember → List Member
replica_calls-kept [] = []
replica_calls-kept (of_replica m ∷ list) = m ∷ replica_calls-kept list
replica_calls-kept (of_observer m ∷ list) = replica_calls-kept list

same-replica_calls : replica_calls-kept is-kept page.replica_calls
unfolding replica_calls-kept page.replica_calls
same-replica_calls = by-text

observer_calls-kept : List AnyMember → List ObserverMember
observer_calls-kept [] = []
observer_calls-kept (of_replica m ∷ list) = observer_calls-kept list
observer_calls-kept (of_observer m ∷ list) = m ∷ observer_calls-kept list

same-observer_calls : observer_calls-kept is-kept page.observer_calls
unfolding observer_calls-kept page.observer_calls
same-observer_calls = by-text

Meant-kept : (books observers : ℕ → Type 0) → AnyMember → Type 0
Meant-kept books observers (of_replica m) = books m.replica
Meant-kept books observers (of_observer m) = observers m.observer

same-Meant : Meant-kept is-kept page.Meant
unfolding Meant-kept page.Meant
same-Meant = by-text

module _ (digest : Bytes → Bytes) where
  abbrev observes : ObserverMember → Observation
  observes = page.observes digest

  abbrev any_delivers : AnyMember → List Bytes
  any_delivers = page.any_delivers digest

  abbrev any_shows : AnyMember → List Bytes
  any_shows = page.any_shows digest

  abbrev AnyReads : AnyMember → Bytes → Type 0
  AnyReads = page.AnyReads digest

  abbrev observer_left_by : ℕ → ObserverMember → Option Bytes
  observer_left_by = page.observer_left_by digest

  abbrev observer_last_left : ℕ → List ObserverMember → Option Bytes
  observer_last_left = page.observer_last_left digest

  abbrev ObserverFollows : List ℕ → ObserverMember → Option Bytes → Type 0
  ObserverFollows = page.ObserverFollows digest

  abbrev ObserverKeepsOneBook : List ℕ → List ObserverMember → ℕ → Type 0
  ObserverKeepsOneBook = page.ObserverKeepsOneBook digest

  abbrev NoneForged : (members : AnyMember → Type 0) (names : ℕ → Type 0) → List AnyMember → Type 0
  NoneForged = page.NoneForged digest

  abbrev AnyShows : AnyMember → Bytes → Type 0
  AnyShows = page.AnyShows digest

  abbrev NoneCollide : (members : AnyMember → Type 0) → List AnyMember → Type 0
  NoneCollide = page.NoneCollide digest

  abbrev observes-kept : ObserverMember → Observation
  observes-kept m = observation digest m.book m.call

  same-observes : observes-kept is-kept page.observes digest
  same-observes = by-text

  any_delivers-kept : AnyMember → List Bytes
  any_delivers-kept (of_replica m) = delivers digest m
  any_delivers-kept (of_observer m) = (observes m).delivers

  same-any_delivers : any_delivers-kept is-kept page.any_delivers digest
  unfolding any_delivers-kept page.any_delivers
  same-any_delivers = by-text

  any_shows-kept : AnyMember → List Bytes
  any_shows-kept (of_replica m) = delivers digest m ++ writes digest m
  any_shows-kept (of_observer m) = (observes m).delivers

  same-any_shows : any_shows-kept is-kept page.any_shows digest
  unfolding any_shows-kept page.any_shows
  same-any_shows = by-text

  AnyReads-kept : AnyMember → Bytes → Type 0
  AnyReads-kept (of_replica m) part = Reads digest m part
  AnyReads-kept (of_observer m) part = (observes m).reads ≡ some part

  same-AnyReads : AnyReads-kept is-kept page.AnyReads digest
  unfolding AnyReads-kept page.AnyReads
  same-AnyReads = by-text

  observer_left_by-kept : ℕ → ObserverMember → Option Bytes
  observer_left_by-kept s m = cond (eqb m.observer s) (some (observes m).book) none

  same-observer_left_by : observer_left_by-kept is-kept page.observer_left_by digest
  unfolding observer_left_by-kept page.observer_left_by
  same-observer_left_by = by-text

  observer_last_left-kept : ℕ → List ObserverMember → Option Bytes
  observer_last_left-kept s [] = none
  observer_last_left-kept s (m ∷ ms) = or_else (observer_last_left-kept s ms) (observer_left_by s m)

  same-observer_last_left : observer_last_left-kept is-kept page.observer_last_left digest
  unfolding observer_last_left-kept page.observer_last_left
  same-observer_last_left = by-text

  ObserverFollows-kept : List ℕ → ObserverMember → Option Bytes → Type 0
  ObserverFollows-kept weights m none = (observes m).opens ≡ some weights
  ObserverFollows-kept weights m (some book) = (m.book ≡ book) × ((observes m).opens ≡ none)

  same-ObserverFollows : ObserverFollows-kept is-kept page.ObserverFollows digest
  unfolding ObserverFollows-kept page.ObserverFollows
  same-ObserverFollows = by-text

  ObserverKeepsOneBook-kept : List ℕ → List ObserverMember → ℕ → Type 0
  ObserverKeepsOneBook-kept weights list s =
      (before : List ObserverMember) (m : ObserverMember) (after : List ObserverMember) →
      list ≡ before ++ (m ∷ after) → m.observer ≡ s → ObserverFollows weights m (observer_last_left s before)

  same-ObserverKeepsOneBook : ObserverKeepsOneBook-kept is-kept page.ObserverKeepsOneBook digest
  unfolding ObserverKeepsOneBook-kept page.ObserverKeepsOneBook
  same-ObserverKeepsOneBook = by-text

  NoneForged-kept : (members : AnyMember → Type 0) (names : ℕ → Type 0) → List AnyMember → Type 0
  NoneForged-kept members names list =
      (before : List AnyMember) (m : AnyMember) (after : List AnyMember) (frame : Bytes) (s : ℕ)
      (statement : Statement) → list ≡ before ++ (m ∷ after) → members m → names s →
      Memᴰ frame (any_delivers m) → statement_of digest frame s ≡ some statement →
      Wrote digest s statement (replica_calls before)

  same-NoneForged : NoneForged-kept is-kept page.NoneForged digest
  unfolding NoneForged-kept page.NoneForged
  same-NoneForged = by-text

  AnyShows-kept : AnyMember → Bytes → Type 0
  AnyShows-kept m block = (frame : Bytes) × Memᴰ frame (any_shows m) × (block_in frame ≡ some block)

  same-AnyShows : AnyShows-kept is-kept page.AnyShows digest
  unfolding AnyShows-kept page.AnyShows
  same-AnyShows = by-text

  NoneCollide-kept : (members : AnyMember → Type 0) → List AnyMember → Type 0
  NoneCollide-kept members list =
      (m m' : AnyMember) (block block' : Bytes) → Memᴰ m list → Memᴰ m' list → members m → members m' →
      AnyShows m block → AnyShows m' block' → digest block ≡ digest block' → block ≡ block'

  same-NoneCollide : NoneCollide-kept is-kept page.NoneCollide digest
  unfolding NoneCollide-kept page.NoneCollide
  same-NoneCollide = by-text

  ObservedAgreement-kept : Type 1
  ObservedAgreement-kept =
      (weights : List ℕ) (dishonest : ℕ) (observers : ℕ → Type 0) (list : List AnyMember) →
      FewDishonest weights dishonest →
      ((s : ℕ) → HonestIn weights dishonest s → KeepsOneBook digest weights (replica_calls list) s) →
      ((s : ℕ) → observers s → ObserverKeepsOneBook weights (observer_calls list) s) →
      NoneForged (Meant (HonestIn weights dishonest) observers) (HonestIn weights dishonest) list →
      NoneCollide (Meant (HonestIn weights dishonest) observers) list →
      (m m' : AnyMember) (part part' : Bytes) → Memᴰ m list → Memᴰ m' list →
      Meant (HonestIn weights dishonest) observers m → Meant (HonestIn weights dishonest) observers m' →
      AnyReads m part → AnyReads m' part' → Begins part part' ⊎ Begins part' part

  same-ObservedAgreement : ObservedAgreement-kept is-kept page.ObservedAgreement digest
  unfolding ObservedAgreement-kept page.ObservedAgreement
  same-ObservedAgreement = by-text
