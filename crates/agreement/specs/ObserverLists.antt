-- Lists of calls in which observers are members too, and demand 3 as one claim about such a list (document 02, 2.3).
use Rattle.std.specs.Prelude.{ℕ, ◌≡◌, ◌⊎◌, cond, eqb}
use mathlib.Core.List.{List, [], ◌∷◌, ◌++◌, Memᴰ}
use Rattle.std.proofs.Math.Option.{Option, some, none}
use Rattle.protocol.specs.Bytes.{Bytes}
use Rattle.protocol.specs.ObserverCall.{ObserverCall, Observation, observation}
use Rattle.agreement.specs.Lists.{Begins, FewDishonest, HonestIn, KeepsOneBook, Member, Reads, Statement, Wrote}
use Rattle.agreement.specs.Lists.{block_in, delivers, or_else, statement_of, writes}

-- ---- members of a list
-- whose call it is, the book that it gets, and the call with its arguments. Observers are numbered apart from
-- replicas, and there may be any number of them: they have no name, so that no statement is theirs, and write no frame
pub record ObserverMember : Type 0 where
  pub observer : ℕ
  pub book : Bytes
  pub call : ObserverCall

pub data AnyMember : Type 0 where
  of_replica : Member → AnyMember
  of_observer : ObserverMember → AnyMember

-- the calls of replicas, in their order
unfoldable pub replica_calls : List AnyMember → List Member
replica_calls [] = []
replica_calls (of_replica m ∷ list) = m ∷ replica_calls list
replica_calls (of_observer m ∷ list) = replica_calls list

-- those of observers
unfoldable pub observer_calls : List AnyMember → List ObserverMember
observer_calls [] = []
observer_calls (of_replica m ∷ list) = observer_calls list
observer_calls (of_observer m ∷ list) = m ∷ observer_calls list

-- whose members are meant: those of some replicas' books and of some observers'
unfoldable pub Meant : (books observers : ℕ → Type 0) → AnyMember → Type 0
Meant books observers (of_replica m) = books m.replica
Meant books observers (of_observer m) = observers m.observer

module _ (digest : Bytes → Bytes) where
  -- ---- what a member does
  abbrev pub observes : ObserverMember → Observation
  observes m = observation digest m.book m.call

  -- the frames that it delivers
  unfoldable pub any_delivers : AnyMember → List Bytes
  any_delivers (of_replica m) = delivers digest m
  any_delivers (of_observer m) = (observes m).delivers

  -- those that it delivers or writes
  unfoldable pub any_shows : AnyMember → List Bytes
  any_shows (of_replica m) = delivers digest m ++ writes digest m
  any_shows (of_observer m) = (observes m).delivers

  -- it is a reading that returns this part, an empty one too
  unfoldable pub AnyReads : AnyMember → Bytes → Type 0
  AnyReads (of_replica m) part = Reads digest m part
  AnyReads (of_observer m) part = (observes m).reads ≡ some part

  -- ---- what is granted of an observer's book
  -- the book that a member leaves, if it is a member of observer `s`
  unfoldable pub observer_left_by : ℕ → ObserverMember → Option Bytes
  observer_left_by s m = cond (eqb m.observer s) (some (observes m).book) none

  -- the book as the last member of observer `s` left it, and none where `s` has no member yet
  unfoldable pub observer_last_left : ℕ → List ObserverMember → Option Bytes
  observer_last_left s [] = none
  observer_last_left s (m ∷ ms) = or_else (observer_last_left s ms) (observer_left_by s m)

  -- what a member of an observer must be, after a last one that left this book, or as the first one: an opening for
  -- replicas of these weights, not refused, whose book may hold any bytes, have any heights and be of either edition
  -- as with `Opens`; or a call that gets this book, and is no opening or a refused one
  unfoldable pub ObserverFollows : List ℕ → ObserverMember → Option Bytes → Type 0
  ObserverFollows weights m none = (observes m).opens ≡ some weights
  ObserverFollows weights m (some book) = (m.book ≡ book) × ((observes m).opens ≡ none)

  -- observer `s` opens its book first and once, and only its own calls write to it
  unfoldable pub ObserverKeepsOneBook : List ℕ → List ObserverMember → ℕ → Type 0
  ObserverKeepsOneBook weights list s =
      (before : List ObserverMember) (m : ObserverMember) (after : List ObserverMember) →
      list ≡ before ++ (m ∷ after) → m.observer ≡ s → ObserverFollows weights m (observer_last_left s before)

  -- ---- what is granted of statements and digests
  -- a statement in one of these names is delivered only after that replica wrote it; asked of these members
  unfoldable pub NoneForged : (members : AnyMember → Type 0) (names : ℕ → Type 0) → List AnyMember → Type 0
  NoneForged members names list =
      (before : List AnyMember) (m : AnyMember) (after : List AnyMember) (frame : Bytes) (s : ℕ)
      (statement : Statement) → list ≡ before ++ (m ∷ after) → members m → names s →
      Memᴰ frame (any_delivers m) → statement_of digest frame s ≡ some statement →
      Wrote digest s statement (replica_calls before)

  -- a member delivers or writes this block
  unfoldable pub AnyShows : AnyMember → Bytes → Type 0
  AnyShows m block = (frame : Bytes) × Memᴰ frame (any_shows m) × (block_in frame ≡ some block)

  -- no two different blocks delivered or written share a digest; asked of these members
  unfoldable pub NoneCollide : (members : AnyMember → Type 0) → List AnyMember → Type 0
  NoneCollide members list =
      (m m' : AnyMember) (block block' : Bytes) → Memᴰ m list → Memᴰ m' list → members m → members m' →
      AnyShows m block → AnyShows m' block' → digest block ≡ digest block' → block ≡ block'

  -- ---- the claim
  -- demand 3: of two logs read in the list from observers and honest replicas, from two of them or twice from one, one
  -- is a beginning of the other; only those observers are meant that keep their books
  unfoldable pub ObservedAgreement : Type 1
  ObservedAgreement =
      (weights : List ℕ) (dishonest : ℕ) (observers : ℕ → Type 0) (list : List AnyMember) →
      FewDishonest weights dishonest →
      ((s : ℕ) → HonestIn weights dishonest s → KeepsOneBook digest weights (replica_calls list) s) →
      ((s : ℕ) → observers s → ObserverKeepsOneBook weights (observer_calls list) s) →
      NoneForged (Meant (HonestIn weights dishonest) observers) (HonestIn weights dishonest) list →
      NoneCollide (Meant (HonestIn weights dishonest) observers) list →
      (m m' : AnyMember) (part part' : Bytes) → Memᴰ m list → Memᴰ m' list →
      Meant (HonestIn weights dishonest) observers m → Meant (HonestIn weights dishonest) observers m' →
      AnyReads m part → AnyReads m' part' → Begins part part' ⊎ Begins part' part
