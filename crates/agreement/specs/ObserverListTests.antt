-- The premises of demand 3 on observers as tests, so that they compute on a closed list.
use Rattle.std.specs.Prelude.{ℕ, Bool, true, false, ◌&&◌, not, cond, List, [], ◌∷◌, ◌++◌, eqb}
use Rattle.std.proofs.Math.Option.{Option, some, none}
use Rattle.protocol.specs.Bytes.{Bytes, same, holds}
use Rattle.protocol.specs.Move.{is_some}
use Rattle.protocol.specs.Tests.{implies}
use Rattle.agreement.specs.ListTests.{every_in, is_honest, reads_part}
use Rattle.agreement.specs.Lists.{delivers, or_else}
use Rattle.agreement.specs.ObserverLists.{AnyMember, ObserverMember, observer_left_by, observes, of_observer}
use Rattle.agreement.specs.ObserverLists.{of_replica}

-- an observer's book was opened for replicas of these weights
unfoldable pub are_weights : List ℕ → Option (List ℕ) → Bool
are_weights weights none = false
are_weights weights (some opened) = same opened weights

module _ (digest : Bytes → Bytes) where
  -- ---- the book
  -- a member of an observer is what it must be, after a last one that left this book, or as the first one
  unfoldable pub observer_follows : List ℕ → ObserverMember → Option Bytes → Bool
  observer_follows weights m none = are_weights weights (observes digest m).opens
  observer_follows weights m (some book) = same m.book book && not (is_some (observes digest m).opens)

  -- so is every member of observer `s`, where `left` is the book that those before these left
  unfoldable pub observer_keeps : List ℕ → ℕ → Option Bytes → List ObserverMember → Bool
  observer_keeps weights s left [] = true
  observer_keeps weights s left (m ∷ ms) =
      implies (eqb m.observer s) (observer_follows weights m left) &&
      observer_keeps weights s (or_else (observer_left_by digest s m) left) ms

  -- ---- statements and blocks
  -- what is delivered to these observers was delivered to honest replicas before, where `heard` has the frames that
  -- were delivered to them before these members
  unfoldable pub echoes : List ℕ → ℕ → (ℕ → Bool) → List Bytes → List AnyMember → Bool
  echoes weights dishonest observers heard [] = true
  echoes weights dishonest observers heard (of_replica m ∷ ms) =
      echoes weights dishonest observers
      (cond (is_honest weights dishonest m.replica) (delivers digest m) [] ++ heard) ms
  echoes weights dishonest observers heard (of_observer m ∷ ms) =
      implies (observers m.observer) (every_in (λ frame. holds frame heard) (observes digest m).delivers) &&
      echoes weights dishonest observers heard ms

  -- ---- a member of observer `s` that reads this part
  unfoldable pub observer_reads_at : Bytes → ℕ → AnyMember → Bool
  observer_reads_at part s (of_replica m) = false
  observer_reads_at part s (of_observer m) = eqb m.observer s && reads_part part (observes digest m).reads
