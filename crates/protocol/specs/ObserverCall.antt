-- The five calls of an observer as data, and what each one does: the book that it leaves, whether it is refused, the
-- book that it opens, the frames that it delivers and the part that it reads. No call of an observer writes a frame.
use Rattle.std.specs.Prelude.{ℕ, Bool, true, cond, List, [], ◌∷◌}
use Rattle.std.proofs.Math.Option.{Option, some, none}
use Rattle.protocol.specs.Bytes.{Bytes}
use Rattle.protocol.specs.Open.{Opening, opened_weights}
use Rattle.protocol.specs.Answer.{Outcome, Done, Delivery, Move, is_accepted}
use Rattle.protocol.specs.ObserverCalls.{observer_open_call, observer_deliver_call, observer_move_call}
use Rattle.protocol.specs.ObserverCalls.{observer_size_call, observer_read_part}

-- a call with its arguments; `buffer` is lent to it and holds any bytes
pub data ObserverCall : Type 0 where
  observer_opening : (way : Opening) (n heights : ℕ) → ObserverCall
  observer_delivery : (frame : Bytes) → ObserverCall
  observer_moving : ObserverCall
  observer_sizing : ObserverCall
  observer_reading : (buffer : Bytes) → ObserverCall

-- what a call does on an observer's book
pub record Observation : Type 0 where
  -- the book afterwards
  pub book : Bytes
  -- not refused; Read refuses nothing, it returns the empty part
  pub accepted : Bool
  -- of an opening that is not refused, the weights of the replicas
  pub opens : Option (List ℕ)
  -- the frames that it delivers: that of a delivery that is not refused
  pub delivers : List Bytes
  -- of a reading the part that it returns, an empty one too
  pub reads : Option Bytes

-- ---- what a call's outcome comes to
abbrev pub observes_book : Bytes → Bool → Observation
observes_book book unrefused = record { book = book; accepted = unrefused; opens = none; delivers = []; reads = none }

abbrev pub observes_opening : List ℕ → Outcome Done → Observation
observes_opening weights o =
    let unrefused : Bool = is_accepted o.answer in
    let opens : Option (List ℕ) = cond unrefused (some weights) none in
    record { book = o.book; accepted = unrefused; opens = opens; delivers = []; reads = none }

abbrev pub observes_delivery : Bytes → Outcome Delivery → Observation
observes_delivery frame o =
    let unrefused : Bool = is_accepted o.answer in
    let delivers : List Bytes = cond unrefused (frame ∷ []) [] in
    record { book = o.book; accepted = unrefused; opens = none; delivers = delivers; reads = none }

abbrev pub observes_move : Outcome Move → Observation
observes_move o = observes_book o.book (is_accepted o.answer)

abbrev pub observes_reading : Bytes → Bytes → Observation
observes_reading book part = record { book = book; accepted = true; opens = none; delivers = []; reads = some part }

module _ (digest : Bytes → Bytes) where
  -- ---- the calls
  unfoldable pub observation : Bytes → ObserverCall → Observation
  observation book (observer_opening way n heights) =
      observes_opening (opened_weights n way) (observer_open_call way book n heights)
  observation book (observer_delivery frame) = observes_delivery frame (observer_deliver_call digest book frame)
  observation book observer_moving = observes_move (observer_move_call digest book)
  observation book observer_sizing = observes_book book (is_accepted (observer_size_call digest book))
  observation book (observer_reading buffer) = observes_reading book (observer_read_part digest book buffer)

  -- the book after a list of calls, the first one first
  unfoldable pub observer_book_after_all : Bytes → List ObserverCall → Bytes
  observer_book_after_all book [] = book
  observer_book_after_all book (call ∷ calls) = observer_book_after_all (observation book call).book calls
