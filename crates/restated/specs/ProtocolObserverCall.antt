-- Written by tests/restated --write: what docs/statements has of
-- crates/protocol/specs/ObserverCall.antt.
use Rattle.std.specs.Prelude.{ℕ, Bool, true, cond, List, [], ◌∷◌}
use Rattle.std.proofs.Math.Option.{Option, some, none}
use package.Rattle.protocol.specs.Bytes.{Bytes}
use package.Rattle.protocol.specs.Open.{Opening, opened_weights}
use package.Rattle.protocol.specs.Answer.{Outcome, Done, Delivery, Move, is_accepted}
use package.Rattle.protocol.specs.ObserverCalls.{observer_open_call, observer_deliver_call, observer_move_call}
use package.Rattle.protocol.specs.ObserverCalls.{observer_size_call, observer_read_part}
use package.Rattle.protocol.specs.ObserverCall.{ObserverCall, observer_opening, observer_delivery, observer_moving, observer_sizing, observer_reading, Observation, observes_book, observes_opening, observes_delivery, observes_move, observes_reading}
use mathlib.Core.Path.{◌≡◌ as ◌is-kept◌, refl as by-text}
use package.Rattle.protocol.specs.ObserverCall as page

ObserverCall-observer_opening-kept : (way : Opening) (n heights : ℕ) → ObserverCall
ObserverCall-observer_opening-kept = page.ObserverCall.observer_opening

ObserverCall-observer_delivery-kept : (frame : Bytes) → ObserverCall
ObserverCall-observer_delivery-kept = page.ObserverCall.observer_delivery

ObserverCall-observer_moving-kept : ObserverCall
ObserverCall-observer_moving-kept = page.ObserverCall.observer_moving

ObserverCall-observer_sizing-kept : ObserverCall
ObserverCall-observer_sizing-kept = page.ObserverCall.observer_sizing

ObserverCall-observer_reading-kept : (buffer : Bytes) → ObserverCall
ObserverCall-observer_reading-kept = page.ObserverCall.observer_reading

ObserverCall-apart : ObserverCall → Unit {0}
ObserverCall-apart (page.ObserverCall.observer_opening _ _ _) = tt
ObserverCall-apart (page.ObserverCall.observer_delivery _) = tt
ObserverCall-apart (page.ObserverCall.observer_moving) = tt
ObserverCall-apart (page.ObserverCall.observer_sizing) = tt
ObserverCall-apart (page.ObserverCall.observer_reading _) = tt

Observation-kept : (book : Bytes) (accepted : Bool) (opens : Option (List ℕ)) (delivers : List Bytes) (reads : Option Bytes) →
    Observation
Observation-kept x0 x1 x2 x3 x4 = record { book = x0; accepted = x1; opens = x2; delivers = x3; reads = x4 }

abbrev observes_book-kept : Bytes → Bool → Observation
observes_book-kept book unrefused = record { book = book; accepted = unrefused; opens = none; delivers = []; reads = none }

same-observes_book : observes_book-kept is-kept page.observes_book
same-observes_book = by-text

abbrev observes_opening-kept : List ℕ → Outcome Done → Observation
observes_opening-kept weights o =
    let unrefused : Bool = is_accepted o.answer in
    let opens : Option (List ℕ) = cond unrefused (some weights) none in
    record { book = o.book; accepted = unrefused; opens = opens; delivers = []; reads = none }

same-observes_opening : observes_opening-kept is-kept page.observes_opening
same-observes_opening = by-text

abbrev observes_delivery-kept : Bytes → Outcome Delivery → Observation
observes_delivery-kept frame o =
    let unrefused : Bool = is_accepted o.answer in
    let delivers : List Bytes = cond unrefused (frame ∷ []) [] in
    record { book = o.book; accepted = unrefused; opens = none; delivers = delivers; reads = none }

same-observes_delivery : observes_delivery-kept is-kept page.observes_delivery
same-observes_delivery = by-text

abbrev observes_move-kept : Outcome Move → Observation
observes_move-kept o = observes_book o.book (is_accepted o.answer)

same-observes_move : observes_move-kept is-kept page.observes_move
same-observes_move = by-text

abbrev observes_reading-kept : Bytes → Bytes → Observation
observes_reading-kept book part = record { book = book; accepted = true; opens = none; delivers = []; reads = some part }

same-observes_reading : observes_reading-kept is-kept page.observes_reading
same-observes_reading = by-text

module _ (digest : Bytes → Bytes) where
  abbrev observation : Bytes → ObserverCall → Observation
  observation = page.observation digest

  observation-kept : Bytes → ObserverCall → Observation
  observation-kept book (observer_opening way n heights) =
      observes_opening (opened_weights n way) (observer_open_call way book n heights)
  observation-kept book (observer_delivery frame) = observes_delivery frame (observer_deliver_call digest book frame)
  observation-kept book observer_moving = observes_move (observer_move_call digest book)
  observation-kept book observer_sizing = observes_book book (is_accepted (observer_size_call digest book))
  observation-kept book (observer_reading buffer) = observes_reading book (observer_read_part digest book buffer)

  same-observation : observation-kept is-kept page.observation digest
  unfolding observation-kept page.observation
  same-observation = by-text

  observer_book_after_all-kept : Bytes → List ObserverCall → Bytes
  observer_book_after_all-kept book [] = book
  observer_book_after_all-kept book (call ∷ calls) = observer_book_after_all-kept (observation book call).book calls

  same-observer_book_after_all : observer_book_after_all-kept is-kept page.observer_book_after_all digest
  unfolding observer_book_after_all-kept page.observer_book_after_all
  same-observer_book_after_all = by-text
