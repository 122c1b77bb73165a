-- Written by tests/restated --write: what docs/statements has of
-- crates/protocol/specs/Call.antt.
use Rattle.std.specs.Prelude.{ℕ, Bool, true, cond, List, [], ◌∷◌}
use Rattle.std.proofs.Math.Option.{Option, some, none}
use package.Rattle.protocol.specs.Bytes.{Bytes}
use package.Rattle.protocol.specs.Answer.{Done, Delivery, Counts, Outcome, is_accepted}
use package.Rattle.protocol.specs.Open.{Opening, opened_weights, open_call}
use package.Rattle.protocol.specs.Deliver.{deliver_call}
use package.Rattle.protocol.specs.Packet.{packet_frames, accepted_of, packet_call}
use package.Rattle.protocol.specs.Move.{MoveOutcome, move_call}
use package.Rattle.protocol.specs.Signal.{signal_call}
use package.Rattle.protocol.specs.Submit.{submit_call}
use package.Rattle.protocol.specs.Read.{size_call, read_part}
use package.Rattle.protocol.specs.Fetch.{FetchOutcome, fetch_call}
use package.Rattle.protocol.specs.Call.{Call, opening, delivery, packet_delivery, moving, signalling, submitting, sizing, reading, fetching, Opened, Effect, leaves, of_outcome, of_opening, of_delivery, of_packet, of_move, of_reading, of_fetch}
use mathlib.Core.Path.{◌≡◌ as ◌is-kept◌, refl as by-text}
use package.Rattle.protocol.specs.Call as page

Call-opening-kept : (way : Opening) (n own heights : ℕ) (leaders : Bytes) → Call
Call-opening-kept = page.Call.opening

Call-delivery-kept : (frame : Bytes) → Call
Call-delivery-kept = page.Call.delivery

Call-packet_delivery-kept : (packet : Bytes) → Call
Call-packet_delivery-kept = page.Call.packet_delivery

Call-moving-kept : (reply : Bytes) → Call
Call-moving-kept = page.Call.moving

Call-signalling-kept : (h : ℕ) → Call
Call-signalling-kept = page.Call.signalling

Call-submitting-kept : (entry : Bytes) → Call
Call-submitting-kept = page.Call.submitting

Call-sizing-kept : Call
Call-sizing-kept = page.Call.sizing

Call-reading-kept : (buffer : Bytes) → Call
Call-reading-kept = page.Call.reading

Call-fetching-kept : (k h : ℕ) (reply : Bytes) → Call
Call-fetching-kept = page.Call.fetching

Call-apart : Call → Unit {0}
Call-apart (page.Call.opening _ _ _ _ _) = tt
Call-apart (page.Call.delivery _) = tt
Call-apart (page.Call.packet_delivery _) = tt
Call-apart (page.Call.moving _) = tt
Call-apart (page.Call.signalling _) = tt
Call-apart (page.Call.submitting _) = tt
Call-apart (page.Call.sizing) = tt
Call-apart (page.Call.reading _) = tt
Call-apart (page.Call.fetching _ _ _) = tt

Opened-kept : (weights : List ℕ) (own : ℕ) →
    Opened
Opened-kept x0 x1 = record { weights = x0; own = x1 }

Effect-kept : (book : Bytes) (accepted : Bool) (opens : Option Opened) (delivers : List Bytes) (writes : List Bytes) (reads : Option Bytes) →
    Effect
Effect-kept x0 x1 x2 x3 x4 x5 = record { book = x0; accepted = x1; opens = x2; delivers = x3; writes = x4; reads = x5 }

abbrev leaves-kept : Bytes → Bool → Effect
leaves-kept book unrefused =
    record { book = book; accepted = unrefused; opens = none; delivers = []; writes = []; reads = none }

same-leaves : leaves-kept is-kept page.leaves
same-leaves = by-text

abbrev of_outcome-kept : {A : Type 0} → Outcome A → Effect
of_outcome-kept o = leaves o.book (is_accepted o.answer)

same-of_outcome : {A : Type 0} → of_outcome-kept {A = A} is-kept page.of_outcome {A = A}
same-of_outcome = by-text

abbrev of_opening-kept : Opened → Outcome Done → Effect
of_opening-kept opened o =
    let unrefused : Bool = is_accepted o.answer in
    let opens : Option Opened = cond unrefused (some opened) none in
    record { book = o.book; accepted = unrefused; opens = opens; delivers = []; writes = []; reads = none }

same-of_opening : of_opening-kept is-kept page.of_opening
same-of_opening = by-text

abbrev of_delivery-kept : Bytes → Outcome Delivery → Effect
of_delivery-kept frame o =
    let unrefused : Bool = is_accepted o.answer in
    let delivers : List Bytes = cond unrefused (frame ∷ []) [] in
    record { book = o.book; accepted = unrefused; opens = none; delivers = delivers; writes = []; reads = none }

same-of_delivery : of_delivery-kept is-kept page.of_delivery
same-of_delivery = by-text

abbrev of_packet-kept : List Bytes → Outcome Counts → Effect
of_packet-kept frames o =
    let unrefused : Bool = is_accepted o.answer in
    let delivers : List Bytes = cond unrefused frames [] in
    record { book = o.book; accepted = unrefused; opens = none; delivers = delivers; writes = []; reads = none }

same-of_packet : of_packet-kept is-kept page.of_packet
same-of_packet = by-text

abbrev of_move-kept : MoveOutcome → Effect
of_move-kept o =
    let unrefused : Bool = is_accepted o.answer in
    record { book = o.book; accepted = unrefused; opens = none; delivers = []; writes = o.frames; reads = none }

same-of_move : of_move-kept is-kept page.of_move
same-of_move = by-text

abbrev of_reading-kept : Bytes → Bytes → Effect
of_reading-kept book part =
    record { book = book; accepted = true; opens = none; delivers = []; writes = []; reads = some part }

same-of_reading : of_reading-kept is-kept page.of_reading
same-of_reading = by-text

abbrev of_fetch-kept : Bytes → FetchOutcome → Effect
of_fetch-kept book o =
    let unrefused : Bool = is_accepted o.answer in
    record { book = book; accepted = unrefused; opens = none; delivers = []; writes = o.frames; reads = none }

same-of_fetch : of_fetch-kept is-kept page.of_fetch
same-of_fetch = by-text

module _ (digest : Bytes → Bytes) where
  abbrev effect : Bytes → Call → Effect
  effect = page.effect digest

  abbrev book_after : Bytes → Call → Bytes
  book_after = page.book_after digest

  effect-kept : Bytes → Call → Effect
  effect-kept book (opening way n own heights leaders) =
      of_opening (record { weights = opened_weights n way; own = own }) (open_call way book n own heights leaders)
  effect-kept book (delivery frame) = of_delivery frame (deliver_call digest book frame)
  effect-kept book (packet_delivery packet) =
      of_packet (accepted_of digest book (packet_frames packet)) (packet_call digest book packet)
  effect-kept book (moving reply) = of_move (move_call digest book reply)
  effect-kept book (signalling h) = of_outcome (signal_call digest book h)
  effect-kept book (submitting entry) = of_outcome (submit_call digest book entry)
  effect-kept book sizing = leaves book (is_accepted (size_call digest book))
  effect-kept book (reading buffer) = of_reading book (read_part digest book buffer)
  effect-kept book (fetching k h reply) = of_fetch book (fetch_call digest book k h reply)

  same-effect : effect-kept is-kept page.effect digest
  unfolding effect-kept page.effect
  same-effect = by-text

  abbrev book_after-kept : Bytes → Call → Bytes
  book_after-kept book call = (effect book call).book

  same-book_after : book_after-kept is-kept page.book_after digest
  same-book_after = by-text

  book_after_all-kept : Bytes → List Call → Bytes
  book_after_all-kept book [] = book
  book_after_all-kept book (call ∷ calls) = book_after_all-kept (book_after book call) calls

  same-book_after_all : book_after_all-kept is-kept page.book_after_all digest
  unfolding book_after_all-kept page.book_after_all
  same-book_after_all = by-text
