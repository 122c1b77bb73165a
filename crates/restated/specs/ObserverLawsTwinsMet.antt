-- Written by tests/restated --write: what docs/statements has of
-- crates/observer_laws/specs/TwinsMet.antt.
use Rattle.std.specs.Prelude.{ℕ, ◌≡◌, List, [], ◌∷◌, ◌++◌, replicate}
use package.Rattle.protocol.specs.Open.{unweighed, weighed}
use package.Rattle.protocol.specs.Bytes.{Bytes, zeros}
use package.Rattle.protocol.specs.Block.{new_block}
use package.Rattle.protocol.specs.Frame.{dummy_vote, block_certificate, dummy_certificate, finalize_certificate}
use package.Rattle.protocol.specs.Answer.{Outcome, Delivery, accepted, idle, refusal_number}
use package.Rattle.protocol.specs.Deliver.{deliver_call}
use package.Rattle.protocol.specs.Move.{move_call}
use package.Rattle.protocol.specs.Read.{read_part}
use package.Rattle.protocol.specs.Call.{Call, opening, delivery, packet_delivery, moving, signalling}
use package.Rattle.protocol.specs.ObserverCalls.{observer_deliver_call, observer_move_call, observer_read_part}
use package.Rattle.protocol.specs.ObserverCall.{ObserverCall, observer_opening, observer_delivery, observer_moving}
use package.Rattle.observer_laws.specs.Twins.{all_given, all_given_to_observer, opens, observer_opens}
use package.Rattle.observer_laws.specs.Twins.{Histories, SameCertificates, book_of, observer_book_of, SameLog}
use package.Rattle.observer_laws.specs.TwinsMet.{entry, block, other_block, old, observer_old, strangers_vote, vote, calls, observer_calls, histories, numbers}
use mathlib.Core.Path.{◌≡◌ as ◌is-kept◌, refl as by-text}
use package.Rattle.observer_laws.specs.TwinsMet as page

abbrev move : Call
move = moving (zeros 448)

entry-kept : Bytes
entry-kept = replicate 16 7

same-entry : entry-kept is-kept page.entry
unfolding entry-kept page.entry
same-entry = by-text

block-kept : Bytes
block-kept = new_block 2 0 (zeros 32) (entry ∷ [])

same-block : block-kept is-kept page.block
unfolding block-kept page.block
same-block = by-text

other_block-kept : Bytes
other_block-kept = new_block 2 0 (zeros 32) []

same-other_block : other_block-kept is-kept page.other_block
unfolding other_block-kept page.other_block
same-other_block = by-text

old-kept : Bytes
old-kept = replicate 2336 9

same-old : old-kept is-kept page.old
unfolding old-kept page.old
same-old = by-text

observer_old-kept : Bytes
observer_old-kept = replicate 432 9

same-observer_old : observer_old-kept is-kept page.observer_old
unfolding observer_old-kept page.observer_old
same-observer_old = by-text

strangers_vote-kept : Bytes
strangers_vote-kept = dummy_vote 9 1

same-strangers_vote : strangers_vote-kept is-kept page.strangers_vote
unfolding strangers_vote-kept page.strangers_vote
same-strangers_vote = by-text

vote-kept : Bytes
vote-kept = dummy_vote 0 1

same-vote : vote-kept is-kept page.vote
unfolding vote-kept page.vote
same-vote = by-text

calls-kept : List Call
calls-kept =
    move ∷ delivery (5 ∷ []) ∷ signalling 1 ∷ delivery (dummy_certificate 1 3) ∷
    opening unweighed 0 2 2 (0 ∷ 1 ∷ []) ∷ move ∷
    delivery (dummy_certificate 1 7) ∷ delivery strangers_vote ∷ move ∷ move ∷
    packet_delivery (block_certificate 2 7 block ++ strangers_vote ++ block_certificate 2 11 other_block) ∷
    delivery (finalize_certificate 2 14) ∷ move ∷ move ∷ []

same-calls : calls-kept is-kept page.calls
unfolding calls-kept page.calls
same-calls = by-text

observer_calls-kept : List ObserverCall
observer_calls-kept =
    observer_delivery (5 ∷ []) ∷ observer_delivery vote ∷ observer_delivery (dummy_certificate 1 3) ∷
    observer_delivery (dummy_certificate 1 7) ∷ observer_opening unweighed 0 2 ∷
    observer_delivery (block_certificate 2 7 block) ∷ observer_moving ∷
    observer_delivery (block_certificate 2 11 other_block) ∷ observer_delivery (finalize_certificate 2 14) ∷
    observer_moving ∷ []

same-observer_calls : observer_calls-kept is-kept page.observer_calls
unfolding observer_calls-kept page.observer_calls
same-observer_calls = by-text

histories-kept : Histories
histories-kept = record {
  way = unweighed;
  observer_way = weighed (1 ∷ 0 ∷ 1 ∷ 0 ∷ 1 ∷ 0 ∷ 1 ∷ 0 ∷ []);
  n = 4;
  heights = 2;
  own = 2;
  leaders = 0 ∷ 1 ∷ [];
  old = old;
  calls = calls;
  observer_old = observer_old;
  observer_calls = observer_calls;
}

same-histories : histories-kept is-kept page.histories
unfolding histories-kept page.histories
same-histories = by-text

numbers-kept : (deliver : Bytes → Bytes → Outcome Delivery) → Bytes → List Bytes → List ℕ
numbers-kept deliver bytes [] = []
numbers-kept deliver bytes (frame ∷ frames) =
    let o : Outcome Delivery = deliver bytes frame in
    refusal_number o.answer ∷ numbers-kept deliver o.book frames

same-numbers : numbers-kept is-kept page.numbers
unfolding numbers-kept page.numbers
same-numbers = by-text

module _ (digest : Bytes → Bytes) where
  abbrev TwinsMet : Type 0
  TwinsMet = page.TwinsMet digest

  TwinsMet-kept : (premises : SameCertificates digest histories) (refusals : numbers (deliver_call digest) (opens histories).book (all_given calls) ≡ 4 ∷ 9 ∷ 0 ∷ 5 ∷ 0 ∷ 5 ∷ 10 ∷ 0 ∷ []) (observer_refusals : numbers (observer_deliver_call digest) (observer_opens histories).book (all_given_to_observer observer_calls) ≡ 4 ∷ 16 ∷ 9 ∷ 0 ∷ 0 ∷ 10 ∷ 0 ∷ []) (rests : (move_call digest (book_of digest histories) (zeros 448)).answer ≡ accepted idle) (observer_rests : (observer_move_call digest (observer_book_of digest histories)).answer ≡ accepted idle) (reads : read_part digest (book_of digest histories) (zeros 16) ≡ entry) (observer_reads : observer_read_part digest (observer_book_of digest histories) (zeros 16) ≡ entry) (applied : SameLog digest (book_of digest histories) (observer_book_of digest histories)) →
      TwinsMet
  TwinsMet-kept x0 x1 x2 x3 x4 x5 x6 x7 = record { premises = x0; refusals = x1; observer_refusals = x2; rests = x3; observer_rests = x4; reads = x5; observer_reads = x6; applied = x7 }
