-- Calls that meet every premise of `Twins`, whatever the digest, and after which both read an entry: among four
-- replicas, replica 2 and an observer are given six certificates, of which three are refused, in deliveries and a
-- packet and with moves at other times. An opening and votes come between, at other times too, and are refused. The
-- replica's book is of edition 1, the observer's of edition 2, and all weigh 1.
use Rattle.std.specs.Prelude.{ℕ, ◌≡◌, List, [], ◌∷◌, ◌++◌, replicate}
use Rattle.protocol.specs.Open.{unweighed, weighed}
use Rattle.protocol.specs.Bytes.{Bytes, zeros}
use Rattle.protocol.specs.Block.{new_block}
use Rattle.protocol.specs.Frame.{dummy_vote, block_certificate, dummy_certificate, finalize_certificate}
use Rattle.protocol.specs.Answer.{Outcome, Delivery, accepted, idle, refusal_number}
use Rattle.protocol.specs.Deliver.{deliver_call}
use Rattle.protocol.specs.Move.{move_call}
use Rattle.protocol.specs.Read.{read_part}
use Rattle.protocol.specs.Call.{Call, opening, delivery, packet_delivery, moving, signalling}
use Rattle.protocol.specs.ObserverCalls.{observer_deliver_call, observer_move_call, observer_read_part}
use Rattle.protocol.specs.ObserverCall.{ObserverCall, observer_opening, observer_delivery, observer_moving}
use Rattle.observer_laws.specs.Twins.{all_given, all_given_to_observer, opens, observer_opens}
use Rattle.observer_laws.specs.Twins.{Histories, SameCertificates, book_of, observer_book_of, SameLog}

-- ---- what is said
unfoldable pub entry : Bytes
entry = replicate 16 7

-- a block of height 2 on height 0, and another one
unfoldable pub block : Bytes
block = new_block 2 0 (zeros 32) (entry ∷ [])

unfoldable pub other_block : Bytes
other_block = new_block 2 0 (zeros 32) []

-- ---- what is called, over old bytes
unfoldable pub old : Bytes
old = replicate 2336 9

unfoldable pub observer_old : Bytes
observer_old = replicate 432 9

-- a vote of replica 9, of which there is none, and one of replica 0
unfoldable pub strangers_vote : Bytes
strangers_vote = dummy_vote 9 1

unfoldable pub vote : Bytes
vote = dummy_vote 0 1

abbrev move : Call
move = moving (zeros 448)

unfoldable pub calls : List Call
calls =
    move ∷ delivery (5 ∷ []) ∷ signalling 1 ∷ delivery (dummy_certificate 1 3) ∷
    opening unweighed 0 2 2 (0 ∷ 1 ∷ []) ∷ move ∷
    delivery (dummy_certificate 1 7) ∷ delivery strangers_vote ∷ move ∷ move ∷
    packet_delivery (block_certificate 2 7 block ++ strangers_vote ++ block_certificate 2 11 other_block) ∷
    delivery (finalize_certificate 2 14) ∷ move ∷ move ∷ []

unfoldable pub observer_calls : List ObserverCall
observer_calls =
    observer_delivery (5 ∷ []) ∷ observer_delivery vote ∷ observer_delivery (dummy_certificate 1 3) ∷
    observer_delivery (dummy_certificate 1 7) ∷ observer_opening unweighed 0 2 ∷
    observer_delivery (block_certificate 2 7 block) ∷ observer_moving ∷
    observer_delivery (block_certificate 2 11 other_block) ∷ observer_delivery (finalize_certificate 2 14) ∷
    observer_moving ∷ []

-- n 4 and H 2, the replica's own number 2
unfoldable pub histories : Histories
histories = record {
  way = unweighed;
  observer_way = weighed (1 ∷ 0 ∷ 1 ∷ 0 ∷ 1 ∷ 0 ∷ 1 ∷ 0 ∷ []);
  n = 4;
  heights = 2;
  own = 2;
  leaders = 0 ∷ 1 ∷ [];
  old = old;
  calls = calls;
  observer_old = observer_old;
  observer_calls = observer_calls;
}

-- by which numbers these frames, delivered one after the other, are refused, and 0 for what is taken
unfoldable pub numbers : (deliver : Bytes → Bytes → Outcome Delivery) → Bytes → List Bytes → List ℕ
numbers deliver bytes [] = []
numbers deliver bytes (frame ∷ frames) =
    let o : Outcome Delivery = deliver bytes frame in
    refusal_number o.answer ∷ numbers deliver o.book frames

module _ (digest : Bytes → Bytes) where
  pub record TwinsMet : Type 0 where
    pub premises : SameCertificates digest histories
    -- the frame of one byte is refused with 4, the mask of two replicas with 9, and the other block with 10, by both;
    -- the vote of replica 9 with 5 by the replica, and that of replica 0 with 16 by the observer
    pub refusals : numbers (deliver_call digest) (opens histories).book (all_given calls) ≡
        4 ∷ 9 ∷ 0 ∷ 5 ∷ 0 ∷ 5 ∷ 10 ∷ 0 ∷ []
    pub observer_refusals : numbers (observer_deliver_call digest) (observer_opens histories).book
        (all_given_to_observer observer_calls) ≡ 4 ∷ 16 ∷ 9 ∷ 0 ∷ 0 ∷ 10 ∷ 0 ∷ []
    pub rests : (move_call digest (book_of digest histories) (zeros 448)).answer ≡ accepted idle
    pub observer_rests : (observer_move_call digest (observer_book_of digest histories)).answer ≡ accepted idle
    pub reads : read_part digest (book_of digest histories) (zeros 16) ≡ entry
    pub observer_reads : observer_read_part digest (observer_book_of digest histories) (zeros 16) ≡ entry
    -- the claim applied to them
    pub applied : SameLog digest (book_of digest histories) (observer_book_of digest histories)
