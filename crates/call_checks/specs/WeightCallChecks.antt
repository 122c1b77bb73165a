-- Calls by weight (document 02, 2.6): Open with weights, certificates, votes, moves and fetches where weights and
-- numbers of replicas say different things, and the edition, which no call changes.
use Rattle.std.specs.Prelude.{ℕ, ◌+◌, ◌*◌, ◌≡◌, refl, List, [], ◌∷◌, ◌++◌, map, replicate, take}
use Rattle.std.proofs.Math.Option.{Option, some, none}
use Rattle.protocol.specs.Bytes.{Bytes, zeros, le16}
use Rattle.protocol.specs.Tests.{first_refusal}
use Rattle.protocol.specs.Block.{new_block}
use Rattle.protocol.specs.Frame.{proposal, block_vote, dummy_vote, finalize, block_certificate, dummy_certificate}
use Rattle.protocol.specs.Frame.{finalize_certificate}
use Rattle.protocol.specs.State.{State}
use Rattle.protocol.specs.Answer.{refusal_number}
use Rattle.protocol.specs.Open.{unweighed, weighed, open_call}
use Rattle.protocol.specs.Deliver.{read_rows, clash_rows}
use Rattle.protocol.specs.Call.{Opened, opening, delivery, packet_delivery, moving, signalling, submitting}
use Rattle.protocol.specs.Call.{sizing, reading, fetching, effect}
use Rattle.check_books.specs.CheckCalls.{stand_in, two_bytes, weighing, one_bytes, perform, splice}
use Rattle.check_books.specs.CheckCalls.{first_edition, expect, disagreement}
use Rattle.check_books.specs.CheckStates.{entry, counting, vacant, state_of, state_tools}

-- ---- Open
-- the refusal's number over a book of so many bytes for n replicas with these bytes of weights, and 0 where it is
-- opened
opens : (length n : ℕ) → Bytes → ℕ
opens length n bytes = refusal_number (open_call (weighed bytes) (replicate length 9) n 0 1 (0 ∷ [])).answer

-- two bytes for each replica, of 4, 16 and 1: none, one weight fewer, a byte fewer, a byte more, one weight more
weight_lengths : map (λ count. opens 1456 4 (take count (one_bytes 16))) (0 ∷ 4 ∷ 6 ∷ 7 ∷ 8 ∷ 9 ∷ 10 ∷ 32 ∷ []) ++
    (map (λ count. opens 1456 16 (take count (one_bytes 17))) (0 ∷ 16 ∷ 30 ∷ 31 ∷ 32 ∷ 33 ∷ 34 ∷ []) ++
    map (λ count. opens 1456 1 (take count (one_bytes 2))) (0 ∷ 1 ∷ 2 ∷ 3 ∷ 4 ∷ [])) ≡
    2 ∷ 2 ∷ 2 ∷ 2 ∷ 0 ∷ 2 ∷ 2 ∷ 2 ∷
    2 ∷ 2 ∷ 2 ∷ 2 ∷ 0 ∷ 2 ∷ 2 ∷
    2 ∷ 2 ∷ 0 ∷ 2 ∷ 2 ∷ []
unfolding state_tools opens
weight_lengths = refl

-- the weights of one replica of n that are opened, the others weighing 1
opened_weights_lem : ℕ → ℕ → List ℕ
opened_weights_lem n s = map (λ w. opens 1456 n (splice (2 * s) (le16 w) (one_bytes n)))
    (0 ∷ 1 ∷ 256 ∷ 1000 ∷ 1001 ∷ 1024 ∷ 65535 ∷ [])

-- 1 to 1,000, for each of four, and for the first, a middle one and the last of sixteen
weight_ranges : map (opened_weights_lem 4) (counting 0 4) ++ map (opened_weights_lem 16) (0 ∷ 9 ∷ 15 ∷ []) ≡
    replicate 7 (2 ∷ 0 ∷ 0 ∷ 0 ∷ 2 ∷ 2 ∷ 2 ∷ [])
unfolding state_tools opens opened_weights_lem
weight_ranges = refl

-- 2 before 1
weight_order : opens 1455 4 (one_bytes 4) ∷ opens 1455 4 (one_bytes 3) ∷ opens 1457 4 (zeros 8) ∷ opens 0 4 [] ∷ [] ≡
    1 ∷ 2 ∷ 2 ∷ 2 ∷ []
unfolding state_tools opens
weight_order = refl

-- the weights stand from 8 on, low bytes first, and those of absent replicas are zero; edition 2 also where all weigh 1
opened : map (λ weights. (open_call (weighing weights) (replicate 2336 9) 4 3 2 (2 ∷ 1 ∷ [])).book)
    ((10 ∷ 256 ∷ 1000 ∷ 1 ∷ []) ∷ (1 ∷ 1 ∷ 1 ∷ 1 ∷ []) ∷ []) ≡
    (4 ∷ 3 ∷ 2 ∷ 0 ∷ 1 ∷ 0 ∷ 0 ∷ 2 ∷ 10 ∷ 0 ∷ 0 ∷ 1 ∷ 232 ∷ 3 ∷ 1 ∷ 0 ∷
    (zeros 560 ++ (2 ∷ (zeros 15 ++ (1 ∷ zeros 1743))))) ∷
    (4 ∷ 3 ∷ 2 ∷ 0 ∷ 1 ∷ 0 ∷ 0 ∷ 2 ∷ 1 ∷ 0 ∷ 1 ∷ 0 ∷ 1 ∷ 0 ∷ 1 ∷ 0 ∷
    (zeros 560 ++ (2 ∷ (zeros 15 ++ (1 ∷ zeros 1743))))) ∷ []
unfolding state_tools
opened = refl

-- refused weights leave the bytes
refused_weights : map (λ bytes. (open_call (weighed bytes) (counting 0 1456) 4 3 1 (2 ∷ [])).book)
    (one_bytes 5 ∷ one_bytes 3 ∷ zeros 8 ∷ []) ≡ replicate 3 (counting 0 1456)
unfolding state_tools
refused_weights = refl

-- what an opening opens: own number and weights, as they are read; nothing where it is refused
opens_for_lem : Option Opened → List ℕ
opens_for_lem none = []
opens_for_lem (some x) = x.own ∷ x.weights

opened_for : map (λ way. opens_for_lem (effect stand_in (zeros 1456) (opening way 4 3 1 (0 ∷ []))).opens)
    (weighing (10 ∷ 256 ∷ 1000 ∷ 1 ∷ []) ∷ unweighed ∷ weighing (1 ∷ 1 ∷ 1 ∷ []) ∷ weighed (zeros 8) ∷ []) ≡
    (3 ∷ 10 ∷ 256 ∷ 1000 ∷ 1 ∷ []) ∷ (3 ∷ 1 ∷ 1 ∷ 1 ∷ 1 ∷ []) ∷ [] ∷ [] ∷ []
unfolding state_tools opens_for_lem
opened_for = refl

-- ---- certificates: 9 by weight, over small states
first : Bytes
first = new_block 1 0 (zeros 32) (entry 1 ∷ [])

-- the three certificates of height 1 with a mask
certificates : ℕ → List Bytes
certificates mask = block_certificate 1 mask first ∷ dummy_certificate 1 mask ∷ finalize_certificate 1 mask ∷ []

-- the number of a refusal, and 0 where there is none
number : Option ℕ → ℕ
number none = 0
number (some x) = x

-- the numbers by which replicas of these weights refuse the three, and 0 for one that they take
refusals : List ℕ → ℕ → List ℕ
refusals weights mask =
    let s : State = state_of weights 0 0 1 0 0 [] (vacant 0 ∷ []) in
    map (λ frame. number (first_refusal (read_rows s frame ++ clash_rows s frame))) (certificates mask)

-- 0 weighs 4 of 7: the three others, or 0 alone, are too few, and 0 with any other is enough
certificates_by_weight : map (refusals (4 ∷ 1 ∷ 1 ∷ 1 ∷ [])) (14 ∷ 1 ∷ 6 ∷ 0 ∷ 3 ∷ 9 ∷ 15 ∷ []) ≡
    replicate 4 (9 ∷ 9 ∷ 9 ∷ []) ++ replicate 3 (0 ∷ 0 ∷ 0 ∷ [])
unfolding state_tools first certificates number refusals
certificates_by_weight = refl

-- sixteen replicas of whom the last weighs 1,000: it is enough alone, and the fifteen others are too few
certificate_of_one : map (refusals (replicate 15 1 ++ (1000 ∷ []))) (32767 ∷ 32768 ∷ []) ≡
    (9 ∷ 9 ∷ 9 ∷ []) ∷ (0 ∷ 0 ∷ 0 ∷ []) ∷ []
unfolding state_tools first certificates number refusals
certificate_of_one = refl

-- ---- whole books
-- replica 2 of four with these weights, one height that 0 leads, nothing kept; contents begin at 576, the body at 592:
-- proposal, notarized block 176 on, digests 352 on
book_of : List ℕ → Bytes
book_of weights = 4 ∷ 2 ∷ 1 ∷ 0 ∷ 1 ∷ 0 ∷ 0 ∷ 2 ∷ (two_bytes weights ++ zeros 1440)

-- the answers of frames, each delivered to the same book
heard : Bytes → List Bytes → List (List ℕ)
heard book frames = map (λ frame. (perform book (delivery frame)).numbers) frames

reply : Bytes
reply = replicate 448 9

unfoldable books : Unit {0}
unfolding state_tools first certificates book_of heard reply
books = tt

-- The same frames over books of one n, H and roll whose weights differ: a certificate of 1, 2 and 3 is read where all
-- weigh 1, and refused with 9 where 0 weighs 9; one of 0 alone the other way round. So what a replica writes is read
-- over books of the same weights alone.
same_roll_other_weights : map (λ weights. heard (book_of weights) (certificates 14 ++ certificates 1))
    ((1 ∷ 1 ∷ 1 ∷ 1 ∷ []) ∷ (9 ∷ 1 ∷ 1 ∷ 1 ∷ []) ∷ []) ≡
    (replicate 3 (0 ∷ 1 ∷ []) ++ replicate 3 (9 ∷ [])) ∷
    (replicate 3 (9 ∷ []) ++ replicate 3 (0 ∷ 1 ∷ [])) ∷ []
unfolding books
same_roll_other_weights = refl

-- these books are as Open makes them
same_roll : map (λ weights. (open_call (weighing weights) (zeros 1456) 4 2 1 (0 ∷ [])).book)
    ((1 ∷ 1 ∷ 1 ∷ 1 ∷ []) ∷ (9 ∷ 1 ∷ 1 ∷ 1 ∷ []) ∷ []) ≡
    map book_of ((1 ∷ 1 ∷ 1 ∷ 1 ∷ []) ∷ (9 ∷ 1 ∷ 1 ∷ 1 ∷ []) ∷ [])
unfolding books
same_roll = refl

-- in a packet too: refused, fresh, known
packet_by_weight : (perform (book_of (9 ∷ 1 ∷ 1 ∷ 1 ∷ []))
    (packet_delivery (dummy_certificate 1 14 ++ (dummy_certificate 1 1 ++ dummy_certificate 1 1)))).numbers ≡
    0 ∷ 1 ∷ 1 ∷ 1 ∷ []
unfolding books
packet_by_weight = refl

-- ---- votes, moves and fetches, call by call with every byte that changes
-- 0 weighs 4 of 7: at each step the votes of 1, 2 and 3 are not enough, and with that of 0 they are
large_and_small_lem : disagreement 1 (book_of (4 ∷ 1 ∷ 1 ∷ 1 ∷ []))
    (expect (delivery (proposal 0 1 first)) (0 ∷ 1 ∷ []) ((577, 1 ∷ []) ∷ (592, first) ∷ []) [] ∷
    expect (delivery (block_vote 1 1 (stand_in first))) (0 ∷ 1 ∷ []) ((584, 2 ∷ []) ∷ (976, stand_in first) ∷ []) [] ∷
    expect (delivery (block_vote 2 1 (stand_in first))) (0 ∷ 1 ∷ []) ((584, 6 ∷ []) ∷ (1008, stand_in first) ∷ []) [] ∷
    expect (delivery (block_vote 3 1 (stand_in first))) (0 ∷ 1 ∷ []) ((584, 14 ∷ []) ∷ (1040, stand_in first) ∷ []) [] ∷
    expect (moving reply) (0 ∷ 5 ∷ 1 ∷ []) ((3, 4 ∷ []) ∷ []) (block_vote 2 1 (stand_in first) ++ replicate 224 9) ∷
    expect (moving reply) (0 ∷ 0 ∷ 0 ∷ []) [] reply ∷
    expect (fetching 5 1 (zeros 224)) (11 ∷ []) [] (zeros 224) ∷
    expect (delivery (block_vote 0 1 (stand_in first))) (0 ∷ 1 ∷ [])
    ((577, 3 ∷ 15 ∷ []) ∷ (584, 15 ∷ []) ∷ (768, first) ∷ (944, stand_in first) ∷ []) [] ∷
    expect (moving reply) (0 ∷ 3 ∷ 1 ∷ 5 ∷ 4 ∷ []) ((3, 0 ∷ 2 ∷ []) ∷ [])
    (block_certificate 1 15 first ++ finalize 2 1) ∷ []) ≡ 0
unfolding books
large_and_small_lem = refl

-- the same of finalizes and of dummy votes, of which those of 1 and 2 were kept before: the mask of 3 comes, then of 0
kept_of_two : Bytes
kept_of_two =
    splice 768 first (splice 576 (0 ∷ 2 ∷ 3 ∷ 0 ∷ 6 ∷ 0 ∷ 6 ∷ []) (splice 4 (2 ∷ []) (book_of (4 ∷ 1 ∷ 1 ∷ 1 ∷ []))))

finalizes_by_weight : disagreement 1 kept_of_two
    (expect (delivery (finalize 3 1)) (0 ∷ 1 ∷ []) ((582, 14 ∷ []) ∷ []) [] ∷
    expect (moving reply) (0 ∷ 0 ∷ 0 ∷ []) [] reply ∷
    expect (fetching 7 1 (zeros 224)) (11 ∷ []) [] (zeros 224) ∷
    expect (delivery (finalize 0 1)) (0 ∷ 1 ∷ []) ((582, 15 ∷ []) ∷ []) [] ∷
    expect (fetching 7 1 (zeros 224)) (0 ∷ []) [] (finalize_certificate 1 15) ∷
    expect (moving reply) (0 ∷ 2 ∷ 1 ∷ []) ((5, 1 ∷ []) ∷ []) reply ∷ []) ≡ 0
unfolding books kept_of_two
finalizes_by_weight = refl

dummies_by_weight : disagreement 1 (splice 577 (0 ∷ 0 ∷ []) (splice 4 (1 ∷ []) kept_of_two))
    (expect (delivery (dummy_vote 3 1)) (0 ∷ 1 ∷ []) ((580, 14 ∷ []) ∷ []) [] ∷
    expect (moving reply) (0 ∷ 0 ∷ 0 ∷ []) [] reply ∷
    expect (fetching 6 1 (zeros 224)) (11 ∷ []) [] (zeros 224) ∷
    expect (delivery (dummy_vote 0 1)) (0 ∷ 1 ∷ []) ((580, 15 ∷ []) ∷ []) [] ∷
    expect (fetching 6 1 (zeros 224)) (0 ∷ []) [] (dummy_certificate 1 15) ∷
    expect (moving reply) (0 ∷ 3 ∷ 1 ∷ 6 ∷ 4 ∷ []) ((4, 2 ∷ []) ∷ []) (dummy_certificate 1 15 ++ finalize 2 1) ∷ []) ≡ 0
unfolding books kept_of_two
dummies_by_weight = refl

-- 0 weighs 9 of 12: its vote, which came before its proposal, and its finalize are enough each
one_decides : disagreement 1 (book_of (9 ∷ 1 ∷ 1 ∷ 1 ∷ []))
    (expect (delivery (block_vote 0 1 (stand_in first))) (0 ∷ 1 ∷ []) ((584, 1 ∷ []) ∷ (944, stand_in first) ∷ []) [] ∷
    expect (delivery (proposal 0 1 first)) (0 ∷ 1 ∷ [])
    ((577, 3 ∷ 1 ∷ []) ∷ (592, first) ∷ (768, first) ∷ []) [] ∷
    expect (moving reply) (0 ∷ 3 ∷ 1 ∷ 5 ∷ 4 ∷ []) ((4, 2 ∷ []) ∷ []) (block_certificate 1 1 first ++ finalize 2 1) ∷
    expect (delivery (finalize 0 1)) (0 ∷ 1 ∷ []) ((582, 1 ∷ []) ∷ []) [] ∷
    expect (moving reply) (0 ∷ 2 ∷ 1 ∷ []) ((5, 1 ∷ []) ∷ []) reply ∷
    expect (fetching 5 1 (zeros 224)) (0 ∷ []) [] (block_certificate 1 1 first) ∷
    expect (reading (zeros 16)) (entry 1) [] (entry 1) ∷ []) ≡ 0
unfolding books
one_decides = refl

-- ---- no call changes the edition or the weights
-- All calls but Open, all five moves, frames of each kind, a second proposal, refused and known ones, with every byte
-- that changes: in edition 1 and in edition 2 with other weights than 1 they are the same. Own number 0; its proposal
-- has entry 3, and the notarized block entry 1.
offered : Bytes
offered = new_block 1 0 (zeros 32) (entry 3 ∷ [])

edition_stays : map (λ book. disagreement 1 (splice 1 (0 ∷ []) book)
    (expect (submitting (entry 3)) (0 ∷ []) ((6, 1 ∷ []) ∷ (64, entry 3) ∷ []) [] ∷
    expect (moving reply) (0 ∷ 4 ∷ 1 ∷ []) ((3, 8 ∷ []) ∷ []) (proposal 0 1 offered ++ replicate 224 9) ∷
    expect (delivery (proposal 0 1 offered)) (0 ∷ 1 ∷ []) ((577, 1 ∷ []) ∷ (592, offered) ∷ []) [] ∷
    expect (moving reply) (0 ∷ 5 ∷ 1 ∷ []) ((3, 12 ∷ []) ∷ []) (block_vote 0 1 (stand_in offered) ++ replicate 224 9) ∷
    expect (delivery (proposal 0 1 first)) (0 ∷ 1 ∷ []) ((3, 13 ∷ []) ∷ []) [] ∷
    expect (signalling 1) (14 ∷ []) [] [] ∷
    expect (moving reply) (0 ∷ 1 ∷ 1 ∷ []) ((3, 15 ∷ []) ∷ []) (dummy_vote 0 1 ++ replicate 224 9) ∷
    expect (delivery (block_vote 3 1 (stand_in first))) (0 ∷ 1 ∷ []) ((584, 8 ∷ []) ∷ (1040, stand_in first) ∷ []) [] ∷
    expect (packet_delivery (dummy_vote 1 1 ++ (dummy_vote 4 1 ++ finalize 1 1))) (0 ∷ 2 ∷ 0 ∷ 1 ∷ [])
    ((580, 2 ∷ []) ∷ (582, 2 ∷ []) ∷ []) [] ∷
    expect (delivery (dummy_vote 1 1)) (0 ∷ 0 ∷ []) [] [] ∷
    expect (delivery (block_certificate 1 15 first)) (0 ∷ 1 ∷ []) ((577, 3 ∷ 15 ∷ []) ∷ (768, first) ∷ []) [] ∷
    expect (delivery (dummy_certificate 1 15)) (0 ∷ 1 ∷ []) ((580, 15 ∷ []) ∷ []) [] ∷
    expect (delivery (finalize_certificate 1 15)) (0 ∷ 1 ∷ []) ((582, 15 ∷ []) ∷ []) [] ∷
    expect (moving reply) (0 ∷ 2 ∷ 1 ∷ []) ((5, 1 ∷ []) ∷ []) reply ∷
    expect (moving reply) (0 ∷ 3 ∷ 1 ∷ 5 ∷ 0 ∷ []) ((3, 0 ∷ 2 ∷ []) ∷ []) (block_certificate 1 15 first ++ zeros 224) ∷
    expect (submitting (entry 1)) (13 ∷ []) [] [] ∷
    expect sizing (0 ∷ 16 ∷ []) [] [] ∷
    expect (fetching 6 1 (zeros 224)) (0 ∷ []) [] (dummy_certificate 1 15) ∷ []))
    (first_edition (book_of (1 ∷ 1 ∷ 1 ∷ 1 ∷ [])) ∷ book_of (10 ∷ 256 ∷ 1000 ∷ 1 ∷ []) ∷ []) ≡ 0 ∷ 0 ∷ []
unfolding books offered
edition_stays = refl

-- the timer's signal, in a book of each edition
signal_stays : map (λ book. disagreement 1 book (expect (signalling 1) (0 ∷ []) ((3, 1 ∷ []) ∷ []) [] ∷ []))
    (first_edition (book_of (1 ∷ 1 ∷ 1 ∷ 1 ∷ [])) ∷ book_of (10 ∷ 256 ∷ 1000 ∷ 1 ∷ []) ∷ []) ≡ 0 ∷ 0 ∷ []
unfolding books
signal_stays = refl
