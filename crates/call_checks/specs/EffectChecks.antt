-- What each call does besides its answer, refused and not: what it opens, delivers, writes and reads.
use Rattle.std.specs.Prelude.{ℕ, ◌≡◌, refl, true, false, List, [], ◌∷◌, ◌++◌, map, replicate}
use Rattle.std.proofs.Math.Option.{Option, some, none}
use Rattle.protocol.specs.Bytes.{Bytes, zeros}
use Rattle.protocol.specs.Block.{new_block}
use Rattle.protocol.specs.Frame.{dummy_vote, finalize, block_certificate, dummy_certificate, finalize_certificate}
use Rattle.protocol.specs.Call.{Call, Opened, opening, delivery, packet_delivery, moving, signalling, submitting}
use Rattle.protocol.specs.Call.{sizing, reading, fetching, effect}
use Rattle.check_books.specs.CheckCalls.{stand_in, after, one_each, tools}

first : Bytes
first = new_block 1 0 (zeros 32) (replicate 16 1 ∷ [])

-- replica 2 of four, with a block finalized at height 1, and a dummy at height 2, the current one
book : Bytes
book =
    after (replicate 2336 9)
    (opening (one_each 4) 4 2 2 (0 ∷ 1 ∷ []) ∷ delivery (block_certificate 1 7 first) ∷
    delivery (finalize_certificate 1 7) ∷
    delivery (dummy_certificate 2 7) ∷ moving (zeros 448) ∷ moving (zeros 448) ∷ [])

-- a packet: a fresh frame between two that are refused, then a known one
mixed : Bytes
mixed = dummy_vote 4 2 ++ (dummy_vote 3 2 ++ (dummy_vote 5 2 ++ dummy_vote 0 2))

-- each call that is not refused on this book, and then one that is; a known frame; an empty packet; buffers that are
-- too short
calls : List Call
calls =
    opening (one_each 3) 3 1 2 (0 ∷ 1 ∷ []) ∷ opening (one_each 3) 3 3 2 (0 ∷ 1 ∷ []) ∷
    delivery (dummy_vote 3 2) ∷ delivery (dummy_vote 4 2) ∷ delivery (dummy_vote 0 2) ∷
    packet_delivery mixed ∷ packet_delivery (mixed ++ (0 ∷ [])) ∷ packet_delivery [] ∷
    moving (zeros 448) ∷ moving (zeros 447) ∷
    signalling 2 ∷ signalling 1 ∷
    submitting (replicate 16 2) ∷ submitting (replicate 16 1) ∷
    sizing ∷
    reading (zeros 17) ∷ reading (zeros 15) ∷
    fetching 7 1 (zeros 224) ∷ fetching 7 1 (zeros 223) ∷ fetching 7 2 (zeros 224) ∷ []

accepted : map (λ call. (effect stand_in book call).accepted) calls ≡
    true ∷ false ∷ true ∷ false ∷ true ∷ true ∷ false ∷ true ∷ true ∷ false ∷ true ∷ false ∷ true ∷ false ∷ true ∷
    true ∷ true ∷ true ∷ false ∷ false ∷ []
unfolding tools first book mixed calls
accepted = refl

-- on a book that is not sound the size is refused
damaged : map (λ call. (effect stand_in (zeros 5) call).accepted) (sizing ∷ reading (zeros 17) ∷ []) ≡ false ∷ true ∷ []
unfolding tools
damaged = refl

-- the own number and the weights of what is opened
numbers : Option Opened → List ℕ
numbers none = []
numbers (some opened) = opened.own ∷ opened.weights

opens : map (λ call. numbers (effect stand_in book call).opens) calls ≡
    (1 ∷ 1 ∷ 1 ∷ 1 ∷ []) ∷ replicate 19 []
unfolding tools first book mixed calls numbers
opens = refl

delivers : map (λ call. (effect stand_in book call).delivers) calls ≡
    [] ∷ [] ∷ (dummy_vote 3 2 ∷ []) ∷ [] ∷ (dummy_vote 0 2 ∷ []) ∷
    (dummy_vote 3 2 ∷ dummy_vote 0 2 ∷ []) ∷ [] ∷ [] ∷
    [] ∷ [] ∷ [] ∷ [] ∷ [] ∷ [] ∷ [] ∷ [] ∷ [] ∷ [] ∷ [] ∷ [] ∷ []
unfolding tools first book mixed calls
delivers = refl

writes : map (λ call. (effect stand_in book call).writes) calls ≡
    [] ∷ [] ∷ [] ∷ [] ∷ [] ∷ [] ∷ [] ∷ [] ∷
    (dummy_certificate 2 7 ∷ finalize 2 2 ∷ []) ∷ [] ∷ [] ∷ [] ∷ [] ∷ [] ∷ [] ∷ [] ∷ [] ∷
    (finalize_certificate 1 7 ∷ []) ∷ [] ∷ [] ∷ []
unfolding tools first book mixed calls
writes = refl

reads : map (λ call. (effect stand_in book call).reads) calls ≡
    none ∷ none ∷ none ∷ none ∷ none ∷ none ∷ none ∷ none ∷ none ∷ none ∷ none ∷ none ∷ none ∷ none ∷ none ∷
    some (replicate 16 1) ∷ some [] ∷ none ∷ none ∷ none ∷ []
unfolding tools first book mixed calls
reads = refl
