-- Packets: the length, the order of the two refusals, what each frame meets, and the counts.
use Rattle.std.specs.Prelude.{ℕ, ◌≡◌, refl, true, List, [], ◌∷◌, ◌++◌, map, replicate, take}
use Rattle.protocol.specs.Bytes.{Bytes, join, same, zeros}
use Rattle.protocol.specs.Tests.{all_of}
use Rattle.protocol.specs.Block.{new_block}
use Rattle.protocol.specs.Frame.{proposal, block_vote, dummy_vote, finalize, dummy_certificate}
use Rattle.protocol.specs.Packet.{counted, packet_frames}
use Rattle.protocol.specs.Call.{opening, delivery, packet_delivery}
use Rattle.check_books.specs.CheckCalls.{stand_in, after, perform, refuses, splice, expect, disagreement, one_each}
use Rattle.check_books.specs.CheckCalls.{tools}

-- ---- a book and frames
first : Bytes
first = new_block 1 0 (zeros 32) (replicate 16 1 ∷ [])

-- a new book of replica 2 of four, with one height that replica 0 leads, and one that is not sound
new : Bytes
new = after (replicate 1456 9) (opening (one_each 4) 4 2 1 (0 ∷ []) ∷ [])

damaged : Bytes
damaged = splice 7 (9 ∷ []) new

-- votes for the block, for its dummy, and one of replica 9, which there is not
vote : ℕ → Bytes
vote s = block_vote s 1 (stand_in first)

stranger : Bytes
stranger = dummy_vote 9 1

unfoldable packets : Unit {0}
unfolding tools first new damaged vote stranger
packets = tt

-- ---- the frames of a packet: as many as fit, in order
cuts : map packet_frames
    ([] ∷ zeros 223 ∷ dummy_vote 1 1 ∷ (dummy_vote 1 1 ++ (7 ∷ [])) ∷ (dummy_vote 1 1 ++ finalize 2 1) ∷ []) ≡
    [] ∷ [] ∷ (dummy_vote 1 1 ∷ []) ∷ (dummy_vote 1 1 ∷ []) ∷ (dummy_vote 1 1 ∷ finalize 2 1 ∷ []) ∷ []
unfolding packets
cuts = refl

-- ---- 15 for lengths that are no multiple of 224, before any frame; 1 before 15, and for an empty packet too
lengths : all_of
    (refuses 15 new (packet_delivery (take 1 (dummy_vote 1 1))) ∷
    refuses 15 new (packet_delivery (take 223 (dummy_vote 1 1))) ∷
    refuses 15 new (packet_delivery (dummy_vote 1 1 ++ (0 ∷ []))) ∷
    refuses 15 new (packet_delivery (dummy_vote 1 1 ++ take 223 (dummy_vote 3 1))) ∷
    refuses 1 damaged (packet_delivery (dummy_vote 1 1 ++ (0 ∷ []))) ∷
    refuses 1 damaged (packet_delivery (dummy_vote 1 1)) ∷
    refuses 1 damaged (packet_delivery []) ∷
    refuses 1 [] (packet_delivery []) ∷ []) ≡ true
unfolding packets
lengths = refl

-- ---- counts and bytes: fresh, known, refused
-- none; one frame of each kind; a refused frame first, amid and last; the same again
counts : disagreement 1 new
    (expect (packet_delivery []) (0 ∷ 0 ∷ 0 ∷ 0 ∷ []) [] [] ∷
    expect (packet_delivery stranger) (0 ∷ 0 ∷ 0 ∷ 1 ∷ []) [] [] ∷
    expect (packet_delivery (dummy_vote 1 1)) (0 ∷ 1 ∷ 0 ∷ 0 ∷ []) ((580, 2 ∷ []) ∷ []) [] ∷
    expect (packet_delivery (dummy_vote 1 1)) (0 ∷ 0 ∷ 1 ∷ 0 ∷ []) [] [] ∷
    expect (packet_delivery (join (stranger ∷ finalize 0 1 ∷ stranger ∷ dummy_vote 3 1 ∷ dummy_vote 1 1 ∷ stranger ∷ [])))
    (0 ∷ 2 ∷ 1 ∷ 3 ∷ []) ((580, 10 ∷ 0 ∷ 1 ∷ []) ∷ []) [] ∷
    expect (packet_delivery (join (stranger ∷ finalize 0 1 ∷ stranger ∷ dummy_vote 3 1 ∷ dummy_vote 1 1 ∷ stranger ∷ [])))
    (0 ∷ 0 ∷ 3 ∷ 3 ∷ []) [] [] ∷ []) ≡ 0
unfolding packets
counts = refl

-- ---- each frame meets the book that those before it left
-- a frame twice in a packet is fresh, then known; a second digest of one voter is refused by the first
in_turn : disagreement 1 new
    (expect (packet_delivery (dummy_certificate 1 7 ++ dummy_certificate 1 7)) (0 ∷ 1 ∷ 1 ∷ 0 ∷ []) ((580, 7 ∷ []) ∷ [])
    [] ∷
    expect (packet_delivery (block_vote 1 1 (replicate 32 5) ++ vote 1)) (0 ∷ 1 ∷ 0 ∷ 1 ∷ [])
    ((584, 2 ∷ []) ∷ (976, replicate 32 5) ∷ []) [] ∷ []) ≡ 0
unfolding packets
in_turn = refl

-- votes and their proposal in one packet
election : List Bytes
election = vote 0 ∷ vote 3 ∷ proposal 0 1 first ∷ vote 1 ∷ []

-- they notarize it (state 3, and the certificate of those three), as the same frames one by one do
together : disagreement 1 new
    (expect (packet_delivery (join election)) (0 ∷ 4 ∷ 0 ∷ 0 ∷ [])
    ((577, 3 ∷ 11 ∷ 0 ∷ []) ∷ (584, 11 ∷ []) ∷ (592, first ++ first) ∷ (944, stand_in first ++ stand_in first) ∷
    (1040, stand_in first) ∷ []) [] ∷ []) ≡ 0
unfolding packets election
together = refl

one_by_one : same (perform new (packet_delivery (join election))).book (after new (map delivery election)) ≡ true
unfolding packets election
one_by_one = refl

-- ---- more frames than a byte counts
many : (perform new (packet_delivery (join (replicate 260 (dummy_vote 3 1))))).numbers ≡ 0 ∷ 1 ∷ 259 ∷ 0 ∷ []
unfolding packets
many = refl

-- all that are counted
sums : counted (record { fresh_frames = 50; known_frames = 3; refused_frames = 700 }) ≡ 753
sums = refl
