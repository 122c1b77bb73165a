-- The calls with heights of two bytes and on books of edition 3 (document 02, 2.7): what Open makes and refuses,
-- heights that agree with others in their low byte alone, and a run that is the same in each edition.
use Rattle.std.specs.Prelude.{ℕ, ◌+◌, ◌*◌, ◌≡◌, refl, true, List, [], ◌∷◌, ◌++◌, map, replicate, take}
use Rattle.protocol.specs.Bytes.{Bytes, same, zeros}
use Rattle.protocol.specs.Block.{new_block}
use Rattle.protocol.specs.Frame.{proposal, block_vote, dummy_vote, finalize, block_certificate, dummy_certificate}
use Rattle.protocol.specs.Frame.{finalize_certificate}
use Rattle.protocol.specs.Answer.{refusal_number}
use Rattle.protocol.specs.Open.{Opening, unweighed, long, open_call}
use Rattle.protocol.specs.Call.{Call, opening, delivery, moving, signalling, submitting, sizing, reading, fetching}
use Rattle.check_books.specs.CheckCalls.{after, answers, refuses, splice, one_bytes, one_each, long_each}
use Rattle.check_books.specs.CheckCalls.{two_bytes, first_edition, third_edition}
use Rattle.check_books.specs.CheckStates.{entry, state_tools}

-- ---- Open
-- every byte of a new book: H, the current and the finalized height at 40, 42 and 44, and bytes 2, 4 and 5 zero
opened : (open_call (long_each 16) (replicate 3216 9) 16 13 3 (5 ∷ 15 ∷ 1 ∷ [])).book ≡
    16 ∷ 13 ∷ 0 ∷ 0 ∷ 0 ∷ 0 ∷ 0 ∷ 3 ∷
    (one_bytes 16 ++ (3 ∷ 0 ∷ 1 ∷ 0 ∷ (zeros 532 ++ (5 ∷ (zeros 15 ++ (15 ∷ (zeros 15 ++ (1 ∷ zeros 2607))))))))
unfolding state_tools
opened = refl

-- the refusal's number on a book of so many bytes, and 0 where it is opened
opening_of : Opening → (bytes heights : ℕ) → ℕ
opening_of way bytes heights = refusal_number (open_call way (replicate bytes 9) 4 2 heights (zeros heights)).answer

-- a book of its length for each H; OpenChecks has the other editions
lengths : map (λ heights. opening_of (long_each 4) (576 + 880 * heights) heights) (0 ∷ 1 ∷ 64 ∷ []) ≡ 2 ∷ 0 ∷ 0 ∷ []
unfolding state_tools opening_of
lengths = refl

-- no book of any H has two bytes: 1 where H is in range, and else 2
bounds : map (λ way. map (opening_of way 2) (0 ∷ 1 ∷ 63 ∷ 64 ∷ 256 ∷ 999 ∷ 1000 ∷ 1001 ∷ []))
    (unweighed ∷ one_each 4 ∷ long_each 4 ∷ []) ≡
    replicate 2 (2 ∷ 1 ∷ 1 ∷ 2 ∷ 2 ∷ 2 ∷ 2 ∷ 2 ∷ []) ++ ((2 ∷ 1 ∷ 1 ∷ 1 ∷ 1 ∷ 1 ∷ 1 ∷ 2 ∷ []) ∷ [])
unfolding state_tools opening_of
bounds = refl

-- weights as in edition 2: two bytes each, 1 to 1,000
weights : map (λ given. opening_of (long given) 1456 1)
    (two_bytes (1 ∷ 1000 ∷ 256 ∷ 1 ∷ []) ∷ two_bytes (1 ∷ 1 ∷ 1 ∷ []) ∷ two_bytes (replicate 5 1) ∷
    two_bytes (0 ∷ 1 ∷ 1 ∷ 1 ∷ []) ∷ two_bytes (1 ∷ 1 ∷ 1 ∷ 1001 ∷ []) ∷ replicate 4 1 ∷ take 7 (one_bytes 4) ∷
    (one_bytes 4 ++ (0 ∷ [])) ∷ []) ≡ 0 ∷ replicate 7 2
unfolding state_tools opening_of
weights = refl

-- ---- heights beyond a book's
-- replica 2 of 4, one height that 0 leads, by each edition
single : Bytes
single = after (zeros 1456) (opening (one_each 4) 4 2 1 (0 ∷ []) ∷ [])

of_each : Bytes → List Bytes
of_each book = book ∷ first_edition book ∷ third_edition book ∷ []

-- the block of height 1 with another byte at a place
spoiled : ℕ → Bytes
spoiled place = splice place (1 ∷ []) (new_block 1 0 (zeros 32) [])

-- the block of a height
far : ℕ → Bytes
far h = new_block h 0 (zeros 32) []

-- byte 3 of a frame: 257 is not 1; of a frame with a block 4, unless the block agrees in both bytes
beyond : List Bytes
beyond =
    block_vote 1 257 (zeros 32) ∷ dummy_vote 1 257 ∷ finalize 1 257 ∷ dummy_certificate 257 7 ∷
    finalize_certificate 257 7 ∷ dummy_vote 1 256 ∷ dummy_vote 1 65280 ∷ proposal 0 257 (far 257) ∷
    block_certificate 257 7 (far 257) ∷ proposal 0 256 (far 256) ∷ []

unlike : List Bytes
unlike =
    proposal 0 257 (far 1) ∷ block_certificate 257 7 (far 1) ∷ proposal 0 1 (far 257) ∷
    block_certificate 1 7 (far 257) ∷ proposal 0 1 (spoiled 3) ∷ block_certificate 1 7 (spoiled 3) ∷
    proposal 0 256 (far 0) ∷ block_certificate 0 7 (far 256) ∷ []

unfoldable calls : Unit {0}
unfolding state_tools single of_each spoiled far beyond unlike
calls = tt

delivered : map (λ book. map (λ frame. answers book (delivery frame ∷ [])) (beyond ++ unlike)) (of_each single) ≡
    replicate 3 (replicate 10 ((6 ∷ []) ∷ []) ++ replicate 8 ((4 ∷ []) ∷ []))
unfolding calls
delivered = refl

-- Signal and Fetch take any number whole
outside : map (λ book. map (λ h. answers book (signalling h ∷ fetching 5 h (zeros 224) ∷ []))
    (0 ∷ 2 ∷ 256 ∷ 257 ∷ 65537 ∷ [])) (of_each single) ≡ replicate 3 (replicate 5 ((6 ∷ []) ∷ (6 ∷ []) ∷ []))
unfolding calls
outside = refl

-- ---- a run in each edition
-- replica 2 of 4, two heights that 0 and 2 lead: the first is finalized by certificates, its log read, and at the
-- second it proposes
double : Opening → Bytes
double way = after (zeros 2336) (opening way 4 2 2 (0 ∷ 2 ∷ []) ∷ [])

first : Bytes
first = new_block 1 0 (zeros 32) (entry 1 ∷ [])

run : List Call
run =
    submitting (entry 2) ∷ delivery (proposal 0 1 first) ∷ moving (zeros 448) ∷
    delivery (block_certificate 1 7 first) ∷ moving (zeros 448) ∷ delivery (finalize_certificate 1 7) ∷
    moving (zeros 448) ∷ sizing ∷ reading (zeros 16) ∷ moving (zeros 448) ∷ signalling 2 ∷ moving (zeros 448) ∷
    fetching 7 1 (zeros 224) ∷ []

-- the same answers: a vote, a pass, an output, a proposal and a vote for the dummy block
same_answers : map (λ way. answers (double way) run) (unweighed ∷ one_each 4 ∷ long_each 4 ∷ []) ≡
    replicate 3
    ((0 ∷ []) ∷ (0 ∷ 1 ∷ []) ∷ (0 ∷ 5 ∷ 1 ∷ []) ∷ (0 ∷ 1 ∷ []) ∷ (0 ∷ 3 ∷ 1 ∷ 5 ∷ 4 ∷ []) ∷ (0 ∷ 1 ∷ []) ∷
    (0 ∷ 2 ∷ 1 ∷ []) ∷ (0 ∷ 16 ∷ []) ∷ entry 1 ∷ (0 ∷ 4 ∷ 2 ∷ []) ∷ (0 ∷ []) ∷ (0 ∷ 1 ∷ 2 ∷ []) ∷ (0 ∷ []) ∷ [])
unfolding calls double first run
same_answers = refl

-- and books that differ in their heads alone, as the editions do
same_books : (let book : Bytes = after (double (one_each 4)) run in
    map (λ (by : Opening × Bytes). same (after (double by.0) run) by.1)
    ((unweighed, first_edition book) ∷ (long_each 4, third_edition book) ∷ [])) ≡ true ∷ true ∷ []
unfolding calls double first run
same_books = refl

-- and the head at its end: current height 2, finalized height 1
run_head : take 64 (after (double (long_each 4)) run) ≡
    4 ∷ 2 ∷ 0 ∷ 11 ∷ 0 ∷ 0 ∷ 1 ∷ 3 ∷ (one_bytes 4 ++ (zeros 24 ++ (2 ∷ 0 ∷ 2 ∷ 0 ∷ 1 ∷ 0 ∷ zeros 18)))
unfolding calls double first run
run_head = refl

-- a refused call leaves the book: 257 over one height
refused : map (λ book. refuses 6 book (delivery (dummy_vote 1 257))) (of_each single) ≡ replicate 3 true
unfolding calls
refused = refl
