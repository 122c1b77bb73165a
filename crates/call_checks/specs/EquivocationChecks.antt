-- A leader who equivocates (document 02, 2.2; footnote 10 of 004): its second proposal at the current height fires the
-- timer and changes nothing else. Each condition where it alone decides, the book's bytes afterwards, and the moves.
use Rattle.std.specs.Prelude.{ℕ, ◌-◌, ◌*◌, ◌≡◌, refl, true, false, List, [], ◌∷◌, ◌++◌, map, replicate, take}
use Rattle.protocol.specs.Bytes.{Bytes, zeros, join}
use Rattle.protocol.specs.Frame.{proposal, block_vote, dummy_vote, finalize, block_certificate, dummy_certificate}
use Rattle.protocol.specs.Frame.{finalize_certificate}
use Rattle.protocol.specs.State.{decode}
use Rattle.protocol.specs.Deliver.{leader_equivocates}
use Rattle.protocol.specs.Call.{opening, delivery, packet_delivery, moving, signalling, effect}
use Rattle.check_books.specs.CheckCalls.{stand_in, Result, perform, answers, splice, expect, disagreement}
use Rattle.check_books.specs.CheckCalls.{one_bytes, one_each}
use Rattle.check_books.specs.CheckStates.{entry, counting, differences, state_tools}

-- ---- blocks and books, byte by byte
-- the block of a height on no parent, with the entry of a number: 1 the leader's first, 2 its second, 3 its third
block : ℕ → ℕ → Bytes
block h number = h ∷ 0 ∷ 0 ∷ 0 ∷ 1 ∷ (zeros 43 ++ (entry number ++ zeros 112))

-- a height's contents: leader, state, and the masks of the certificate, dummies, finalizes and voters
content : (leader status certificate dummies finalizes voters : ℕ) → Bytes
content leader status certificate dummies finalizes voters =
    leader ∷ status ∷ certificate ∷ 0 ∷ dummies ∷ 0 ∷ finalizes ∷ 0 ∷ voters ∷ zeros 7

-- Four replicas, own number 2, three heights that 1, 0 and 3 lead, with these flags and this current height. Heights 1
-- and 3 hold their leader's first block, and height 1 is a dummy; height 2 has these contents and this body.
-- Contents begin at 576, 592 and 608, bodies at 624, 1488 and 2352: proposal, notarized block 176 on, digests 352 on.
book_with : (flags current : ℕ) → Bytes → Bytes → Bytes
book_with flags current contents body =
    4 ∷ 2 ∷ 3 ∷ flags ∷ current ∷ 0 ∷ 0 ∷ 2 ∷
    (one_bytes 4 ++ (zeros 560 ++ (content 1 1 0 7 0 0 ++ (contents ++ (content 3 1 0 0 0 0 ++
    (block 1 1 ++ (zeros 688 ++ (body ++ (block 3 1 ++ zeros 688)))))))))

-- the leader's first block is held at height 2 too, and nothing else is there
book : (flags current : ℕ) → Bytes
book flags current = book_with flags current (content 0 1 0 0 0 0) (block 2 1 ++ zeros 688)

-- the leader's proposal at each height, with the entry of a number
proposals : ℕ → List Bytes
proposals number =
    proposal 1 1 (block 1 number) ∷ proposal 0 2 (block 2 number) ∷ proposal 3 3 (block 3 number) ∷ []

-- A delivery to a book: the refusal's number; or 0 0 (known) or 0 1 (fresh), and then each byte that it changed with
-- its place. So 0 1 3 1 is fresh, and byte 3, the flags, has become 1 and no other byte anything else.
outcome : Bytes → Bytes → List ℕ
outcome book frame =
    let r : Result = perform book (delivery frame) in
    r.numbers ++ differences 0 book r.book

outcomes : Bytes → List Bytes → List (List ℕ)
outcomes book frames = map (outcome book) frames

-- the answers of a delivery and of three moves after it
moves_after : Bytes → Bytes → List (List ℕ)
moves_after book frame = answers book (delivery frame ∷ replicate 3 (moving (zeros 448)))

unfoldable equivocations : Unit {0}
unfolding state_tools block content book_with book proposals outcome outcomes moves_after
equivocations = tt

-- ---- the height: only the current one, of 1 to H; 8 below it, above it, and everywhere once the season is full
heights : map (λ c. outcomes (book 0 c) (proposals 2)) (1 ∷ 2 ∷ 3 ∷ 4 ∷ []) ≡
    ((0 ∷ 1 ∷ 3 ∷ 1 ∷ []) ∷ (8 ∷ []) ∷ (8 ∷ []) ∷ []) ∷
    ((8 ∷ []) ∷ (0 ∷ 1 ∷ 3 ∷ 1 ∷ []) ∷ (8 ∷ []) ∷ []) ∷
    ((8 ∷ []) ∷ (8 ∷ []) ∷ (0 ∷ 1 ∷ 3 ∷ 1 ∷ []) ∷ []) ∷
    ((8 ∷ []) ∷ (8 ∷ []) ∷ (8 ∷ []) ∷ []) ∷ []
unfolding equivocations
heights = refl

-- the same where the timer has fired: known at the current height, 8 at the others
heights_fired : map (λ c. outcomes (book 1 c) (proposals 2)) (1 ∷ 2 ∷ 3 ∷ 4 ∷ []) ≡
    ((0 ∷ 0 ∷ []) ∷ (8 ∷ []) ∷ (8 ∷ []) ∷ []) ∷
    ((8 ∷ []) ∷ (0 ∷ 0 ∷ []) ∷ (8 ∷ []) ∷ []) ∷
    ((8 ∷ []) ∷ (8 ∷ []) ∷ (0 ∷ 0 ∷ []) ∷ []) ∷
    ((8 ∷ []) ∷ (8 ∷ []) ∷ (8 ∷ []) ∷ []) ∷ []
unfolding equivocations
heights_fired = refl

-- the condition by itself, without row 8 before it
condition : map (λ c. map (leader_equivocates (decode (book 0 c))) (proposals 2)) (1 ∷ 2 ∷ 3 ∷ 4 ∷ []) ≡
    (true ∷ false ∷ false ∷ []) ∷ (false ∷ true ∷ false ∷ []) ∷ (false ∷ false ∷ true ∷ []) ∷
    replicate 3 false ∷ []
unfolding equivocations
condition = refl

-- the held block again is known at every height
held_again : map (λ c. outcomes (book 0 c) (proposals 1)) (1 ∷ 2 ∷ 3 ∷ 4 ∷ []) ≡
    replicate 4 (replicate 3 (0 ∷ 0 ∷ []))
unfolding equivocations
held_again = refl

-- ---- the flags: flag 1 is added to any others, and known where it was set
flags : map (λ f. outcome (book f 2) (proposal 0 2 (block 2 2))) (counting 0 16) ≡
    (0 ∷ 1 ∷ 3 ∷ 1 ∷ []) ∷ (0 ∷ 0 ∷ []) ∷ (0 ∷ 1 ∷ 3 ∷ 3 ∷ []) ∷ (0 ∷ 0 ∷ []) ∷
    (0 ∷ 1 ∷ 3 ∷ 5 ∷ []) ∷ (0 ∷ 0 ∷ []) ∷ (0 ∷ 1 ∷ 3 ∷ 7 ∷ []) ∷ (0 ∷ 0 ∷ []) ∷
    (0 ∷ 1 ∷ 3 ∷ 9 ∷ []) ∷ (0 ∷ 0 ∷ []) ∷ (0 ∷ 1 ∷ 3 ∷ 11 ∷ []) ∷ (0 ∷ 0 ∷ []) ∷
    (0 ∷ 1 ∷ 3 ∷ 13 ∷ []) ∷ (0 ∷ 0 ∷ []) ∷ (0 ∷ 1 ∷ 3 ∷ 15 ∷ []) ∷ (0 ∷ 0 ∷ []) ∷ []
unfolding equivocations
flags = refl

-- the moves that follow: a dummy vote unless it was cast, then a vote for the held block unless one was cast; flag 8
-- makes no difference to one who does not lead
moves : map (λ f. moves_after (book f 2) (proposal 0 2 (block 2 2))) (counting 0 9) ≡
    ((0 ∷ 1 ∷ []) ∷ (0 ∷ 1 ∷ 2 ∷ []) ∷ (0 ∷ 5 ∷ 2 ∷ []) ∷ (0 ∷ 0 ∷ 0 ∷ []) ∷ []) ∷
    ((0 ∷ 0 ∷ []) ∷ (0 ∷ 1 ∷ 2 ∷ []) ∷ (0 ∷ 5 ∷ 2 ∷ []) ∷ (0 ∷ 0 ∷ 0 ∷ []) ∷ []) ∷
    ((0 ∷ 1 ∷ []) ∷ (0 ∷ 5 ∷ 2 ∷ []) ∷ (0 ∷ 0 ∷ 0 ∷ []) ∷ (0 ∷ 0 ∷ 0 ∷ []) ∷ []) ∷
    ((0 ∷ 0 ∷ []) ∷ (0 ∷ 5 ∷ 2 ∷ []) ∷ (0 ∷ 0 ∷ 0 ∷ []) ∷ (0 ∷ 0 ∷ 0 ∷ []) ∷ []) ∷
    ((0 ∷ 1 ∷ []) ∷ (0 ∷ 1 ∷ 2 ∷ []) ∷ (0 ∷ 0 ∷ 0 ∷ []) ∷ (0 ∷ 0 ∷ 0 ∷ []) ∷ []) ∷
    ((0 ∷ 0 ∷ []) ∷ (0 ∷ 1 ∷ 2 ∷ []) ∷ (0 ∷ 0 ∷ 0 ∷ []) ∷ (0 ∷ 0 ∷ 0 ∷ []) ∷ []) ∷
    ((0 ∷ 1 ∷ []) ∷ (0 ∷ 0 ∷ 0 ∷ []) ∷ (0 ∷ 0 ∷ 0 ∷ []) ∷ (0 ∷ 0 ∷ 0 ∷ []) ∷ []) ∷
    ((0 ∷ 0 ∷ []) ∷ (0 ∷ 0 ∷ 0 ∷ []) ∷ (0 ∷ 0 ∷ 0 ∷ []) ∷ (0 ∷ 0 ∷ 0 ∷ []) ∷ []) ∷
    ((0 ∷ 1 ∷ []) ∷ (0 ∷ 1 ∷ 2 ∷ []) ∷ (0 ∷ 5 ∷ 2 ∷ []) ∷ (0 ∷ 0 ∷ 0 ∷ []) ∷ []) ∷ []
unfolding equivocations
moves = refl

-- whoever the replica is: it leads height 2 itself as number 0
owners : map (λ own. outcome (splice 1 (own ∷ []) (book 8 2)) (proposal 0 2 (block 2 2))) (counting 0 4) ≡
    replicate 4 (0 ∷ 1 ∷ 3 ∷ 9 ∷ [])
unfolding equivocations
owners = refl

-- ---- the block: unlike the held one in any byte
-- a block of height 2 with eight entries of bytes 7
crowded : Bytes
crowded = 2 ∷ 0 ∷ 0 ∷ 0 ∷ 8 ∷ (zeros 43 ++ replicate 128 7)

-- two blocks of height 2, the held one and the proposed one
pairs : List (Bytes × Bytes)
pairs =
    -- the first byte of the first entry, and the last byte of the last
    (crowded, splice 48 (6 ∷ []) crowded) ∷ (crowded, splice 175 (8 ∷ []) crowded) ∷
    -- the count, where the entry is zero; the parent height; the first and the last byte of the parent digest
    (2 ∷ 0 ∷ 0 ∷ 0 ∷ 0 ∷ zeros 171, 2 ∷ 0 ∷ 0 ∷ 0 ∷ 1 ∷ zeros 171) ∷
    (2 ∷ 0 ∷ 1 ∷ 0 ∷ 0 ∷ zeros 171, 2 ∷ 0 ∷ 0 ∷ 0 ∷ 0 ∷ zeros 171) ∷
    (2 ∷ 0 ∷ 1 ∷ 0 ∷ 0 ∷ zeros 171, 2 ∷ 0 ∷ 1 ∷ 0 ∷ 0 ∷ (zeros 11 ++ (5 ∷ zeros 159))) ∷
    (2 ∷ 0 ∷ 1 ∷ 0 ∷ 0 ∷ zeros 171, 2 ∷ 0 ∷ 1 ∷ 0 ∷ 0 ∷ (zeros 42 ++ (5 ∷ zeros 128))) ∷ []

unlike : map
    (λ x. outcomes (book_with 0 2 (content 0 1 0 0 0 0) (x.0 ++ zeros 688))
    (proposal 0 2 x.0 ∷ proposal 0 2 x.1 ∷ []))
    pairs ≡ replicate 6 ((0 ∷ 0 ∷ []) ∷ (0 ∷ 1 ∷ 3 ∷ 1 ∷ []) ∷ [])
unfolding equivocations crowded pairs
unlike = refl

-- compared with the held block and never with the notarized one: held the second, notarized the first; both the first
notarized : map
    (λ held. outcomes (book_with 0 2 (content 0 3 7 0 0 0) (held ++ (block 2 1 ++ zeros 512)))
    (proposal 0 2 (block 2 1) ∷ proposal 0 2 (block 2 2) ∷ proposal 0 2 (block 2 3) ∷ []))
    (block 2 2 ∷ block 2 1 ∷ []) ≡
    ((0 ∷ 1 ∷ 3 ∷ 1 ∷ []) ∷ (0 ∷ 0 ∷ []) ∷ (0 ∷ 1 ∷ 3 ∷ 1 ∷ []) ∷ []) ∷
    ((0 ∷ 0 ∷ []) ∷ (0 ∷ 1 ∷ 3 ∷ 1 ∷ []) ∷ (0 ∷ 1 ∷ 3 ∷ 1 ∷ []) ∷ []) ∷ []
unfolding equivocations
notarized = refl

-- ---- no proposal is held: it is held, and the flags stay, whatever block is notarized or lies in the place
-- the leader's first block, and one that differs in its entry's last byte
twins : List Bytes
twins = proposal 0 2 (block 2 1) ∷ proposal 0 2 (splice 63 (9 ∷ []) (block 2 1)) ∷ []

-- the first block lies in both places: in state 2 it is notarized, in no state of these is it held
vacant_book : (flags status : ℕ) → Bytes
vacant_book flags status = book_with flags 2 (content 0 status 7 0 0 0) (block 2 1 ++ (block 2 1 ++ zeros 512))

not_held : map (λ f. map (λ status. outcomes (vacant_book f status) twins) (0 ∷ 2 ∷ [])) (0 ∷ 1 ∷ 14 ∷ 15 ∷ []) ≡
    replicate 4
    (((0 ∷ 1 ∷ 593 ∷ 1 ∷ []) ∷ (0 ∷ 1 ∷ 593 ∷ 1 ∷ 1551 ∷ 9 ∷ []) ∷ []) ∷
    ((0 ∷ 1 ∷ 593 ∷ 3 ∷ []) ∷ (0 ∷ 1 ∷ 593 ∷ 3 ∷ 1551 ∷ 9 ∷ []) ∷ []) ∷ [])
unfolding equivocations twins vacant_book
not_held = refl

-- ---- the current height can be passed, being notarized and linked, a dummy, both, or finalized: no exception
passable : List Bytes
passable =
    map (λ x. book_with 0 2 x (block 2 1 ++ (block 2 1 ++ zeros 512)))
    (content 0 3 7 0 0 0 ∷ content 0 1 0 7 0 0 ∷ content 0 3 7 7 0 0 ∷ content 0 3 7 0 7 0 ∷ [])

no_exception : map (λ x. outcome x (proposal 0 2 (block 2 2))) passable ≡ replicate 4 (0 ∷ 1 ∷ 3 ∷ 1 ∷ [])
unfolding equivocations passable
no_exception = refl

-- the dummy vote, then the pass, and it does not finalize; at height 3 the timer has not fired
passes : map (λ x. moves_after x (proposal 0 2 (block 2 2))) passable ≡
    ((0 ∷ 1 ∷ []) ∷ (0 ∷ 1 ∷ 2 ∷ []) ∷ (0 ∷ 3 ∷ 2 ∷ 5 ∷ 0 ∷ []) ∷ (0 ∷ 0 ∷ 0 ∷ []) ∷ []) ∷
    ((0 ∷ 1 ∷ []) ∷ (0 ∷ 1 ∷ 2 ∷ []) ∷ (0 ∷ 3 ∷ 2 ∷ 6 ∷ 0 ∷ []) ∷ (0 ∷ 5 ∷ 3 ∷ []) ∷ []) ∷
    ((0 ∷ 1 ∷ []) ∷ (0 ∷ 1 ∷ 2 ∷ []) ∷ (0 ∷ 3 ∷ 2 ∷ 5 ∷ 0 ∷ []) ∷ (0 ∷ 5 ∷ 3 ∷ []) ∷ []) ∷
    ((0 ∷ 1 ∷ []) ∷ (0 ∷ 1 ∷ 2 ∷ []) ∷ (0 ∷ 2 ∷ 2 ∷ []) ∷ (0 ∷ 3 ∷ 2 ∷ 5 ∷ 0 ∷ []) ∷ []) ∷ []
unfolding equivocations passable
passes = refl

-- the same books with the held proposal again: no dummy vote, and the pass finalizes
passes_single : map (λ x. moves_after x (proposal 0 2 (block 2 1))) passable ≡
    ((0 ∷ 0 ∷ []) ∷ (0 ∷ 3 ∷ 2 ∷ 5 ∷ 4 ∷ []) ∷ (0 ∷ 0 ∷ 0 ∷ []) ∷ (0 ∷ 0 ∷ 0 ∷ []) ∷ []) ∷
    ((0 ∷ 0 ∷ []) ∷ (0 ∷ 3 ∷ 2 ∷ 6 ∷ 4 ∷ []) ∷ (0 ∷ 5 ∷ 3 ∷ []) ∷ (0 ∷ 0 ∷ 0 ∷ []) ∷ []) ∷
    ((0 ∷ 0 ∷ []) ∷ (0 ∷ 3 ∷ 2 ∷ 5 ∷ 4 ∷ []) ∷ (0 ∷ 5 ∷ 3 ∷ []) ∷ (0 ∷ 0 ∷ 0 ∷ []) ∷ []) ∷
    ((0 ∷ 0 ∷ []) ∷ (0 ∷ 2 ∷ 2 ∷ []) ∷ (0 ∷ 3 ∷ 2 ∷ 5 ∷ 4 ∷ []) ∷ (0 ∷ 0 ∷ 0 ∷ []) ∷ []) ∷ []
unfolding equivocations passable
passes_single = refl

-- ---- other frames at the current height: they fire nothing, whether the timer has fired or not
-- replica 3 voted for a digest of zeros; the leader's first block is held, and notarized in state 3
voted : (flags status : ℕ) → Bytes
voted flags status = book_with flags 2 (content 0 status 7 0 0 8) (block 2 1 ++ (block 2 1 ++ zeros 512))

statements : List Bytes
statements =
    -- a voter's first digest and another one; another voter's
    block_vote 3 2 (zeros 32) ∷ block_vote 3 2 (9 ∷ zeros 31) ∷ block_vote 1 2 (9 ∷ zeros 31) ∷
    dummy_vote 1 2 ∷ finalize 1 2 ∷ dummy_certificate 2 7 ∷ finalize_certificate 2 7 ∷
    -- proposals of those who do not lead height 2, but heights 1 and 3; of one whom there is not
    proposal 1 2 (block 2 2) ∷ proposal 2 2 (block 2 2) ∷ proposal 3 2 (block 2 2) ∷ proposal 4 2 (block 2 2) ∷
    -- the leader's, with a byte set that is called zero, and cut short
    splice 6 (1 ∷ []) (proposal 0 2 (block 2 2)) ∷ take 223 (proposal 0 2 (block 2 2)) ∷ []

other_frames : map (λ f. outcomes (voted f 1) statements) (0 ∷ 1 ∷ []) ≡
    replicate 2
    ((0 ∷ 0 ∷ []) ∷ (8 ∷ []) ∷ (0 ∷ 1 ∷ 600 ∷ 10 ∷ 1872 ∷ 9 ∷ []) ∷
    (0 ∷ 1 ∷ 596 ∷ 2 ∷ []) ∷ (0 ∷ 1 ∷ 598 ∷ 2 ∷ []) ∷ (0 ∷ 1 ∷ 596 ∷ 7 ∷ []) ∷ (0 ∷ 1 ∷ 598 ∷ 7 ∷ []) ∷
    (7 ∷ []) ∷ (7 ∷ []) ∷ (7 ∷ []) ∷ (5 ∷ []) ∷
    (4 ∷ []) ∷ (4 ∷ []) ∷ [])
unfolding equivocations voted statements
other_frames = refl

-- a certified block unlike the held one is notarized where none is; one unlike the notarized one is refused by 10
certified : map (λ status. outcomes (voted 0 status)
    (block_certificate 2 7 (block 2 1) ∷ block_certificate 2 7 (splice 63 (9 ∷ []) (block 2 1)) ∷ []))
    (1 ∷ 3 ∷ []) ≡
    ((0 ∷ 1 ∷ 593 ∷ 3 ∷ []) ∷ (0 ∷ 1 ∷ 593 ∷ 3 ∷ 1727 ∷ 9 ∷ []) ∷ []) ∷
    ((0 ∷ 0 ∷ []) ∷ (10 ∷ []) ∷ []) ∷ []
unfolding equivocations voted
certified = refl

-- a book that is not sound: 1
damaged : outcome (splice 7 (9 ∷ []) (book 0 2)) (proposal 0 2 (block 2 2)) ≡ 1 ∷ []
unfolding equivocations
damaged = refl

-- ---- one replica, and sixteen whose last leads: one height
small : (n leader : ℕ) → Bytes
small n leader =
    n ∷ 0 ∷ 1 ∷ 0 ∷ 1 ∷ 0 ∷ 0 ∷ 2 ∷
    (one_bytes n ++ (zeros (568 - 2 * n) ++ (content leader 1 0 0 0 0 ++ (block 1 1 ++ zeros 688))))

replicas : outcome (small 1 0) (proposal 0 1 (block 1 2)) ∷ outcome (small 16 15) (proposal 15 1 (block 1 2)) ∷ [] ≡
    replicate 2 (0 ∷ 1 ∷ 3 ∷ 1 ∷ [])
unfolding equivocations small
replicas = refl

-- ---- two heights from the opening on: a row has the call, its answer, the bytes that it changed, and its reply
-- replica 2 of four; replica 1 leads height 1, 0 leads height 2, whose contents begin at 592; bodies at 608 and 1472
season : disagreement 1 (replicate 2336 90)
    (expect (opening (one_each 4) 4 2 2 (1 ∷ 0 ∷ [])) (0 ∷ [])
    ((0, 4 ∷ 2 ∷ 2 ∷ 0 ∷ 1 ∷ 0 ∷ 0 ∷ 2 ∷ (one_bytes 4 ++ (zeros 560 ++ (1 ∷ zeros 1759)))) ∷ []) [] ∷
    -- above the current height a second proposal is refused, and leaves no trace
    expect (delivery (proposal 0 2 (block 2 1))) (0 ∷ 1 ∷ []) ((593, 1 ∷ []) ∷ (1472, block 2 1) ∷ []) [] ∷
    expect (delivery (proposal 0 2 (block 2 2))) (8 ∷ []) [] [] ∷
    -- at the current height the first is held, and the second fires the timer
    expect (delivery (proposal 1 1 (block 1 1))) (0 ∷ 1 ∷ []) ((577, 1 ∷ []) ∷ (608, block 1 1) ∷ []) [] ∷
    expect (delivery (proposal 1 1 (block 1 2))) (0 ∷ 1 ∷ []) ((3, 1 ∷ []) ∷ []) [] ∷
    -- a signal comes too late; the first, the second and a third proposal are known
    expect (signalling 1) (14 ∷ []) [] [] ∷
    expect (delivery (proposal 1 1 (block 1 1))) (0 ∷ 0 ∷ []) [] [] ∷
    expect (delivery (proposal 1 1 (block 1 2))) (0 ∷ 0 ∷ []) [] [] ∷
    expect (delivery (proposal 1 1 (block 1 3))) (0 ∷ 0 ∷ []) [] [] ∷
    -- the dummy vote without a signal, after which all this stays so; then the vote for the held block
    expect (moving (replicate 448 170)) (0 ∷ 1 ∷ 1 ∷ []) ((3, 3 ∷ []) ∷ [])
    (3 ∷ 2 ∷ 1 ∷ (zeros 221 ++ replicate 224 170)) ∷
    expect (signalling 1) (14 ∷ []) [] [] ∷
    expect (delivery (proposal 1 1 (block 1 3))) (0 ∷ 0 ∷ []) [] [] ∷
    expect (moving (replicate 448 170)) (0 ∷ 5 ∷ 1 ∷ []) ((3, 7 ∷ []) ∷ [])
    (2 ∷ 2 ∷ 1 ∷ (zeros 13 ++ (stand_in (block 1 1) ++ (zeros 176 ++ replicate 224 170)))) ∷
    -- the dummy's certificate: a pass whose second frame is zero bytes
    expect (delivery (dummy_certificate 1 7)) (0 ∷ 1 ∷ []) ((580, 7 ∷ []) ∷ []) [] ∷
    expect (moving (replicate 448 170)) (0 ∷ 3 ∷ 1 ∷ 6 ∷ 0 ∷ []) ((3, 0 ∷ 2 ∷ []) ∷ [])
    (6 ∷ 0 ∷ 1 ∷ 0 ∷ 7 ∷ (zeros 219 ++ zeros 224)) ∷
    -- below the current height it is refused; at height 2 the timer has not fired, for all that was refused above
    expect (delivery (proposal 1 1 (block 1 2))) (8 ∷ []) [] [] ∷
    expect (moving (replicate 448 170)) (0 ∷ 5 ∷ 2 ∷ []) ((3, 4 ∷ []) ∷ [])
    (2 ∷ 2 ∷ 2 ∷ (zeros 13 ++ (stand_in (block 2 1) ++ (zeros 176 ++ replicate 224 170)))) ∷
    -- until the second proposal comes again
    expect (delivery (proposal 0 2 (block 2 2))) (0 ∷ 1 ∷ []) ((3, 5 ∷ []) ∷ []) [] ∷
    expect (moving (replicate 448 170)) (0 ∷ 1 ∷ 2 ∷ []) ((3, 7 ∷ []) ∷ [])
    (3 ∷ 2 ∷ 2 ∷ (zeros 221 ++ replicate 224 170)) ∷
    expect (delivery (dummy_certificate 2 7)) (0 ∷ 1 ∷ []) ((596, 7 ∷ []) ∷ []) [] ∷
    expect (moving (replicate 448 170)) (0 ∷ 3 ∷ 2 ∷ 6 ∷ 0 ∷ []) ((3, 0 ∷ 3 ∷ []) ∷ [])
    (6 ∷ 0 ∷ 2 ∷ 0 ∷ 7 ∷ (zeros 219 ++ zeros 224)) ∷
    -- the season is full: refused at every height
    expect (delivery (proposal 1 1 (block 1 2))) (8 ∷ []) [] [] ∷
    expect (delivery (proposal 0 2 (block 2 2))) (8 ∷ []) [] [] ∷ []) ≡ 0
unfolding equivocations
season = refl

-- after a signal every second proposal is known
signalled : answers (book 0 2)
    (signalling 2 ∷ delivery (proposal 0 2 (block 2 2)) ∷ delivery (proposal 0 2 (block 2 3)) ∷
    moving (zeros 448) ∷ delivery (proposal 0 2 (block 2 2)) ∷ []) ≡
    (0 ∷ []) ∷ (0 ∷ 0 ∷ []) ∷ (0 ∷ 0 ∷ []) ∷ (0 ∷ 1 ∷ 2 ∷ []) ∷ (0 ∷ 0 ∷ []) ∷ []
unfolding equivocations
signalled = refl

-- ---- packets: fresh, known, refused
-- the leader's proposals at a height, with the entries of these numbers
packet : (leader h : ℕ) → List ℕ → Bytes
packet leader h numbers = join (map (λ number. proposal leader h (block h number)) numbers)

-- Nothing is held before. Two at the current height, the same again, and all three; two at the next height, where the
-- first stays alone, and again. Contents begin at 576 and 592, bodies at 608 and 1472.
packets : disagreement 1 (4 ∷ 2 ∷ 2 ∷ 0 ∷ 1 ∷ 0 ∷ 0 ∷ 2 ∷ (one_bytes 4 ++ (zeros 560 ++ (1 ∷ zeros 1759))))
    (expect (packet_delivery (packet 1 1 (1 ∷ 2 ∷ []))) (0 ∷ 2 ∷ 0 ∷ 0 ∷ [])
    ((3, 1 ∷ []) ∷ (577, 1 ∷ []) ∷ (608, block 1 1) ∷ []) [] ∷
    expect (packet_delivery (packet 1 1 (1 ∷ 2 ∷ []))) (0 ∷ 0 ∷ 2 ∷ 0 ∷ []) [] [] ∷
    expect (packet_delivery (packet 1 1 (3 ∷ 2 ∷ 1 ∷ []))) (0 ∷ 0 ∷ 3 ∷ 0 ∷ []) [] [] ∷
    expect (packet_delivery (packet 0 2 (2 ∷ 1 ∷ []))) (0 ∷ 1 ∷ 0 ∷ 1 ∷ [])
    ((593, 1 ∷ []) ∷ (1472, block 2 2) ∷ []) [] ∷
    expect (packet_delivery (packet 0 2 (2 ∷ 1 ∷ []))) (0 ∷ 0 ∷ 1 ∷ 1 ∷ []) [] [] ∷
    expect (moving (replicate 448 170)) (0 ∷ 1 ∷ 1 ∷ []) ((3, 3 ∷ []) ∷ [])
    (3 ∷ 2 ∷ 1 ∷ (zeros 221 ++ replicate 224 170)) ∷ []) ≡ 0
unfolding equivocations packet
packets = refl

-- three at once: the first is held, the second fires the timer, the third is known
three : disagreement 1 (4 ∷ 2 ∷ 1 ∷ 0 ∷ 1 ∷ 0 ∷ 0 ∷ 2 ∷ (one_bytes 4 ++ zeros 1440))
    (expect (packet_delivery (packet 0 1 (2 ∷ 3 ∷ 1 ∷ []))) (0 ∷ 2 ∷ 1 ∷ 0 ∷ [])
    ((3, 1 ∷ []) ∷ (577, 1 ∷ []) ∷ (592, block 1 2) ∷ []) [] ∷ []) ≡ 0
unfolding equivocations packet
three = refl

-- ---- the lists of calls: the second proposal is delivered at the current height, and at no other
delivered : map (λ frame. (effect stand_in (book 0 2) (delivery frame)).delivers) (proposals 2) ≡
    [] ∷ (proposal 0 2 (block 2 2) ∷ []) ∷ [] ∷ []
unfolding equivocations
delivered = refl

delivered_packet : (effect stand_in (book 0 2) (packet_delivery (join (proposals 2 ++ proposals 1)))).delivers ≡
    proposal 0 2 (block 2 2) ∷ proposals 1
unfolding equivocations
delivered_packet = refl
