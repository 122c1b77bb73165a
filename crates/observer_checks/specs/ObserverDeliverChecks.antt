-- Deliver of an observer (document 02, 2.3): the order of refusals wherever two apply, and every byte that a
-- certificate changes.
use Rattle.std.specs.Prelude.{ℕ, ◌≡◌, refl, List, [], ◌∷◌, ◌++◌, map, replicate, take}
use Rattle.protocol.specs.Bytes.{Bytes, zeros}
use Rattle.protocol.specs.Frame.{proposal, block_vote, dummy_vote, finalize, block_certificate, dummy_certificate}
use Rattle.protocol.specs.Frame.{finalize_certificate}
use Rattle.protocol.specs.ObserverCall.{observer_delivery}
use Rattle.check_books.specs.CheckCalls.{stand_in, splice}
use Rattle.check_books.specs.CheckObservers.{observer_numbers, observer_after, observer_outcome}
use Rattle.check_books.specs.CheckObservers.{observer_outcomes, deliveries, first_block, observer_head, new_book}
use Rattle.check_books.specs.CheckObservers.{lowest, highest, season, season_to, other, middle, damaged}
use Rattle.check_books.specs.CheckObservers.{with_byte, observer_tools}

-- ---- Deliver: 1, 4, 16, 6, 5, 9, 10
-- the frame with a 1 at each of these places
with_one : Bytes → List ℕ → List Bytes
with_one frame places = map (λ place. with_byte place 1 frame) places

-- certificates that are no frames: length, kinds 0 and 8, each unused field, the block's height and form
malformed : List Bytes
malformed =
    [] ∷ take 223 (dummy_certificate 1 7) ∷ (dummy_certificate 1 7 ++ (0 ∷ [])) ∷
    block_certificate 2 7 lowest ∷ block_certificate 2 7 (zeros 176) ∷
    (map (λ kind. with_byte 0 kind (dummy_certificate 1 7)) (0 ∷ 8 ∷ 255 ∷ []) ++
    (with_one (dummy_certificate 1 7) (1 ∷ 6 ∷ 16 ∷ 48 ∷ []) ++
    (with_one (finalize_certificate 1 7) (1 ∷ 15 ∷ 47 ∷ 223 ∷ []) ++
    with_one (block_certificate 1 7 lowest) (1 ∷ 47 ∷ 53 ∷ 223 ∷ []))))

-- 4 before 16: a proposal whose block is of another height, of height 0, or not well formed; votes and finalizes with a
-- field that they do not use; of heights and signers that there are not
malformed_statements : List Bytes
malformed_statements =
    proposal 0 2 lowest ∷ proposal 0 0 (first_block 0 1) ∷ take 223 (dummy_vote 0 1) ∷
    (with_one (proposal 0 2 middle) (4 ∷ 53 ∷ []) ++
    (with_one (block_vote 1 1 (zeros 32)) (4 ∷ 48 ∷ []) ++
    (with_one (dummy_vote 0 0) (6 ∷ []) ++
    with_one (finalize 99 99) (15 ∷ 16 ∷ 223 ∷ []))))

-- 4 before 6, before 5, before 9 and before 10
malformed_too : List Bytes
malformed_too =
    block_certificate 0 7 (first_block 0 1) ∷ with_byte 6 1 (dummy_certificate 0 7) ∷
    with_byte 1 1 (finalize_certificate 99 7) ∷ with_byte 6 1 (dummy_certificate 1 23) ∷
    with_byte 6 1 (finalize_certificate 1 3) ∷ with_byte 53 1 (block_certificate 1 7 other) ∷ []

-- the four kinds; 16 before 6: heights 0, 4, 99 and 255 of three; before 5: signers 4, 99 and 255 of four; before both
-- and where the block is unlike the notarized one
statements : List Bytes
statements =
    proposal 0 2 middle ∷ block_vote 0 1 (stand_in lowest) ∷ dummy_vote 0 1 ∷ finalize 0 1 ∷
    dummy_vote 0 0 ∷ dummy_vote 0 4 ∷ dummy_vote 0 99 ∷ dummy_vote 0 255 ∷ block_vote 0 0 (zeros 32) ∷ finalize 0 0 ∷
    finalize 0 4 ∷ proposal 0 4 (first_block 4 1) ∷ proposal 0 99 (first_block 99 1) ∷
    dummy_vote 4 1 ∷ dummy_vote 99 1 ∷ finalize 99 1 ∷ block_vote 255 1 (zeros 32) ∷ proposal 99 2 middle ∷
    dummy_vote 99 99 ∷ finalize 4 0 ∷ proposal 0 1 lowest ∷ proposal 0 1 other ∷ proposal 3 3 highest ∷ []

-- 6: heights 0, 4, 99 and 255 of three; before 5 and before 9
outside : List Bytes
outside =
    dummy_certificate 0 7 ∷ dummy_certificate 4 7 ∷ dummy_certificate 99 7 ∷ finalize_certificate 0 7 ∷
    finalize_certificate 4 7 ∷ finalize_certificate 255 7 ∷ block_certificate 4 7 (first_block 4 1) ∷
    dummy_certificate 0 23 ∷ finalize_certificate 4 16 ∷ block_certificate 4 23 (first_block 4 1) ∷
    dummy_certificate 0 3 ∷ finalize_certificate 4 0 ∷ block_certificate 4 3 (first_block 4 1) ∷ []

-- 5: bits 4 and 15 of four replicas; before 9 and before 10
strangers : List Bytes
strangers =
    dummy_certificate 2 23 ∷ finalize_certificate 2 23 ∷ block_certificate 2 23 middle ∷ dummy_certificate 3 32775 ∷
    dummy_certificate 1 16 ∷ finalize_certificate 1 32768 ∷ block_certificate 2 17 middle ∷
    block_certificate 1 23 other ∷ block_certificate 1 16 lowest ∷ []

-- 9: no signer and two of four, also of a known block; before 10
too_few : List Bytes
too_few =
    dummy_certificate 2 0 ∷ dummy_certificate 2 3 ∷ finalize_certificate 2 12 ∷ finalize_certificate 1 0 ∷
    block_certificate 2 6 middle ∷ block_certificate 1 3 lowest ∷ block_certificate 1 3 other ∷ []

-- 10: unlike in its entry, in its entry's last byte, and another parent
unlike : List Bytes
unlike =
    block_certificate 1 7 other ∷ block_certificate 1 15 (splice 63 (9 ∷ []) lowest) ∷
    block_certificate 3 13 (first_block 3 1) ∷ []

-- known, with another mask too: dummies and finalizes below those that are kept, and the notarized blocks
known_frames : List Bytes
known_frames =
    dummy_certificate 2 7 ∷ finalize_certificate 1 7 ∷ finalize_certificate 3 11 ∷ block_certificate 1 7 lowest ∷
    block_certificate 1 14 lowest ∷ block_certificate 3 15 highest ∷ []

unfoldable frames : Unit {0}
unfolding observer_tools with_one malformed malformed_statements malformed_too statements outside strangers too_few unlike
    known_frames
frames = tt

refused_frames_lem : map (deliveries season)
    (malformed ∷ malformed_statements ∷ malformed_too ∷ statements ∷ outside ∷ strangers ∷ too_few ∷ unlike ∷
    known_frames ∷ []) ≡
    replicate 20 (4 ∷ []) ∷ replicate 11 (4 ∷ []) ∷ replicate 6 (4 ∷ []) ∷ replicate 23 (16 ∷ []) ∷
    replicate 13 (6 ∷ []) ∷ replicate 9 (5 ∷ []) ∷ replicate 7 (9 ∷ []) ∷ replicate 3 (10 ∷ []) ∷
    replicate 6 (0 ∷ 0 ∷ []) ∷ []
unfolding frames
refused_frames_lem = refl

-- 1 before each of these
over_damage : map (deliveries damaged)
    (malformed_too ∷ take 4 statements ∷ take 3 outside ∷ take 3 strangers ∷ take 3 too_few ∷ unlike ∷ []) ≡
    replicate 6 (1 ∷ []) ∷ replicate 4 (1 ∷ []) ∷ replicate 4 (replicate 3 (1 ∷ []))
unfolding frames
over_damage = refl

-- ---- Deliver: fresh, and every byte that changes
-- masks are or-ed in, each at its height; contents begin at 64, 72 and 80, a height's dummies 4 on, its finalizes 6 on
masks : deliveries season
    (dummy_certificate 1 7 ∷ dummy_certificate 2 14 ∷ dummy_certificate 3 13 ∷ finalize_certificate 1 14 ∷
    finalize_certificate 2 7 ∷ finalize_certificate 3 7 ∷ []) ≡
    (0 ∷ 1 ∷ 68 ∷ 7 ∷ []) ∷ (0 ∷ 1 ∷ 76 ∷ 15 ∷ []) ∷ (0 ∷ 1 ∷ 84 ∷ 13 ∷ []) ∷ (0 ∷ 1 ∷ 70 ∷ 15 ∷ []) ∷
    (0 ∷ 1 ∷ 78 ∷ 7 ∷ []) ∷ (0 ∷ 1 ∷ 86 ∷ 15 ∷ []) ∷ []
unfolding frames
masks = refl

-- both bytes of a mask: eleven of sixteen replicas, eleven others of whom six were among the first, and these again
wide_masks : observer_outcomes (new_book 16 1) (map observer_delivery
    (dummy_certificate 1 2047 ∷ dummy_certificate 1 65504 ∷ dummy_certificate 1 2047 ∷ dummy_certificate 1 1023 ∷
    finalize_certificate 1 65504 ∷ finalize_certificate 1 2047 ∷ finalize_certificate 1 65504 ∷ [])) ≡
    (0 ∷ 1 ∷ 68 ∷ 255 ∷ 69 ∷ 7 ∷ []) ∷ (0 ∷ 1 ∷ 69 ∷ 255 ∷ []) ∷ (0 ∷ 0 ∷ []) ∷ (9 ∷ []) ∷
    (0 ∷ 1 ∷ 70 ∷ 224 ∷ 71 ∷ 255 ∷ []) ∷ (0 ∷ 1 ∷ 70 ∷ 255 ∷ []) ∷ (0 ∷ 0 ∷ []) ∷ []
unfolding frames
wide_masks = refl

-- a block where none is notarized, over free bytes and a mask: state 2, that mask and that block; then it is known
-- whatever the mask, and another one is refused
strewn : Bytes
strewn = splice 264 (replicate 176 255) (splice 74 (5 ∷ []) (season_to 3))

blocks : observer_after strewn (observer_delivery (block_certificate 2 14 middle)) ∷
    observer_after (new_book 16 1) (observer_delivery (block_certificate 1 65535 lowest)) ∷ [] ≡
    splice 264 middle (splice 72 (2 ∷ 0 ∷ 14 ∷ []) (season_to 3)) ∷
    (observer_head 16 1 0 ++ ((2 ∷ 0 ∷ 255 ∷ 255 ∷ 0 ∷ 0 ∷ 0 ∷ 0 ∷ []) ++ lowest)) ∷ []
unfolding frames strewn
blocks = refl

block_answers : map (observer_numbers strewn)
    (map observer_delivery (block_certificate 2 14 middle ∷ dummy_certificate 2 7 ∷ [])) ++
    deliveries (observer_after strewn (observer_delivery (block_certificate 2 14 middle)))
    (block_certificate 2 14 middle ∷ block_certificate 2 7 middle ∷ block_certificate 2 14 (first_block 2 8) ∷ []) ≡
    (0 ∷ 1 ∷ []) ∷ (0 ∷ 0 ∷ []) ∷ (0 ∷ 0 ∷ []) ∷ (0 ∷ 0 ∷ []) ∷ (10 ∷ []) ∷ []
unfolding frames strewn
block_answers = refl

-- what is delivered below, at and above the finalized height is kept alike
below : map (λ g. observer_outcome (season_to g) (observer_delivery (dummy_certificate 1 7))) (0 ∷ 1 ∷ 3 ∷ []) ≡
    replicate 3 (0 ∷ 1 ∷ 68 ∷ 7 ∷ [])
unfolding frames
below = refl

-- the last of 63 heights: contents at 560, block at 11480; the longest outcome is cut off within the block's entry
last_height : map (take 12) (deliveries (new_book 4 63)
    (dummy_certificate 63 7 ∷ finalize_certificate 63 7 ∷ dummy_certificate 64 7 ∷
    block_certificate 63 7 (first_block 63 1) ∷ [])) ≡
    (0 ∷ 1 ∷ 564 ∷ 7 ∷ []) ∷ (0 ∷ 1 ∷ 566 ∷ 7 ∷ []) ∷ (6 ∷ []) ∷
    (0 ∷ 1 ∷ 560 ∷ 2 ∷ 562 ∷ 7 ∷ 11480 ∷ 63 ∷ 11484 ∷ 1 ∷ 11528 ∷ 1 ∷ []) ∷ []
unfolding frames
last_height = refl
