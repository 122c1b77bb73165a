-- The definitions on document 01's own numbers: its refusals, damaged books, the rehearsal, and heights that finalize.
use Rattle.std.specs.Prelude.{ℕ, ◌≡◌, refl, Bool, true, ◌&&◌, not, List, [], ◌∷◌, ◌++◌, replicate, take}
use Rattle.protocol.specs.Bytes.{Bytes, zeros}
use Rattle.protocol.specs.Tests.{all_of}
use Rattle.protocol.specs.Block.{new_block}
use Rattle.protocol.specs.Frame.{frame_of, proposal, block_vote, dummy_vote, finalize, block_certificate, dummy_certificate}
use Rattle.protocol.specs.Frame.{finalize_certificate}
use Rattle.protocol.specs.Sound.{sound}
use Rattle.protocol.specs.Call.{opening, delivery, moving, signalling, submitting, sizing, fetching}
use Rattle.check_books.specs.CheckCalls.{stand_in, after, answers, refuses, splice, one_each, first_edition}
use Rattle.check_books.specs.CheckStates.{entry, entries_from, state_tools}

-- ---- books, blocks and calls of the checks
-- replica 2 of 4, one height, leader 0
single : Bytes
single = after (zeros 1456) (opening (one_each 4) 4 2 1 (0 ∷ []) ∷ [])

-- replica 2 of 16, one height, leader 0
sixteen : Bytes
sixteen = after (zeros 1456) (opening (one_each 16) 16 2 1 (0 ∷ []) ∷ [])

-- replica 2 of 4, three heights, leaders 0, 1 and 2: the rehearsal's book
triple : Bytes
triple = after (zeros 3216) (opening (one_each 4) 4 2 3 (0 ∷ 1 ∷ 2 ∷ []) ∷ [])

-- two blocks of height 1
one : Bytes
one = new_block 1 0 (zeros 32) (entry 1 ∷ [])

other : Bytes
other = new_block 1 0 (zeros 32) (entry 2 ∷ [])

-- two blocks of height 2, which is not the current one of a new book
ahead : Bytes
ahead = new_block 2 0 (zeros 32) (entry 1 ∷ [])

ahead_other : Bytes
ahead_other = new_block 2 0 (zeros 32) (entry 2 ∷ [])

-- a book that holds and has notarized `one`, and has it finalized
settled : Bytes
settled =
    after single
    (delivery (proposal 0 1 one) ∷ delivery (block_certificate 1 7 one) ∷ delivery (finalize_certificate 1 7) ∷
    moving (zeros 448) ∷ [])

-- a book with 32 pending entries
full : Bytes
full = splice 64 (entries_from 1 32) (splice 6 (32 ∷ []) single)

-- a book of one height with one byte cut off
short : Bytes
short = take 1455 single

unfoldable books : Unit {0}
unfolding state_tools single sixteen triple one other ahead ahead_other settled full short
books = tt

-- ---- document 01's table of refusals, row by row, by the example that stands there
refusals : all_of
    -- 1: 1,455 bytes for one height
    (refuses 1 (zeros 1455) (opening (one_each 4) 4 2 1 (0 ∷ [])) ∷
    refuses 1 short (moving (zeros 448)) ∷
    -- 2: 4 replicas, own number 4
    refuses 2 (zeros 1456) (opening (one_each 4) 4 4 1 (0 ∷ [])) ∷
    -- 3: a move with a reply of 447 bytes; a fetch with one of 223 (that bound is in the row's first column)
    refuses 3 single (moving (replicate 447 9)) ∷
    refuses 3 settled (fetching 5 1 (replicate 223 9)) ∷
    -- 4: kind 8; a fetch of kind 4 or 8; an entry of 15 bytes
    refuses 4 single (delivery (frame_of 8 0 1 0 (zeros 32) (zeros 176))) ∷
    refuses 4 settled (fetching 4 1 (replicate 224 9)) ∷
    refuses 4 settled (fetching 8 1 (replicate 224 9)) ∷
    refuses 4 single (submitting (zeros 15)) ∷
    -- 5: 4 replicas, mask 16; a signer 4
    refuses 5 single (delivery (dummy_certificate 1 16)) ∷
    refuses 5 single (delivery (dummy_vote 4 1)) ∷
    -- 6: a dummy vote of height 0; one above the last height
    refuses 6 single (delivery (dummy_vote 0 0)) ∷
    refuses 6 single (delivery (dummy_vote 0 2)) ∷
    -- 7: leader 0, signer 1
    refuses 7 single (delivery (proposal 1 1 one)) ∷
    -- 8: a second digest; a second proposal, at another height than the current one
    refuses 8 (after single (delivery (block_vote 1 1 (stand_in one)) ∷ [])) (delivery (block_vote 1 1 (stand_in other))) ∷
    refuses 8 (after triple (delivery (proposal 1 2 ahead) ∷ [])) (delivery (proposal 1 2 ahead_other)) ∷
    -- 9: 4 replicas, mask 3
    refuses 9 single (delivery (dummy_certificate 1 3)) ∷
    refuses 9 single (delivery (block_certificate 1 3 one)) ∷
    refuses 9 single (delivery (finalize_certificate 1 3)) ∷
    -- 10 signers of 16 are more than half and no quorum (example c)
    refuses 9 sixteen (delivery (dummy_certificate 1 1023)) ∷
    -- 10: a certified block with another entry
    refuses 10 (after single (delivery (block_certificate 1 7 one) ∷ [])) (delivery (block_certificate 1 7 other)) ∷
    -- 11: fetches on a new book
    refuses 11 single (fetching 5 1 (replicate 224 9)) ∷
    refuses 11 single (fetching 6 1 (replicate 224 9)) ∷
    refuses 11 single (fetching 7 1 (replicate 224 9)) ∷
    -- 12: a 33rd entry
    refuses 12 full (submitting (entry 33)) ∷
    -- 13: an entry sent twice; one that the log holds
    refuses 13 full (submitting (entry 5)) ∷
    refuses 13 settled (submitting (entry 1)) ∷
    -- 14: height 2 while the replica is at height 1; the timer fired already
    refuses 14 triple (signalling 2) ∷
    refuses 14 (after triple (signalling 1 ∷ [])) (signalling 1) ∷ []) ≡ true
unfolding books
refusals = refl

-- a second proposal at the current height is not refused: it is fresh, then known; EquivocationChecks has the rest
second_proposal_at_current : answers single
    (delivery (proposal 0 1 one) ∷ delivery (proposal 0 1 other) ∷ delivery (proposal 0 1 other) ∷ []) ≡
    (0 ∷ 1 ∷ []) ∷ (0 ∷ 1 ∷ []) ∷ (0 ∷ 0 ∷ []) ∷ []
unfolding books
second_proposal_at_current = refl

-- ---- document 01's frames: each field that a kind does not use is zero, and a block is as it must be
-- a frame is refused by 4 with any of these places set to 1
spoiled : Bytes → List ℕ → Bool
spoiled frame [] = true
spoiled frame (place ∷ places) = refuses 4 single (delivery (splice place (1 ∷ []) frame)) && spoiled frame places

-- the places of bytes 6 to 15 (of all kinds), of the mask, of the digest and of the block: first and last of each
malformed : all_of
    (spoiled (block_vote 1 1 (stand_in one)) (6 ∷ 15 ∷ 4 ∷ 5 ∷ 48 ∷ 223 ∷ []) ∷
    spoiled (dummy_vote 1 1) (6 ∷ 15 ∷ 4 ∷ 5 ∷ 16 ∷ 47 ∷ 48 ∷ 223 ∷ []) ∷
    spoiled (finalize 1 1) (6 ∷ 15 ∷ 4 ∷ 5 ∷ 16 ∷ 47 ∷ 48 ∷ 223 ∷ []) ∷
    spoiled (dummy_certificate 1 7) (1 ∷ 6 ∷ 15 ∷ 16 ∷ 47 ∷ 48 ∷ 223 ∷ []) ∷
    spoiled (finalize_certificate 1 7) (1 ∷ 6 ∷ 15 ∷ 16 ∷ 47 ∷ 48 ∷ 223 ∷ []) ∷
    -- of a block also its own zero bytes, a parent that is not below it, a parent digest without a parent, bytes past
    -- the entry
    spoiled (proposal 0 1 one) (6 ∷ 15 ∷ 4 ∷ 5 ∷ 16 ∷ 47 ∷ 50 ∷ 53 ∷ 63 ∷ 64 ∷ 95 ∷ 112 ∷ 223 ∷ []) ∷
    spoiled (block_certificate 1 7 one) (1 ∷ 6 ∷ 15 ∷ 16 ∷ 47 ∷ 50 ∷ 53 ∷ 63 ∷ 64 ∷ 95 ∷ 112 ∷ 223 ∷ []) ∷
    -- another height than the frame's, nine entries, a frame of 223 and of 225 bytes
    refuses 4 single (delivery (splice 48 (2 ∷ []) (proposal 0 1 one))) ∷
    refuses 4 single (delivery (splice 52 (9 ∷ []) (proposal 0 1 one))) ∷
    refuses 4 single (delivery (take 223 (dummy_vote 1 1))) ∷
    refuses 4 single (delivery (dummy_vote 1 1 ++ (0 ∷ []))) ∷ []) ≡ true
unfolding books spoiled
malformed = refl

-- the frames as they were are all fresh
formed : answers single
    (delivery (block_vote 1 1 (stand_in one)) ∷ delivery (dummy_vote 1 1) ∷ delivery (finalize 1 1) ∷ delivery
    (dummy_certificate 1 7) ∷
    delivery (finalize_certificate 1 7) ∷ delivery (proposal 0 1 one) ∷ delivery (block_certificate 1 7 one) ∷ []) ≡
    replicate 7 (0 ∷ 1 ∷ [])
unfolding books
formed = refl

-- 11 signers of 16 are a quorum (example c), with a mask of two bytes
eleven : answers sixteen (delivery (dummy_certificate 1 2047) ∷ moving (zeros 448) ∷ []) ≡ (0 ∷ 1 ∷ []) ∷
    (0 ∷ 3 ∷ 1 ∷ 6 ∷ 4 ∷ []) ∷ []
unfolding books
eleven = refl

-- ---- document 01's line of orders: inputs that are wrong in two ways
orders : all_of
    -- open 2, 1
    (refuses 2 (zeros 1455) (opening (one_each 4) 4 4 1 (0 ∷ [])) ∷
    refuses 2 (zeros 1456) (opening (one_each 4) 4 2 2 (0 ∷ [])) ∷
    -- deliver 1, 4
    refuses 1 short (delivery (frame_of 8 0 1 0 (zeros 32) (zeros 176))) ∷
    -- deliver 4, 6: kind 8 at height 0; a block of height 0 has no parent below it
    refuses 4 single (delivery (frame_of 8 0 0 0 (zeros 32) (zeros 176))) ∷
    refuses 4 single (delivery (proposal 0 0 (new_block 0 0 (zeros 32) []))) ∷
    refuses 4 single (delivery (block_certificate 0 7 (new_block 0 0 (zeros 32) []))) ∷
    -- deliver 6, 5 and 6, 7: a signer 4 at height 0; a block above the last height, whoever proposes it
    refuses 6 single (delivery (dummy_vote 4 0)) ∷
    refuses 6 single (delivery (dummy_certificate 2 16)) ∷
    refuses 6 single (delivery (proposal 1 2 (new_block 2 0 (zeros 32) []))) ∷
    -- deliver 5, 7 and 5, 9: signer 4 does not lead; mask 16 is no quorum
    refuses 5 single (delivery (proposal 4 1 one)) ∷
    refuses 5 single (delivery (finalize_certificate 1 17)) ∷
    -- deliver 7, 8: a second proposal by another replica, above the current height; at it, where the leader's is no 8
    refuses 7 (after triple (delivery (proposal 1 2 ahead) ∷ [])) (delivery (proposal 0 2 ahead_other)) ∷
    refuses 7 (after single (delivery (proposal 0 1 one) ∷ [])) (delivery (proposal 1 1 other)) ∷
    -- deliver 9, 10: another block with mask 3
    refuses 9 (after single (delivery (block_certificate 1 7 one) ∷ [])) (delivery (block_certificate 1 3 other)) ∷
    -- move 1, 3
    refuses 1 short (moving (zeros 447)) ∷
    -- signal 1, 6 and 6, 14: the replica is at height 1 of 3
    refuses 1 short (signalling 0) ∷
    refuses 6 triple (signalling 0) ∷
    refuses 6 triple (signalling 4) ∷
    -- submit 1, 4 and 13, 12
    refuses 1 short (submitting (zeros 15)) ∷
    refuses 13 full (submitting (entry 32)) ∷
    -- size 1
    refuses 1 short sizing ∷
    -- fetch 1, 4; 4, 6; 6, 3; 3, 11
    refuses 1 short (fetching 4 1 (zeros 224)) ∷
    refuses 4 single (fetching 4 0 (zeros 224)) ∷
    refuses 6 single (fetching 5 0 (zeros 223)) ∷
    refuses 3 single (fetching 5 1 (zeros 223)) ∷ []) ≡ true
unfolding books
orders = refl

-- ---- document 01's line of soundness: one damage for each row of `sound`, in its order
-- a book of one height whose body at height 1 begins at 592: proposal 592, notarized block 768
damages : all_of
    (not (sound stand_in (take 1455 settled)) ∷
    not (sound stand_in (settled ++ (0 ∷ []))) ∷
    -- 17 replicas; own number 4 of 4; no height; edition 255
    not (sound stand_in (splice 0 (17 ∷ []) single)) ∷
    not (sound stand_in (splice 1 (4 ∷ []) single)) ∷
    not (sound stand_in (splice 2 (0 ∷ []) (take 576 single))) ∷
    not (sound stand_in (splice 7 (255 ∷ []) settled)) ∷
    -- current height 0 and H + 2; flags 16; 33 pending
    not (sound stand_in (splice 4 (0 ∷ []) settled)) ∷
    not (sound stand_in (splice 4 (3 ∷ []) settled)) ∷
    not (sound stand_in (splice 3 (16 ∷ []) settled)) ∷
    not (sound stand_in (splice 6 (33 ∷ []) settled)) ∷
    -- leader 4; bit 4 in each of the four masks
    not (sound stand_in (splice 576 (4 ∷ []) settled)) ∷
    not (sound stand_in (splice 578 (23 ∷ []) settled)) ∷
    not (sound stand_in (splice 580 (16 ∷ []) settled)) ∷
    not (sound stand_in (splice 582 (23 ∷ []) settled)) ∷
    not (sound stand_in (splice 585 (1 ∷ []) settled)) ∷
    -- state 4
    not (sound stand_in (splice 577 (4 ∷ []) settled)) ∷
    -- a held proposal and a notarized block with a byte that must be zero; with another height
    not (sound stand_in (splice 598 (1 ∷ []) settled)) ∷
    not (sound stand_in (splice 774 (1 ∷ []) settled)) ∷
    not (sound stand_in (splice 592 (2 ∷ []) settled)) ∷
    -- a notarized block's certificate mask that is no quorum
    not (sound stand_in (splice 578 (3 ∷ []) settled)) ∷
    -- two of the head's zero bytes, its last among them; the first and last of a height's six
    not (sound stand_in (splice 46 (1 ∷ []) settled)) ∷
    not (sound stand_in (splice 63 (1 ∷ []) settled)) ∷
    not (sound stand_in (splice 586 (1 ∷ []) settled)) ∷
    not (sound stand_in (splice 591 (1 ∷ []) settled)) ∷
    -- a finalized height that is not finalized: no block; no quorum of finalizes; above the last height
    not (sound stand_in (splice 5 (1 ∷ []) single)) ∷
    not (sound stand_in (splice 582 (3 ∷ []) settled)) ∷
    not (sound stand_in (splice 5 (2 ∷ []) settled)) ∷ []) ≡ true
unfolding books
damages = refl

-- edition 3 where H stands in byte 2, and edition 1 beside weights; a weight of 0 and of 1,001; a weight of a fifth
-- replica of four; in edition 1 the head's first zero byte
later_editions : all_of
    (not (sound stand_in (splice 7 (3 ∷ []) settled)) ∷
    not (sound stand_in (splice 7 (1 ∷ []) settled)) ∷
    not (sound stand_in (splice 8 (0 ∷ []) settled)) ∷
    not (sound stand_in (splice 14 (233 ∷ 3 ∷ []) settled)) ∷
    not (sound stand_in (splice 16 (1 ∷ []) settled)) ∷
    not (sound stand_in (splice 8 (1 ∷ []) (first_edition settled))) ∷ []) ≡ true
unfolding books
later_editions = refl

-- ---- what document 01 leaves free is sound
free : all_of
    (sound stand_in single ∷
    sound stand_in triple ∷
    sound stand_in settled ∷
    sound stand_in full ∷
    -- edition 1; a weight of 1,000
    sound stand_in (first_edition settled) ∷
    sound stand_in (splice 8 (232 ∷ 3 ∷ []) settled) ∷
    -- the height after the last; all flags; 32 pending; pending places past the count
    sound stand_in (splice 4 (2 ∷ []) settled) ∷
    sound stand_in (splice 3 (15 ∷ []) settled) ∷
    sound stand_in (splice 6 (32 ∷ []) settled) ∷
    sound stand_in (splice 64 (replicate 512 7) single) ∷
    -- a certificate mask without a block; bodies that no state bit covers
    sound stand_in (splice 578 (15 ∷ []) single) ∷
    sound stand_in (splice 592 (replicate 864 7) single) ∷ []) ≡ true
unfolding books
free = refl
