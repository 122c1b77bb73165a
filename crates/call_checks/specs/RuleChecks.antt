-- The definitions on single rules: what is offered, what links, which certificate a pass names, how masks grow.
use Rattle.std.specs.Prelude.{◌≡◌, refl, List, [], ◌∷◌, ◌++◌}
use Rattle.protocol.specs.Bytes.{Bytes, zeros, part, join}
use Rattle.protocol.specs.Block.{new_block}
use Rattle.protocol.specs.Frame.{proposal, block_vote, dummy_vote, finalize, block_certificate, dummy_certificate}
use Rattle.protocol.specs.Frame.{finalize_certificate}
use Rattle.protocol.specs.Call.{opening, delivery, moving, submitting}
use Rattle.check_books.specs.CheckCalls.{stand_in, perform, after, answers, splice, one_each, tools}
use Rattle.check_books.specs.CheckStates.{entry}

first : Bytes
first = new_block 1 0 (zeros 32) (entry 1 ∷ [])

eight : List Bytes
eight = entry 4 ∷ entry 5 ∷ entry 6 ∷ entry 7 ∷ entry 8 ∷ entry 9 ∷ entry 10 ∷ entry 11 ∷ []

-- move 4: of nine pending entries the first eight
offers_eight : (perform
    (splice 64 (join eight ++ entry 12)
    (splice 6 (9 ∷ []) (after (zeros 1456) (opening (one_each 4) 4 0 1 (0 ∷ []) ∷ []))))
    (moving (zeros 448))).buffer ≡ proposal 0 1 (new_block 1 0 (zeros 32) eight) ++ zeros 224
unfolding tools entry eight
offers_eight = refl

-- move 4: the parent is the largest linked height, and entries of its chain are not offered again
offers_new : (perform
    (after (zeros 2336)
    (opening (one_each 4) 4 0 2 (1 ∷ 0 ∷ []) ∷ submitting (entry 1) ∷ submitting (entry 2) ∷
    delivery (block_certificate 1 7 first) ∷ moving (zeros 448) ∷ []))
    (moving (zeros 448))).buffer ≡ proposal 0 2 (new_block 2 1 (stand_in first) (entry 2 ∷ [])) ++ zeros 224
unfolding tools entry first
offers_new = refl

-- linking: a block at 2 on height 1, where no block is, does not link, whatever digest it names; so it is not finalized
unlinked_parent : answers (zeros 2336)
    (opening (one_each 4) 4 0 2 (1 ∷ 1 ∷ []) ∷ delivery (block_certificate 2 7 (new_block 2 1 (stand_in (zeros 176)) [])) ∷
    delivery (finalize_certificate 2 7) ∷ moving (zeros 448) ∷ []) ≡
    (0 ∷ []) ∷ (0 ∷ 1 ∷ []) ∷ (0 ∷ 1 ∷ []) ∷ (0 ∷ 0 ∷ 0 ∷ []) ∷ []
unfolding tools
unlinked_parent = refl

-- linking: a block that names another parent digest does not link
wrong_parent : answers (zeros 2336)
    (opening (one_each 4) 4 0 2 (1 ∷ 1 ∷ []) ∷ delivery (block_certificate 1 7 first) ∷
    delivery (block_certificate 2 7 (new_block 2 1 (zeros 32) [])) ∷ delivery (finalize_certificate 2 7) ∷
    moving (zeros 448) ∷ moving (zeros 448) ∷ []) ≡
    (0 ∷ []) ∷ (0 ∷ 1 ∷ []) ∷ (0 ∷ 1 ∷ []) ∷ (0 ∷ 1 ∷ []) ∷ (0 ∷ 3 ∷ 1 ∷ 5 ∷ 4 ∷ []) ∷ (0 ∷ 0 ∷ 0 ∷ []) ∷ []
unfolding tools entry first
wrong_parent = refl

-- move 3: where height 1 is both linked and dummy, the first frame is the block's certificate
block_preferred : (perform
    (after (zeros 1456) (opening (one_each 4) 4 0 1 (1 ∷ []) ∷ delivery (dummy_certificate 1 7) ∷ delivery
    (block_certificate 1 11 first) ∷ []))
    (moving (zeros 448))).buffer ≡ block_certificate 1 11 first ++ finalize 0 1
unfolding tools entry first
block_preferred = refl

-- votes: the certificate mask of a block that votes notarize is of those who voted for it, here 0, 1 and 3 and not 2
voters_only : part
    (after (zeros 1456)
    (opening (one_each 4) 4 0 1 (1 ∷ []) ∷ delivery (block_vote 0 1 (stand_in first)) ∷
    delivery (block_vote 2 1 (zeros 32)) ∷
    delivery (block_vote 3 1 (stand_in first)) ∷ delivery (proposal 1 1 first) ∷ delivery
    (block_vote 1 1 (stand_in first)) ∷ []))
    576 10 ≡ 1 ∷ 3 ∷ 11 ∷ 0 ∷ 0 ∷ 0 ∷ 0 ∷ 0 ∷ 15 ∷ 0 ∷ []
unfolding tools entry first
voters_only = refl

-- votes: a replica's dummy vote and block vote are both kept, in either order
both_votes : answers (zeros 1456)
    (opening (one_each 4) 4 0 1 (1 ∷ []) ∷ delivery (dummy_vote 2 1) ∷ delivery (block_vote 2 1 (stand_in first)) ∷
    delivery (block_vote 3 1 (stand_in first)) ∷ delivery (dummy_vote 3 1) ∷ []) ≡
    (0 ∷ []) ∷ (0 ∷ 1 ∷ []) ∷ (0 ∷ 1 ∷ []) ∷ (0 ∷ 1 ∷ []) ∷ (0 ∷ 1 ∷ []) ∷ []
unfolding tools entry first
both_votes = refl

-- certificates: dummy and finalize masks are or-ed in
masks_grow : part
    (after (zeros 1456)
    (opening (one_each 4) 4 0 1 (1 ∷ []) ∷ delivery (dummy_certificate 1 7) ∷ delivery (dummy_certificate 1 14) ∷
    delivery (finalize_certificate 1 11) ∷ delivery (finalize_certificate 1 13) ∷ []))
    580 4 ≡ 15 ∷ 0 ∷ 15 ∷ 0 ∷ []
unfolding tools
masks_grow = refl
