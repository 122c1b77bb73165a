-- What Deliver keeps over small states: what each kind of frame changes, where it is put, and when votes notarize.
use Rattle.std.specs.Prelude.{ℕ, zero, suc, ◌≡◌, refl, List, [], ◌∷◌, ◌++◌, map, replicate}
use Rattle.std.proofs.Math.Option.{Option, some, none}
use Rattle.protocol.specs.Bytes.{Bytes, zeros}
use Rattle.protocol.specs.Block.{new_block}
use Rattle.protocol.specs.Frame.{proposal, block_vote, dummy_vote, finalize, block_certificate, dummy_certificate}
use Rattle.protocol.specs.Frame.{finalize_certificate}
use Rattle.protocol.specs.State.{Height}
use Rattle.protocol.specs.Deliver.{keep}
use Rattle.check_books.specs.CheckCalls.{stand_in, splice}
use Rattle.check_books.specs.CheckStates.{entry, counting, height, state, of_four, of_sixteen, state_tools}

first : Bytes
first = new_block 1 0 (zeros 32) (entry 1 ∷ [])

other : Bytes
other = new_block 1 0 (zeros 32) (entry 2 ∷ [])

-- ---- what is kept
-- a height's numbers: leader, state, masks of the certificate, dummies, finalizes and voters; none where the frame is
-- known
numbers_of : Option Height → List ℕ
numbers_of none = []
numbers_of (some x) =
    x.leader ∷ x.status ∷ x.certificate_mask ∷ x.dummy_mask ∷ x.finalize_mask ∷ x.voter_mask ∷ []

-- its bodies
bodies_of : Option Height → List Bytes
bodies_of none = []
bodies_of (some x) = x.proposal ∷ x.notarized ∷ x.vote_digests ∷ []

kept : Height → List Bytes → List (List ℕ)
kept x frames = map (λ frame. numbers_of (keep stand_in (of_four x) frame)) frames

bodies : Height → Bytes → List Bytes
bodies x frame = bodies_of (keep stand_in (of_four x) frame)

unfoldable keeping : Unit {0}
unfolding state_tools first other numbers_of bodies_of kept bodies
keeping = tt

-- single votes set a bit; a set one is known; the first and the last replica
masks : kept (height 2 1 3 6 9 5 [] [] [])
    (dummy_vote 0 1 ∷ dummy_vote 1 1 ∷ dummy_vote 2 1 ∷ dummy_vote 3 1 ∷ finalize 0 1 ∷ finalize 1 1 ∷ finalize 2 1 ∷
    finalize 3 1 ∷
    dummy_certificate 1 14 ∷ dummy_certificate 1 7 ∷ dummy_certificate 1 15 ∷ finalize_certificate 1 11 ∷
    finalize_certificate 1 13 ∷
    finalize_certificate 1 7 ∷ finalize_certificate 1 14 ∷ []) ≡
    (2 ∷ 1 ∷ 3 ∷ 7 ∷ 9 ∷ 5 ∷ []) ∷ [] ∷ [] ∷ (2 ∷ 1 ∷ 3 ∷ 14 ∷ 9 ∷ 5 ∷ []) ∷
    [] ∷ (2 ∷ 1 ∷ 3 ∷ 6 ∷ 11 ∷ 5 ∷ []) ∷ (2 ∷ 1 ∷ 3 ∷ 6 ∷ 13 ∷ 5 ∷ []) ∷ [] ∷
    (2 ∷ 1 ∷ 3 ∷ 14 ∷ 9 ∷ 5 ∷ []) ∷ (2 ∷ 1 ∷ 3 ∷ 7 ∷ 9 ∷ 5 ∷ []) ∷ (2 ∷ 1 ∷ 3 ∷ 15 ∷ 9 ∷ 5 ∷ []) ∷
    (2 ∷ 1 ∷ 3 ∷ 6 ∷ 11 ∷ 5 ∷ []) ∷ (2 ∷ 1 ∷ 3 ∷ 6 ∷ 13 ∷ 5 ∷ []) ∷
    (2 ∷ 1 ∷ 3 ∷ 6 ∷ 15 ∷ 5 ∷ []) ∷ (2 ∷ 1 ∷ 3 ∷ 6 ∷ 15 ∷ 5 ∷ []) ∷ []
unfolding keeping
masks = refl

-- certificates whose signers are all in the masks already are known
known_masks : kept (height 0 0 0 15 7 0 [] [] [])
    (dummy_certificate 1 7 ∷ dummy_certificate 1 14 ∷ finalize_certificate 1 7 ∷ finalize_certificate 1 11 ∷ []) ≡
    [] ∷ [] ∷ [] ∷ (0 ∷ 0 ∷ 0 ∷ 15 ∷ 15 ∷ 0 ∷ []) ∷ []
unfolding keeping
known_masks = refl

-- a proposal and a certified block where there is none, the other or both; masks of the other kinds stay
blocks : map (λ status. kept (height 2 status 13 1 2 4 first other (zeros 512)) (proposal 0 1 first ∷
    block_certificate 1 7 other ∷ []))
    (counting 0 4) ≡
    ((2 ∷ 1 ∷ 13 ∷ 1 ∷ 2 ∷ 4 ∷ []) ∷ (2 ∷ 2 ∷ 7 ∷ 1 ∷ 2 ∷ 4 ∷ []) ∷ []) ∷
    ([] ∷ (2 ∷ 3 ∷ 7 ∷ 1 ∷ 2 ∷ 4 ∷ []) ∷ []) ∷
    ((2 ∷ 3 ∷ 13 ∷ 1 ∷ 2 ∷ 4 ∷ []) ∷ [] ∷ []) ∷
    ([] ∷ [] ∷ []) ∷ []
unfolding keeping
blocks = refl

-- where they are put
block_places : bodies (height 0 0 0 0 0 0 (zeros 176) (zeros 176) (replicate 512 5)) (proposal 0 1 first) ++
    (bodies (height 0 0 0 0 0 0 (zeros 176) (zeros 176) (replicate 512 5)) (block_certificate 1 7 first) ++
    bodies (height 0 0 0 0 0 0 first other (replicate 512 5)) (dummy_vote 1 1)) ≡
    first ∷ zeros 176 ∷ replicate 512 5 ∷ zeros 176 ∷ first ∷ replicate 512 5 ∷ first ∷ other ∷ replicate 512 5 ∷ []
unfolding keeping
block_places = refl

-- a vote's digest at its signer's place, the first, a middle one and the last of sixteen; the others stay
vote_places : map
    (λ s. bodies_of (keep stand_in (of_sixteen (height 0 0 0 0 0 16 [] [] (replicate 512 5)))
    (block_vote s 1 (counting 1 32))))
    (0 ∷ 3 ∷ 4 ∷ 15 ∷ []) ≡
    ([] ∷ [] ∷ (counting 1 32 ++ replicate 480 5) ∷ []) ∷
    ([] ∷ [] ∷ (replicate 96 5 ++ (counting 1 32 ++ replicate 384 5)) ∷ []) ∷
    [] ∷
    ([] ∷ [] ∷ (replicate 480 5 ++ counting 1 32) ∷ []) ∷ []
unfolding keeping
vote_places = refl

voter_masks : map (λ s. numbers_of (keep stand_in (state 16 0 0 1 0 0 [] (height 2 1 3 5 6 16 [] [] (zeros 512) ∷
    [])) (block_vote s 1 (zeros 32))))
    (0 ∷ 3 ∷ 4 ∷ 15 ∷ []) ≡
    (2 ∷ 1 ∷ 3 ∷ 5 ∷ 6 ∷ 17 ∷ []) ∷ (2 ∷ 1 ∷ 3 ∷ 5 ∷ 6 ∷ 24 ∷ []) ∷ [] ∷ (2 ∷ 1 ∷ 3 ∷ 5 ∷ 6 ∷ 32784 ∷ []) ∷ []
unfolding keeping
voter_masks = refl

-- ---- when votes notarize
-- replicas 0 and 1 voted for `first`, 2 for `other`; replica 3's place has the digest of `first`, and no vote
ballots : Bytes
ballots = stand_in first ++ (stand_in first ++ (stand_in other ++ (stand_in first ++ zeros 384)))

-- the same bytes so many times
repeated : ℕ → Bytes → Bytes
repeated zero bytes = []
repeated (suc count) bytes = bytes ++ repeated count bytes

-- the last ten of sixteen replicas voted for the held proposal
ballots_of_sixteen : Height
ballots_of_sixteen = height 0 1 0 0 0 65472 first [] (repeated 16 (stand_in first))

unfoldable tallying : Unit {0}
unfolding keeping ballots repeated ballots_of_sixteen
tallying = tt

tallies : kept (height 0 0 0 0 0 7 [] [] ballots) (proposal 0 1 first ∷ block_vote 3 1 (stand_in first) ∷ []) ++
    (kept (height 0 0 0 0 0 15 [] [] ballots) (proposal 0 1 first ∷ proposal 0 1 other ∷ []) ++
    -- a held proposal: the vote of 3 completes its quorum, another vote of 3 does not
    (kept (height 0 1 0 0 0 7 first [] ballots) (block_vote 3 1 (stand_in first) ∷ block_vote 3 1 (stand_in other) ∷
    proposal 0 1 first ∷ []) ++
    -- bytes that are not held; a block that is notarized already, with its certificate's mask
    (kept (height 0 0 0 0 0 7 first [] ballots) (block_vote 3 1 (stand_in first) ∷ []) ++
    (kept (height 0 3 14 0 0 7 first other ballots) (block_vote 3 1 (stand_in first) ∷ []) ++
    kept (height 0 2 14 0 0 15 [] other ballots) (proposal 0 1 first ∷ []))))) ≡
    (0 ∷ 1 ∷ 0 ∷ 0 ∷ 0 ∷ 7 ∷ []) ∷ (0 ∷ 0 ∷ 0 ∷ 0 ∷ 0 ∷ 15 ∷ []) ∷
    (0 ∷ 3 ∷ 11 ∷ 0 ∷ 0 ∷ 15 ∷ []) ∷ (0 ∷ 1 ∷ 0 ∷ 0 ∷ 0 ∷ 15 ∷ []) ∷
    (0 ∷ 3 ∷ 11 ∷ 0 ∷ 0 ∷ 15 ∷ []) ∷ (0 ∷ 1 ∷ 0 ∷ 0 ∷ 0 ∷ 15 ∷ []) ∷ [] ∷
    (0 ∷ 0 ∷ 0 ∷ 0 ∷ 0 ∷ 15 ∷ []) ∷
    (0 ∷ 3 ∷ 14 ∷ 0 ∷ 0 ∷ 15 ∷ []) ∷
    (0 ∷ 3 ∷ 14 ∷ 0 ∷ 0 ∷ 15 ∷ []) ∷ []
unfolding tallying
tallies = refl

-- a digest that differs in its first or its last byte is another: with such votes of 1 and 2 there is no quorum
near_ballots : Bytes
near_ballots =
    stand_in first ++
    (splice 0 (0 ∷ []) (stand_in first) ++ (splice 31 (0 ∷ []) (stand_in first) ++ (stand_in first ++ zeros 384)))

near_tallies : kept (height 0 1 0 0 0 3 first [] near_ballots) (block_vote 3 1 (stand_in first) ∷ []) ++
    (kept (height 0 1 0 0 0 5 first [] near_ballots) (block_vote 3 1 (stand_in first) ∷ []) ++
    kept (height 0 1 0 0 0 1 first [] near_ballots) (block_vote 3 1 (stand_in first) ∷ [])) ≡
    (0 ∷ 1 ∷ 0 ∷ 0 ∷ 0 ∷ 11 ∷ []) ∷ (0 ∷ 1 ∷ 0 ∷ 0 ∷ 0 ∷ 13 ∷ []) ∷ (0 ∷ 1 ∷ 0 ∷ 0 ∷ 0 ∷ 9 ∷ []) ∷ []
unfolding tallying near_ballots
near_tallies = refl

-- the notarized block is the held one
tallied : bodies (height 0 1 0 0 0 7 first (zeros 176) ballots) (block_vote 3 1 (stand_in first)) ≡ first ∷ first ∷
    ballots ∷ []
unfolding tallying
tallied = refl

-- other frames do not notarize, even where the votes are a quorum; the eleventh vote of sixteen does
other_frames : kept (height 0 1 0 0 0 11 first [] ballots) (dummy_vote 0 1 ∷ finalize 0 1 ∷ dummy_certificate 1 7 ∷
    finalize_certificate 1 7 ∷ []) ++
    map (λ s. numbers_of (keep stand_in (of_sixteen ballots_of_sixteen) (block_vote s 1 (stand_in first))))
    (0 ∷ 5 ∷ []) ≡
    (0 ∷ 1 ∷ 0 ∷ 1 ∷ 0 ∷ 11 ∷ []) ∷ (0 ∷ 1 ∷ 0 ∷ 0 ∷ 1 ∷ 11 ∷ []) ∷ (0 ∷ 1 ∷ 0 ∷ 7 ∷ 0 ∷ 11 ∷ []) ∷ (0 ∷ 1 ∷ 0 ∷
    0 ∷ 7 ∷ 11 ∷ []) ∷
    (0 ∷ 3 ∷ 65473 ∷ 0 ∷ 0 ∷ 65473 ∷ []) ∷ (0 ∷ 3 ∷ 65504 ∷ 0 ∷ 0 ∷ 65504 ∷ []) ∷ []
unfolding tallying
other_frames = refl
