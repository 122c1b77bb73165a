-- Why books must share weights, and not n alone (document 02, 2.6): four honest replicas, of which one has weights 9,
-- 1, 1, 1 in its book and the others books of edition 1, where all weigh 1, read logs that fork.
use Rattle.std.specs.Prelude.{ℕ, ◌≡◌, refl, List, [], ◌∷◌, ◌++◌, map}
use Rattle.protocol.specs.Bytes.{Bytes, zeros}
use Rattle.protocol.specs.Block.{new_block}
use Rattle.protocol.specs.Frame.{proposal, block_vote, dummy_vote, finalize, block_certificate, dummy_certificate}
use Rattle.protocol.specs.Open.{Opening, unweighed}
use Rattle.protocol.specs.Read.{read_part}
use Rattle.protocol.specs.Call.{Call, Effect, opening, delivery, moving, signalling, submitting, effect}
use Rattle.check_books.specs.CheckCalls.{stand_in, weighing}
use Rattle.check_books.specs.CheckStates.{entry, state_tools}

-- ---- the calls, on two heights that 0 and 1 lead
-- the block of 0 at height 1, and that of 1 at height 2 on no parent
mine : Bytes
mine = new_block 1 0 (zeros 32) (entry 1 ∷ [])

theirs : Bytes
theirs = new_block 2 0 (zeros 32) (entry 2 ∷ [])

-- replica 0 hears itself alone, by a way of opening
alone : Opening → List Call
alone way =
    opening way 4 0 2 (0 ∷ 1 ∷ []) ∷ submitting (entry 1) ∷ moving (zeros 448) ∷
    delivery (proposal 0 1 mine) ∷ moving (zeros 448) ∷ delivery (block_vote 0 1 (stand_in mine)) ∷ moving (zeros 448) ∷
    delivery (finalize 0 1) ∷ moving (zeros 448) ∷ []

-- a statement of 1, of 2 and of 3
of_three : (ℕ → Bytes) → List Call
of_three statement = delivery (statement 1) ∷ delivery (statement 2) ∷ delivery (statement 3) ∷ []

-- replicas 1, 2 and 3 hear each other: their timers fire at height 1, and 1 proposes at height 2
together : Opening → ℕ → List Call
together way own =
    (opening way 4 own 2 (0 ∷ 1 ∷ []) ∷ submitting (entry 2) ∷ signalling 1 ∷ moving (zeros 448) ∷ []) ++
    (of_three (λ s. dummy_vote s 1) ++
    ((moving (zeros 448) ∷ moving (zeros 448) ∷ delivery (proposal 1 2 theirs) ∷ moving (zeros 448) ∷ []) ++
    (of_three (λ s. block_vote s 2 (stand_in theirs)) ++
    ((moving (zeros 448) ∷ []) ++
    (of_three (λ s. finalize s 2) ++
    (moving (zeros 448) ∷ []))))))

-- the frames that calls write, in order, and then the log that is read
told : Bytes → List Call → List Bytes
told book [] = read_part stand_in book (zeros 99) ∷ []
told book (call ∷ calls) =
    let e : Effect = effect stand_in book call in
    e.writes ++ told e.book calls

unfoldable lists : Unit {0}
unfolding state_tools mine theirs alone of_three together told
lists = tt

-- ---- the fork
-- 0 settles its block by its own vote, 9 of 12; the others pass height 1 as a dummy and settle another block. All four
-- are honest: what was delivered in a replica's name is what its own calls wrote; 3 does as 2 does.
fork_without_shared_weights : told (zeros 2336) (alone (weighing (9 ∷ 1 ∷ 1 ∷ 1 ∷ []))) ∷
    map (λ own. told (zeros 2336) (together unweighed own)) (1 ∷ 2 ∷ []) ≡
    (proposal 0 1 mine ∷ block_vote 0 1 (stand_in mine) ∷ block_certificate 1 1 mine ∷ finalize 0 1 ∷ entry 1 ∷ []) ∷
    (dummy_vote 1 1 ∷ dummy_certificate 1 14 ∷ proposal 1 2 theirs ∷ block_vote 1 2 (stand_in theirs) ∷
    block_certificate 2 14 theirs ∷ finalize 1 2 ∷ entry 2 ∷ []) ∷
    (dummy_vote 2 1 ∷ dummy_certificate 1 14 ∷ block_vote 2 2 (stand_in theirs) ∷
    block_certificate 2 14 theirs ∷ finalize 2 2 ∷ entry 2 ∷ []) ∷ []
unfolding lists
fork_without_shared_weights = refl

-- where its book has the others' weights, 0 reads nothing
shared_weights : told (zeros 2336) (alone unweighed) ≡
    proposal 0 1 mine ∷ block_vote 0 1 (stand_in mine) ∷ [] ∷ []
unfolding lists
shared_weights = refl
