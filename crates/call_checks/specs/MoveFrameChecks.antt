-- What the five moves write over small states, byte by byte: votes, certificates, finalizes, and what a proposal
-- carries.
use Rattle.std.specs.Prelude.{ℕ, ◌≡◌, refl, List, [], ◌∷◌, ◌++◌, map}
use Rattle.protocol.specs.Bytes.{Bytes, zeros}
use Rattle.protocol.specs.Block.{new_block}
use Rattle.protocol.specs.Frame.{proposal, block_vote, dummy_vote, finalize, block_certificate, dummy_certificate}
use Rattle.protocol.specs.State.{State, Height}
use Rattle.protocol.specs.Move.{step, written}
use Rattle.check_books.specs.CheckCalls.{stand_in}
use Rattle.check_books.specs.CheckStates.{entry, counting, entries_from, height, vacant, dummied, notarized_by7}
use Rattle.check_books.specs.CheckStates.{finalized_by, holding, state, state_tools}

-- replica 2 of four with these heights, at a height, its log ending at another, five pending entries
at : (flags current finalized : ℕ) → List Height → State
at flags current finalized heights = state 4 2 flags current finalized 5 (entries_from 20 5) heights

-- three heights that others lead
quiet : List Height
quiet = vacant 0 ∷ vacant 1 ∷ vacant 3 ∷ []

first : Bytes
first = new_block 1 0 (zeros 32) (entry 1 ∷ [])

second : Bytes
second = new_block 2 1 (stand_in first) (entry 2 ∷ [])

third : Bytes
third = new_block 3 2 (stand_in second) []

-- ---- what each writes
writes : List State → List Bytes
writes states = map (λ s. written (step stand_in s)) states

unfoldable moves : Unit {0}
unfolding state_tools at quiet first second third writes
moves = tt

frames : writes
    (at 1 2 0 quiet ∷
    at 0 4 0 (finalized_by 7 first ∷ finalized_by 3 second ∷ finalized_by 14 third ∷ []) ∷
    -- a pass on a block, whose mask is not that of the dummies, finalizes or voters; on dummies; each with and
    -- without a finalize
    at 0 1 1 (height 1 3 11 1 2 4 second first [] ∷ []) ∷
    at 3 1 1 (height 1 3 11 1 2 4 second first [] ∷ []) ∷
    at 0 1 0 (height 1 1 2 13 1 4 second first [] ∷ []) ∷
    at 3 1 0 (height 1 1 2 13 1 4 second first [] ∷ []) ∷
    at 0 2 0 (notarized_by7 first ∷ height 1 3 11 1 2 4 first second [] ∷ []) ∷
    at 0 2 0 (notarized_by7 first ∷ height 1 1 2 13 1 4 first third [] ∷ []) ∷
    at 0 2 0 (notarized_by7 first ∷ holding second ∷ []) ∷
    -- a vote for the held proposal and not for the notarized block, which is not linked
    at 0 1 0 (height 1 3 7 0 0 0 first second [] ∷ []) ∷
    at 0 1 0 quiet ∷ []) ≡
    dummy_vote 2 2 ∷
    [] ∷
    (block_certificate 1 11 first ++ finalize 2 1) ∷
    (block_certificate 1 11 first ++ zeros 224) ∷
    (dummy_certificate 1 13 ++ finalize 2 1) ∷
    (dummy_certificate 1 13 ++ zeros 224) ∷
    (block_certificate 2 11 second ++ finalize 2 2) ∷
    (dummy_certificate 2 13 ++ finalize 2 2) ∷
    block_vote 2 2 (stand_in second) ∷
    block_vote 2 1 (stand_in first) ∷
    [] ∷ []
unfolding moves
frames = refl

-- ---- what a proposal carries
-- replica 2 leads the last of these heights and is there, with so many pending entries of these bytes
offering : Bytes → ℕ → ℕ → List Height → State
offering pool current count heights = state 4 2 0 current 0 count pool heights

-- the pending entries: 4, 5 and so on; those before them 1 and 2
apart : Bytes
apart = entries_from 4 32

chained : Bytes
chained = entry 1 ++ (entry 2 ++ entries_from 4 30)

offers : writes
    -- none; one; eight; nine; 32 pending, with nothing in the chain
    (offering apart 1 0 (vacant 2 ∷ []) ∷
    offering apart 1 1 (vacant 2 ∷ []) ∷
    offering apart 1 8 (vacant 2 ∷ []) ∷
    offering apart 1 9 (vacant 2 ∷ []) ∷
    offering apart 1 32 (vacant 2 ∷ []) ∷
    -- entries 1 and 2 in the chain: first those are left out, then eight are taken
    offering chained 3 9 (notarized_by7 first ∷ notarized_by7 second ∷ vacant 2 ∷ []) ∷
    offering chained 3 10 (notarized_by7 first ∷ notarized_by7 second ∷ vacant 2 ∷ []) ∷
    offering chained 3 11 (notarized_by7 first ∷ notarized_by7 second ∷ vacant 2 ∷ []) ∷
    -- the parent is the largest linked height; on the dummies above height 1, entry 1 alone is in the chain
    offering chained 3 2 (notarized_by7 first ∷ dummied 7 ∷ vacant 2 ∷ []) ∷
    -- a block that is not linked is no part of the chain
    offering chained 3 2 (dummied 7 ∷ height 0 2 7 7 0 0 [] second [] ∷ vacant 2 ∷ []) ∷ []) ≡
    proposal 2 1 (new_block 1 0 (zeros 32) []) ∷
    proposal 2 1 (new_block 1 0 (zeros 32) (entry 4 ∷ [])) ∷
    proposal 2 1 (new_block 1 0 (zeros 32) (map entry (counting 4 8))) ∷
    proposal 2 1 (new_block 1 0 (zeros 32) (map entry (counting 4 8))) ∷
    proposal 2 1 (new_block 1 0 (zeros 32) (map entry (counting 4 8))) ∷
    proposal 2 3 (new_block 3 2 (stand_in second) (map entry (counting 4 7))) ∷
    proposal 2 3 (new_block 3 2 (stand_in second) (map entry (counting 4 8))) ∷
    proposal 2 3 (new_block 3 2 (stand_in second) (map entry (counting 4 8))) ∷
    proposal 2 3 (new_block 3 1 (stand_in first) (entry 2 ∷ [])) ∷
    proposal 2 3 (new_block 3 0 (zeros 32) (entry 1 ∷ entry 2 ∷ [])) ∷ []
unfolding moves offering apart chained
offers = refl

-- pending entries that are alike are all offered; those in the chain are left out wherever they stand
repeats : writes
    (state 4 2 0 1 0 3 (entry 9 ++ (entry 9 ++ entry 9)) (vacant 2 ∷ []) ∷
    state 4 2 0 2 0 4 (entry 8 ++ (entry 1 ++ (entry 9 ++ entry 1))) (notarized_by7 first ∷ vacant 2 ∷ []) ∷ []) ≡
    proposal 2 1 (new_block 1 0 (zeros 32) (entry 9 ∷ entry 9 ∷ entry 9 ∷ [])) ∷
    proposal 2 2 (new_block 2 1 (stand_in first) (entry 8 ∷ entry 9 ∷ [])) ∷ []
unfolding moves
repeats = refl
