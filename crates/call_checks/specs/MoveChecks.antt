-- The five moves over small states: each condition of each move where it alone decides, their order, and what each
-- leaves.
use Rattle.std.specs.Prelude.{ℕ, ◌≡◌, refl, List, [], ◌∷◌, ◌++◌, map}
use Rattle.protocol.specs.Bytes.{Bytes, zeros}
use Rattle.protocol.specs.Block.{new_block}
use Rattle.protocol.specs.State.{State, Height, encode, decode}
use Rattle.protocol.specs.Move.{Step, step, after_moves}
use Rattle.check_books.specs.CheckCalls.{stand_in, move_numbers, one_bytes}
use Rattle.check_books.specs.CheckStates.{entry, counting, entries_from, height, vacant, dummied, notarized_by7}
use Rattle.check_books.specs.CheckStates.{finalized_by, holding, state, state_tools}

-- ---- states and what a move says of them
-- the move's numbers (document 01's number, the height, and of a pass its certificate and 4 or 0), then the flags, c
-- and g after it
told : State → List ℕ
told s =
    let st : Step = step stand_in s in
    move_numbers st.move ++ (st.after.flags ∷ st.after.current ∷ st.after.finalized ∷ [])

-- the same for a state with each value of its flags
over_flags : (ℕ → State) → List (List ℕ)
over_flags make = map (λ flags. told (make flags)) (counting 0 16)

-- replica 2 of four with these heights, at a height, its log ending at another, five pending entries
at : (flags current finalized : ℕ) → List Height → State
at flags current finalized heights = state 4 2 flags current finalized 5 (entries_from 20 5) heights

-- three heights that others lead
quiet : List Height
quiet = vacant 0 ∷ vacant 1 ∷ vacant 3 ∷ []

first : Bytes
first = new_block 1 0 (zeros 32) (entry 1 ∷ [])

second : Bytes
second = new_block 2 1 (stand_in first) (entry 2 ∷ [])

third : Bytes
third = new_block 3 2 (stand_in second) []

unfoldable moves : Unit {0}
unfolding state_tools told over_flags at quiet first second third
moves = tt

-- ---- move 1: c ≤ H, the timer fired (flag 1), no dummy vote cast (flag 2)
dummy_votes : over_flags (λ flags. at flags 1 0 quiet) ≡
    (0 ∷ 0 ∷ 0 ∷ 1 ∷ 0 ∷ []) ∷
    (1 ∷ 1 ∷ 3 ∷ 1 ∷ 0 ∷ []) ∷
    (0 ∷ 0 ∷ 2 ∷ 1 ∷ 0 ∷ []) ∷
    (0 ∷ 0 ∷ 3 ∷ 1 ∷ 0 ∷ []) ∷
    (0 ∷ 0 ∷ 4 ∷ 1 ∷ 0 ∷ []) ∷
    (1 ∷ 1 ∷ 7 ∷ 1 ∷ 0 ∷ []) ∷
    (0 ∷ 0 ∷ 6 ∷ 1 ∷ 0 ∷ []) ∷
    (0 ∷ 0 ∷ 7 ∷ 1 ∷ 0 ∷ []) ∷
    (0 ∷ 0 ∷ 8 ∷ 1 ∷ 0 ∷ []) ∷
    (1 ∷ 1 ∷ 11 ∷ 1 ∷ 0 ∷ []) ∷
    (0 ∷ 0 ∷ 10 ∷ 1 ∷ 0 ∷ []) ∷
    (0 ∷ 0 ∷ 11 ∷ 1 ∷ 0 ∷ []) ∷
    (0 ∷ 0 ∷ 12 ∷ 1 ∷ 0 ∷ []) ∷
    (1 ∷ 1 ∷ 15 ∷ 1 ∷ 0 ∷ []) ∷
    (0 ∷ 0 ∷ 14 ∷ 1 ∷ 0 ∷ []) ∷
    (0 ∷ 0 ∷ 15 ∷ 1 ∷ 0 ∷ []) ∷ []
unfolding moves
dummy_votes = refl

-- at the last height, and after it
dummy_vote_heights : told (at 1 2 0 quiet) ∷ told (at 1 3 0 quiet) ∷ told (at 1 4 0 quiet) ∷ [] ≡
    (1 ∷ 2 ∷ 3 ∷ 2 ∷ 0 ∷ []) ∷ (1 ∷ 3 ∷ 3 ∷ 3 ∷ 0 ∷ []) ∷ (0 ∷ 0 ∷ 1 ∷ 4 ∷ 0 ∷ []) ∷ []
unfolding moves
dummy_vote_heights = refl

-- ---- move 2: the largest finalized height exceeds g; at any c, above it and after the last
ended : List Height
ended = finalized_by 7 first ∷ finalized_by 3 second ∷ finalized_by 14 third ∷ []

outputs : map told
    (at 0 4 0 ended ∷ at 15 4 1 ended ∷ at 3 4 2 ended ∷ at 0 4 3 ended ∷
    at 6 1 0 ended ∷ at 6 1 3 ended ∷
    at 0 4 0 (finalized_by 7 first ∷ vacant 0 ∷ vacant 0 ∷ []) ∷
    at 0 4 1 (finalized_by 7 first ∷ vacant 0 ∷ vacant 0 ∷ []) ∷
    -- finalizes without a block
    at 0 4 0 (height 0 1 0 0 15 0 first [] [] ∷ []) ∷ []) ≡
    (2 ∷ 3 ∷ 0 ∷ 4 ∷ 3 ∷ []) ∷
    (2 ∷ 3 ∷ 15 ∷ 4 ∷ 3 ∷ []) ∷
    (2 ∷ 3 ∷ 3 ∷ 4 ∷ 3 ∷ []) ∷
    (0 ∷ 0 ∷ 0 ∷ 4 ∷ 3 ∷ []) ∷
    (2 ∷ 3 ∷ 6 ∷ 1 ∷ 3 ∷ []) ∷
    (3 ∷ 1 ∷ 5 ∷ 4 ∷ 0 ∷ 2 ∷ 3 ∷ []) ∷
    (2 ∷ 1 ∷ 0 ∷ 4 ∷ 1 ∷ []) ∷
    (0 ∷ 0 ∷ 0 ∷ 4 ∷ 1 ∷ []) ∷
    (0 ∷ 0 ∷ 0 ∷ 4 ∷ 0 ∷ []) ∷ []
unfolding moves ended
outputs = refl

-- ---- move 3: c ≤ H, and c is linked, or c is dummy and some chain of height c − 1 exists
-- with each value of the flags: flag 1 alone decides on the finalize, and no flag is left
passes : over_flags (λ flags. at flags 1 0 (notarized_by7 first ∷ [])) ≡
    (3 ∷ 1 ∷ 5 ∷ 4 ∷ 0 ∷ 2 ∷ 0 ∷ []) ∷
    (1 ∷ 1 ∷ 3 ∷ 1 ∷ 0 ∷ []) ∷
    (3 ∷ 1 ∷ 5 ∷ 4 ∷ 0 ∷ 2 ∷ 0 ∷ []) ∷
    (3 ∷ 1 ∷ 5 ∷ 0 ∷ 0 ∷ 2 ∷ 0 ∷ []) ∷
    (3 ∷ 1 ∷ 5 ∷ 4 ∷ 0 ∷ 2 ∷ 0 ∷ []) ∷
    (1 ∷ 1 ∷ 7 ∷ 1 ∷ 0 ∷ []) ∷
    (3 ∷ 1 ∷ 5 ∷ 4 ∷ 0 ∷ 2 ∷ 0 ∷ []) ∷
    (3 ∷ 1 ∷ 5 ∷ 0 ∷ 0 ∷ 2 ∷ 0 ∷ []) ∷
    (3 ∷ 1 ∷ 5 ∷ 4 ∷ 0 ∷ 2 ∷ 0 ∷ []) ∷
    (1 ∷ 1 ∷ 11 ∷ 1 ∷ 0 ∷ []) ∷
    (3 ∷ 1 ∷ 5 ∷ 4 ∷ 0 ∷ 2 ∷ 0 ∷ []) ∷
    (3 ∷ 1 ∷ 5 ∷ 0 ∷ 0 ∷ 2 ∷ 0 ∷ []) ∷
    (3 ∷ 1 ∷ 5 ∷ 4 ∷ 0 ∷ 2 ∷ 0 ∷ []) ∷
    (1 ∷ 1 ∷ 15 ∷ 1 ∷ 0 ∷ []) ∷
    (3 ∷ 1 ∷ 5 ∷ 4 ∷ 0 ∷ 2 ∷ 0 ∷ []) ∷
    (3 ∷ 1 ∷ 5 ∷ 0 ∷ 0 ∷ 2 ∷ 0 ∷ []) ∷ []
unfolding moves
passes = refl

pass_heights : map told
    -- on the block of the last height, and none after it; on a dummy after height 0, after a dummy, after a block
    (at 0 3 0 (notarized_by7 first ∷ notarized_by7 second ∷ notarized_by7 third ∷ []) ∷
    at 0 4 0 (notarized_by7 first ∷ notarized_by7 second ∷ notarized_by7 third ∷ []) ∷
    at 3 1 0 (dummied 7 ∷ []) ∷
    at 0 2 0 (dummied 7 ∷ dummied 11 ∷ []) ∷
    at 0 3 0 (notarized_by7 first ∷ dummied 7 ∷ dummied 13 ∷ []) ∷
    at 0 4 0 (notarized_by7 first ∷ dummied 7 ∷ dummied 13 ∷ []) ∷
    -- a dummy without a chain below it; two dummy votes of four; a block that is not linked, and a dummy beside it
    at 0 2 0 (vacant 0 ∷ dummied 7 ∷ []) ∷
    at 0 3 0 (notarized_by7 first ∷ vacant 0 ∷ dummied 7 ∷ []) ∷
    at 0 1 0 (dummied 3 ∷ []) ∷
    at 0 2 0 (dummied 7 ∷ notarized_by7 second ∷ []) ∷
    at 0 2 0 (dummied 7 ∷ height 0 2 7 7 0 0 [] second [] ∷ []) ∷
    -- a linked block beside dummies, with a chain below it or by its parent alone
    at 0 1 0 (height 0 2 7 7 0 0 [] first [] ∷ []) ∷ []) ≡
    (3 ∷ 3 ∷ 5 ∷ 4 ∷ 0 ∷ 4 ∷ 0 ∷ []) ∷
    (0 ∷ 0 ∷ 0 ∷ 4 ∷ 0 ∷ []) ∷
    (3 ∷ 1 ∷ 6 ∷ 0 ∷ 0 ∷ 2 ∷ 0 ∷ []) ∷
    (3 ∷ 2 ∷ 6 ∷ 4 ∷ 0 ∷ 3 ∷ 0 ∷ []) ∷
    (3 ∷ 3 ∷ 6 ∷ 4 ∷ 0 ∷ 4 ∷ 0 ∷ []) ∷
    (0 ∷ 0 ∷ 0 ∷ 4 ∷ 0 ∷ []) ∷
    (0 ∷ 0 ∷ 0 ∷ 2 ∷ 0 ∷ []) ∷
    (0 ∷ 0 ∷ 0 ∷ 3 ∷ 0 ∷ []) ∷
    (0 ∷ 0 ∷ 0 ∷ 1 ∷ 0 ∷ []) ∷
    (0 ∷ 0 ∷ 0 ∷ 2 ∷ 0 ∷ []) ∷
    (3 ∷ 2 ∷ 6 ∷ 4 ∷ 0 ∷ 3 ∷ 0 ∷ []) ∷
    (3 ∷ 1 ∷ 5 ∷ 4 ∷ 0 ∷ 2 ∷ 0 ∷ []) ∷ []
unfolding moves
pass_heights = refl

-- ---- move 4: c ≤ H, own number leads c, not proposed (flag 8), some chain of height c − 1 exists
proposals : over_flags (λ flags. at flags 1 0 (vacant 2 ∷ [])) ≡
    (4 ∷ 1 ∷ 8 ∷ 1 ∷ 0 ∷ []) ∷
    (1 ∷ 1 ∷ 3 ∷ 1 ∷ 0 ∷ []) ∷
    (4 ∷ 1 ∷ 10 ∷ 1 ∷ 0 ∷ []) ∷
    (4 ∷ 1 ∷ 11 ∷ 1 ∷ 0 ∷ []) ∷
    (4 ∷ 1 ∷ 12 ∷ 1 ∷ 0 ∷ []) ∷
    (1 ∷ 1 ∷ 7 ∷ 1 ∷ 0 ∷ []) ∷
    (4 ∷ 1 ∷ 14 ∷ 1 ∷ 0 ∷ []) ∷
    (4 ∷ 1 ∷ 15 ∷ 1 ∷ 0 ∷ []) ∷
    (0 ∷ 0 ∷ 8 ∷ 1 ∷ 0 ∷ []) ∷
    (1 ∷ 1 ∷ 11 ∷ 1 ∷ 0 ∷ []) ∷
    (0 ∷ 0 ∷ 10 ∷ 1 ∷ 0 ∷ []) ∷
    (0 ∷ 0 ∷ 11 ∷ 1 ∷ 0 ∷ []) ∷
    (0 ∷ 0 ∷ 12 ∷ 1 ∷ 0 ∷ []) ∷
    (1 ∷ 1 ∷ 15 ∷ 1 ∷ 0 ∷ []) ∷
    (0 ∷ 0 ∷ 14 ∷ 1 ∷ 0 ∷ []) ∷
    (0 ∷ 0 ∷ 15 ∷ 1 ∷ 0 ∷ []) ∷ []
unfolding moves
proposals = refl

proposal_heights : map told
    -- at the last height; where another leads; without a chain below; where it leads the heights beside c alone
    (at 0 3 0 (notarized_by7 first ∷ dummied 7 ∷ vacant 2 ∷ []) ∷
    at 0 3 0 (notarized_by7 first ∷ dummied 7 ∷ vacant 3 ∷ []) ∷
    at 0 3 0 (notarized_by7 first ∷ dummied 3 ∷ vacant 2 ∷ []) ∷
    at 0 2 0 (height 2 2 7 0 0 0 [] first [] ∷ vacant 1 ∷ vacant 2 ∷ []) ∷
    -- with a log
    at 0 2 1 (finalized_by 7 first ∷ vacant 2 ∷ []) ∷
    -- replica 0 after the last height, which nobody leads
    state 4 0 0 3 0 0 [] (dummied 7 ∷ dummied 7 ∷ []) ∷ []) ≡
    (4 ∷ 3 ∷ 8 ∷ 3 ∷ 0 ∷ []) ∷
    (0 ∷ 0 ∷ 0 ∷ 3 ∷ 0 ∷ []) ∷
    (0 ∷ 0 ∷ 0 ∷ 3 ∷ 0 ∷ []) ∷
    (0 ∷ 0 ∷ 0 ∷ 2 ∷ 0 ∷ []) ∷
    (4 ∷ 2 ∷ 8 ∷ 2 ∷ 1 ∷ []) ∷
    (0 ∷ 0 ∷ 0 ∷ 3 ∷ 0 ∷ []) ∷ []
unfolding moves
proposal_heights = refl

-- ---- move 5: c ≤ H, no block vote cast (flag 4), the held proposal of c stands
votes : over_flags (λ flags. at flags 1 0 (holding first ∷ [])) ≡
    (5 ∷ 1 ∷ 4 ∷ 1 ∷ 0 ∷ []) ∷
    (1 ∷ 1 ∷ 3 ∷ 1 ∷ 0 ∷ []) ∷
    (5 ∷ 1 ∷ 6 ∷ 1 ∷ 0 ∷ []) ∷
    (5 ∷ 1 ∷ 7 ∷ 1 ∷ 0 ∷ []) ∷
    (0 ∷ 0 ∷ 4 ∷ 1 ∷ 0 ∷ []) ∷
    (1 ∷ 1 ∷ 7 ∷ 1 ∷ 0 ∷ []) ∷
    (0 ∷ 0 ∷ 6 ∷ 1 ∷ 0 ∷ []) ∷
    (0 ∷ 0 ∷ 7 ∷ 1 ∷ 0 ∷ []) ∷
    (5 ∷ 1 ∷ 12 ∷ 1 ∷ 0 ∷ []) ∷
    (1 ∷ 1 ∷ 11 ∷ 1 ∷ 0 ∷ []) ∷
    (5 ∷ 1 ∷ 14 ∷ 1 ∷ 0 ∷ []) ∷
    (5 ∷ 1 ∷ 15 ∷ 1 ∷ 0 ∷ []) ∷
    (0 ∷ 0 ∷ 12 ∷ 1 ∷ 0 ∷ []) ∷
    (1 ∷ 1 ∷ 15 ∷ 1 ∷ 0 ∷ []) ∷
    (0 ∷ 0 ∷ 14 ∷ 1 ∷ 0 ∷ []) ∷
    (0 ∷ 0 ∷ 15 ∷ 1 ∷ 0 ∷ []) ∷ []
unfolding moves
votes = refl

vote_heights : map told
    -- at the last height; a proposal at another height; one whose parent is not notarized; bytes that no state bit
    -- covers
    (at 0 3 0 (notarized_by7 first ∷ notarized_by7 second ∷ holding third ∷ []) ∷
    at 0 2 0 (notarized_by7 first ∷ vacant 0 ∷ holding third ∷ []) ∷
    at 0 2 0 (holding first ∷ holding second ∷ []) ∷
    at 0 1 0 (height 0 0 0 0 0 0 first [] [] ∷ []) ∷
    -- a notarized block that is not linked beside a proposal that is held and stands, and beside bytes that are not
    -- held
    at 0 1 0 (height 0 3 7 0 0 0 first second [] ∷ []) ∷
    at 0 1 0 (height 0 2 7 0 0 0 first second [] ∷ []) ∷
    -- with a log
    at 0 2 1 (finalized_by 7 first ∷ holding second ∷ []) ∷ []) ≡
    (5 ∷ 3 ∷ 4 ∷ 3 ∷ 0 ∷ []) ∷
    (0 ∷ 0 ∷ 0 ∷ 2 ∷ 0 ∷ []) ∷
    (0 ∷ 0 ∷ 0 ∷ 2 ∷ 0 ∷ []) ∷
    (0 ∷ 0 ∷ 0 ∷ 1 ∷ 0 ∷ []) ∷
    (5 ∷ 1 ∷ 4 ∷ 1 ∷ 0 ∷ []) ∷
    (0 ∷ 0 ∷ 0 ∷ 1 ∷ 0 ∷ []) ∷
    (5 ∷ 2 ∷ 4 ∷ 2 ∷ 1 ∷ []) ∷ []
unfolding moves
vote_heights = refl

-- ---- the order: where all five apply, then without the first, and so on
orders : map told
    (at 1 1 0 (height 2 3 7 0 7 0 first first [] ∷ []) ∷
    at 3 1 0 (height 2 3 7 0 7 0 first first [] ∷ []) ∷
    at 3 1 1 (height 2 3 7 0 7 0 first first [] ∷ []) ∷
    at 3 1 0 (height 2 1 7 0 7 0 first first [] ∷ []) ∷
    at 11 1 0 (height 2 1 7 0 7 0 first first [] ∷ []) ∷
    at 15 1 0 (height 2 1 7 0 7 0 first first [] ∷ []) ∷ []) ≡
    (1 ∷ 1 ∷ 3 ∷ 1 ∷ 0 ∷ []) ∷
    (2 ∷ 1 ∷ 3 ∷ 1 ∷ 1 ∷ []) ∷
    (3 ∷ 1 ∷ 5 ∷ 0 ∷ 0 ∷ 2 ∷ 1 ∷ []) ∷
    (4 ∷ 1 ∷ 11 ∷ 1 ∷ 0 ∷ []) ∷
    (5 ∷ 1 ∷ 15 ∷ 1 ∷ 0 ∷ []) ∷
    (0 ∷ 0 ∷ 15 ∷ 1 ∷ 0 ∷ []) ∷ []
unfolding moves
orders = refl

-- ---- one after the other
-- the flags, c and g after each number of moves: the dummy vote, the output, the pass, which clears the flags, and
-- then nothing
moving : map (λ count. let s : State = after_moves stand_in count (at 1 1 0 (height 2 3 7 0 7 0 first first [] ∷ [])) in
    s.flags ∷ s.current ∷ s.finalized ∷ []) (counting 0 5) ≡
    (1 ∷ 1 ∷ 0 ∷ []) ∷ (3 ∷ 1 ∷ 0 ∷ []) ∷ (3 ∷ 1 ∷ 1 ∷ []) ∷ (0 ∷ 2 ∷ 1 ∷ []) ∷ (0 ∷ 2 ∷ 1 ∷ []) ∷ []
unfolding moves
moving = refl

-- a book of two heights that are dummy, with a pending entry, its flags and c as given
between : (flags current : ℕ) → Bytes
between flags current =
    4 ∷ 2 ∷ 2 ∷ flags ∷ current ∷ 0 ∷ 1 ∷ 2 ∷
    (one_bytes 4 ++ (zeros 48 ++ (entry 5 ++ (zeros 496 ++
    (3 ∷ 0 ∷ 0 ∷ 0 ∷ 7 ∷ (zeros 11 ++ (1 ∷ 0 ∷ 0 ∷ 0 ∷ 11 ∷ zeros 1739)))))))

-- two moves pass both, and no other byte changes
moving_twice : encode (after_moves stand_in 2 (decode (between 2 1))) ≡ between 0 3
unfolding moves between
moving_twice = refl
