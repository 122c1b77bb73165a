-- Registers of chains that carry an entry twice: the distinct entries of small lists, and Register size, Read and
-- Submit on whole books of a replica, the first two on an observer's too.
use Rattle.std.specs.Prelude.{ℕ, ◌≡◌, refl, true, false, [], ◌∷◌, ◌++◌, map, replicate, take}
use Rattle.protocol.specs.Bytes.{Bytes, zeros}
use Rattle.protocol.specs.Distinct.{distinct, none_twice}
use Rattle.protocol.specs.Block.{new_block}
use Rattle.protocol.specs.State.{decode}
use Rattle.protocol.specs.View.{log_at}
use Rattle.protocol.specs.Sound.{view}
use Rattle.protocol.specs.Move.{offered}
use Rattle.protocol.specs.Call.{submitting, sizing, reading}
use Rattle.protocol.specs.ObserverCall.{observer_sizing, observer_reading}
use Rattle.check_books.specs.CheckCalls.{stand_in, perform, splice, expect, disagreement, one_bytes}
use Rattle.check_books.specs.CheckObservers.{observer_numbers, observer_buffer, observer_head, observed_content}
use Rattle.check_books.specs.CheckObservers.{observer_tools}
use Rattle.check_books.specs.CheckStates.{entry, state_tools}

-- ---- lists: none, one, two alike, and the first of two places further apart; a zero entry counts like any other
lists : map distinct
    ([] ∷
    (entry 1 ∷ []) ∷
    (entry 1 ∷ entry 1 ∷ []) ∷
    (entry 1 ∷ entry 2 ∷ entry 1 ∷ entry 3 ∷ []) ∷
    (entry 2 ∷ entry 1 ∷ entry 1 ∷ entry 2 ∷ entry 1 ∷ []) ∷
    (entry 1 ∷ entry 2 ∷ entry 3 ∷ entry 3 ∷ entry 2 ∷ entry 1 ∷ []) ∷
    (zeros 16 ∷ entry 4 ∷ zeros 16 ∷ []) ∷
    -- alike but for the first byte, or the last one
    ((1 ∷ replicate 15 5) ∷ (2 ∷ replicate 15 5) ∷ (1 ∷ (replicate 14 5 ++ (6 ∷ []))) ∷ (1 ∷ replicate 15 5) ∷ []) ∷
    []) ≡
    [] ∷
    (entry 1 ∷ []) ∷
    (entry 1 ∷ []) ∷
    (entry 1 ∷ entry 2 ∷ entry 3 ∷ []) ∷
    (entry 2 ∷ entry 1 ∷ []) ∷
    (entry 1 ∷ entry 2 ∷ entry 3 ∷ []) ∷
    (zeros 16 ∷ entry 4 ∷ []) ∷
    ((1 ∷ replicate 15 5) ∷ (2 ∷ replicate 15 5) ∷ (1 ∷ (replicate 14 5 ++ (6 ∷ []))) ∷ []) ∷ []
unfolding state_tools
lists = refl

twice : map none_twice
    ([] ∷ (entry 1 ∷ []) ∷ (entry 1 ∷ entry 2 ∷ []) ∷ (entry 1 ∷ entry 1 ∷ []) ∷
    (entry 1 ∷ entry 2 ∷ entry 3 ∷ entry 1 ∷ []) ∷ (entry 3 ∷ entry 2 ∷ entry 2 ∷ []) ∷ []) ≡
    true ∷ true ∷ true ∷ false ∷ false ∷ false ∷ []
unfolding state_tools
twice = refl

-- ---- three blocks with ten entries, of which five are distinct: repeats within a block, of the block below, and of
-- one further below
first : Bytes
first = new_block 1 0 (zeros 32) (entry 1 ∷ entry 2 ∷ entry 1 ∷ [])

second : Bytes
second = new_block 2 1 (stand_in first) (entry 2 ∷ entry 3 ∷ [])

third : Bytes
third = new_block 3 2 (stand_in second) (entry 3 ∷ entry 1 ∷ zeros 16 ∷ entry 4 ∷ zeros 16 ∷ [])

-- a third block on the first one: the second is notarized, and no part of its chain
past : Bytes
past = new_block 3 1 (stand_in first) (entry 3 ∷ entry 2 ∷ [])

-- replica 2 of four with three heights, each with its block and finalized by 1, 2 and 3; the dummy of height 2 too
-- where the mask says so; finalized height, pending entries
book : ℕ → ℕ → Bytes → ℕ → Bytes → Bytes
book finalized dummies top count pool =
    splice 2528 top
    (splice 1664 second
    (splice 800 first
    (splice 609 (2 ∷ 7 ∷ 0 ∷ 0 ∷ 0 ∷ 14 ∷ [])
    (splice 593 (2 ∷ 7 ∷ 0 ∷ dummies ∷ 0 ∷ 14 ∷ [])
    (splice 577 (2 ∷ 7 ∷ 0 ∷ 0 ∷ 0 ∷ 14 ∷ [])
    (splice 64 pool (4 ∷ 2 ∷ 3 ∷ 0 ∷ 4 ∷ finalized ∷ count ∷ 2 ∷ (one_bytes 4 ++ zeros 3200))))))))

observer_book : ℕ → ℕ → Bytes → Bytes
observer_book finalized dummies top =
    observer_head 4 3 finalized ++ (observed_content 2 7 0 14 ++ (observed_content 2 7 dummies 14 ++
    (observed_content 2 7 0 14 ++ (first ++ (second ++ top)))))

-- the distinct entries of all three
distinct_ones : Bytes
distinct_ones = entry 1 ++ (entry 2 ++ (entry 3 ++ (zeros 16 ++ entry 4)))

unfoldable repeats : Unit {0}
unfolding state_tools observer_tools first second third past book observer_book distinct_ones
repeats = tt

-- ---- Register size and Read of a replica: buffers one byte too short, just long enough, one byte longer, and of the
-- ten entries before shortening; then of the chains that end in heights 2 and 1
readings : disagreement 1 (book 3 0 third 0 [])
    (expect sizing (0 ∷ 80 ∷ []) [] [] ∷
    expect (reading (replicate 79 9)) [] [] (replicate 79 9) ∷
    expect (reading (replicate 80 9)) distinct_ones [] distinct_ones ∷
    expect (reading (replicate 81 9)) distinct_ones [] (distinct_ones ++ (9 ∷ [])) ∷
    expect (reading (replicate 160 9)) distinct_ones [] (distinct_ones ++ replicate 80 9) ∷ []) ≡ 0
unfolding repeats
readings = refl

readings_below : disagreement 1 (book 2 0 third 0 [])
    (expect sizing (0 ∷ 48 ∷ []) [] [] ∷
    expect (reading (replicate 48 9)) (entry 1 ++ (entry 2 ++ entry 3)) [] (entry 1 ++ (entry 2 ++ entry 3)) ∷ []) ≡ 0
unfolding repeats
readings_below = refl

readings_of_one_block : disagreement 1 (book 1 0 third 0 [])
    (expect sizing (0 ∷ 32 ∷ []) [] [] ∷
    expect (reading (replicate 32 9)) (entry 1 ++ entry 2) [] (entry 1 ++ entry 2) ∷ []) ≡ 0
unfolding repeats
readings_of_one_block = refl

-- an entry of a block that is no part of the chain is no earlier one
readings_past_a_block : disagreement 1 (book 3 7 past 0 [])
    (expect sizing (0 ∷ 48 ∷ []) [] [] ∷
    expect (reading (replicate 48 9)) (entry 1 ++ (entry 2 ++ entry 3)) [] (entry 1 ++ (entry 2 ++ entry 3)) ∷ []) ≡ 0
unfolding repeats
readings_past_a_block = refl

-- before shortening all ten are there
before_shortening : log_at (view (decode (book 3 0 third 0 []))) 3 ≡
    entry 1 ∷ entry 2 ∷ entry 1 ∷ entry 2 ∷ entry 3 ∷ entry 3 ∷ entry 1 ∷ zeros 16 ∷ entry 4 ∷ zeros 16 ∷ []
unfolding repeats
before_shortening = refl

-- ---- Submit: 13 for each distinct entry; pending ones that the register holds are dropped, an entry that is pending
-- twice stays twice
submissions : map (λ e. take 1 (perform (book 3 0 third 0 []) (submitting e)).numbers)
    (entry 1 ∷ entry 2 ∷ entry 3 ∷ entry 4 ∷ zeros 16 ∷ entry 5 ∷ []) ≡
    (13 ∷ []) ∷ (13 ∷ []) ∷ (13 ∷ []) ∷ (13 ∷ []) ∷ (13 ∷ []) ∷ (0 ∷ []) ∷ []
unfolding repeats
submissions = refl

submitted : disagreement 1
    (book 3 0 third 5 (entry 1 ++ (entry 6 ++ (zeros 16 ++ (entry 6 ++ entry 3)))))
    (expect (submitting (entry 5)) (0 ∷ [])
    ((6, 3 ∷ []) ∷ (64, entry 6 ++ (entry 6 ++ (entry 5 ++ zeros 464))) ∷ []) [] ∷ []) ≡ 0
unfolding repeats
submitted = refl

-- a block that is offered leaves out what its parent's chain has, in the register or not, and carries an entry that is
-- pending twice twice, of which the register will count one
offered_twice : offered (decode (book 1 0 third 3 (entry 6 ++ (entry 3 ++ entry 6)))) 3 ≡ entry 6 ∷ entry 6 ∷ []
unfolding repeats
offered_twice = refl

-- ---- the same blocks read by an observer
observer_sizes : observer_numbers (observer_book 3 0 third) observer_sizing ∷
    observer_numbers (observer_book 2 0 third) observer_sizing ∷
    observer_numbers (observer_book 1 0 third) observer_sizing ∷
    observer_numbers (observer_book 3 7 past) observer_sizing ∷ [] ≡
    (0 ∷ 80 ∷ []) ∷ (0 ∷ 48 ∷ []) ∷ (0 ∷ 32 ∷ []) ∷ (0 ∷ 48 ∷ []) ∷ []
unfolding repeats
observer_sizes = refl

observer_readings : map (λ room. observer_buffer (observer_book 3 0 third) (observer_reading (replicate room 9)))
    (79 ∷ 80 ∷ 81 ∷ 160 ∷ []) ≡
    replicate 79 9 ∷ distinct_ones ∷ (distinct_ones ++ (9 ∷ [])) ∷ (distinct_ones ++ replicate 80 9) ∷ []
unfolding repeats
observer_readings = refl

observer_parts : map (λ room. observer_numbers (observer_book 3 0 third) (observer_reading (replicate room 9)))
    (79 ∷ 80 ∷ 81 ∷ []) ≡
    [] ∷ distinct_ones ∷ distinct_ones ∷ []
unfolding repeats
observer_parts = refl
