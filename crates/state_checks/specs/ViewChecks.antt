-- Quorums of 1 to 16 replicas, and over small states: what links and stands, which heights are finalized, the best
-- parent, and the log.
use Rattle.std.specs.Prelude.{ℕ, zero, suc, ◌+◌, ◌-◌, ◌*◌, ◌^◌, ◌≡◌, refl, Bool, true, false, not, List, [], ◌∷◌, ◌++◌, map, length, replicate}
use Rattle.std.proofs.Math.Option.{Option, some, none}
use Rattle.protocol.specs.Bytes.{Bytes, zeros}
use Rattle.protocol.specs.Block.{new_block}
use Rattle.protocol.specs.State.{Height}
use Rattle.protocol.specs.View.{View, quorum, is_dummy, linked, extends, is_finalized, largest_finalized, parent_of, log_at}
use Rattle.protocol.specs.Sound.{view}
use Rattle.check_books.specs.CheckCalls.{stand_in, splice}
use Rattle.check_books.specs.CheckStates.{entry, counting, passing, height, vacant, dummied, notarized_by7}
use Rattle.check_books.specs.CheckStates.{state, view_of, state_tools}

-- ---- quorums
-- a mask of so many replicas, from 0 on; and of the last of n
first_ones : ℕ → ℕ
first_ones zero = 0
first_ones (suc count) = 1 + 2 * first_ones count

last_ones : ℕ → ℕ → ℕ
last_ones n count = first_ones count * 2 ^ (n - count)

is_quorum : ℕ → ℕ → Bool
is_quorum n mask = quorum (view (state n 0 0 1 0 0 [] [])) mask

-- how many of the counts from 0 to n are too few, which is the smallest quorum: two thirds of n or the next number
-- above
needed : ℕ → ℕ
needed n = length (passing (λ count. not (is_quorum n (first_ones count))) (counting 0 (suc n)))

needed_last : ℕ → ℕ
needed_last n = length (passing (λ count. not (is_quorum n (last_ones n count))) (counting 0 (suc n)))

quorums : map needed (counting 1 16) ++ map needed_last (counting 1 16) ≡
    1 ∷ 2 ∷ 2 ∷ 3 ∷ 4 ∷ 4 ∷ 5 ∷ 6 ∷ 6 ∷ 7 ∷ 8 ∷ 8 ∷ 9 ∷ 10 ∷ 10 ∷ 11 ∷
    1 ∷ 2 ∷ 2 ∷ 3 ∷ 4 ∷ 4 ∷ 5 ∷ 6 ∷ 6 ∷ 7 ∷ 8 ∷ 8 ∷ 9 ∷ 10 ∷ 10 ∷ 11 ∷ []
unfolding state_tools first_ones last_ones is_quorum needed needed_last
quorums = refl

-- ---- blocks: three, each on the one below; another of height 1; some on heights further below
first : Bytes
first = new_block 1 0 (zeros 32) (entry 1 ∷ [])

second : Bytes
second = new_block 2 1 (stand_in first) (entry 2 ∷ entry 3 ∷ [])

third : Bytes
third = new_block 3 2 (stand_in second) (entry 1 ∷ [])

other : Bytes
other = new_block 1 0 (zeros 32) []

third_alone : Bytes
third_alone = new_block 3 0 (zeros 32) (entry 4 ∷ [])

fifth : Bytes
fifth = new_block 5 1 (stand_in first) (entry 5 ∷ [])

-- a digest that is wrong in its first and one that is wrong in its last byte
wrong_first : Bytes
wrong_first = splice 0 (0 ∷ []) (stand_in first)

wrong_last : Bytes
wrong_last = splice 31 (0 ∷ []) (stand_in first)

-- height 1 with one block held and another notarized
held : Bytes → Bytes → Height
held proposal notarized = height 0 3 7 0 0 0 proposal notarized []

-- height 1 with a block that is held and not notarized
only_held : Height
only_held = height 0 1 7 0 0 0 first first []

unfoldable blocks : Unit {0}
unfolding state_tools first second third other third_alone fifth wrong_first wrong_last held only_held
blocks = tt

-- the linked heights from 0 to H + 1
linked_heights : List Height → List ℕ
linked_heights heights = passing (linked stand_in (view_of heights)) (counting 0 (length heights + 2))

-- ---- linked
linked_chains : map linked_heights
    -- nothing; each on the one below; without the first, which is held alone
    ([] ∷
    (notarized_by7 first ∷ notarized_by7 second ∷ notarized_by7 third ∷ []) ∷
    (only_held ∷ notarized_by7 second ∷ notarized_by7 third ∷ []) ∷
    (vacant 0 ∷ notarized_by7 second ∷ notarized_by7 third ∷ []) ∷
    -- a digest that is wrong in its first or last byte; that of the proposal in place of the notarized block's; none
    -- at height 0
    (notarized_by7 first ∷ notarized_by7 (new_block 2 1 wrong_first []) ∷ []) ∷
    (notarized_by7 first ∷ notarized_by7 (new_block 2 1 wrong_last []) ∷ []) ∷
    (held other first ∷ notarized_by7 second ∷ []) ∷
    (held first other ∷ notarized_by7 second ∷ []) ∷
    (notarized_by7 (new_block 1 0 (1 ∷ zeros 31) []) ∷ []) ∷
    (notarized_by7 (new_block 1 0 (zeros 31 ++ (1 ∷ [])) []) ∷ []) ∷ []) ≡
    (0 ∷ []) ∷
    (0 ∷ 1 ∷ 2 ∷ 3 ∷ []) ∷
    (0 ∷ []) ∷
    (0 ∷ []) ∷
    (0 ∷ 1 ∷ []) ∷
    (0 ∷ 1 ∷ []) ∷
    (0 ∷ 1 ∷ 2 ∷ []) ∷
    (0 ∷ 1 ∷ []) ∷
    (0 ∷ []) ∷
    (0 ∷ []) ∷ []
unfolding blocks linked_heights
linked_chains = refl

-- every height between a block and its parent is dummy: the first, a middle one and the last of three; two after
-- height 0
linked_runs : map linked_heights
    ((notarized_by7 first ∷ dummied 7 ∷ dummied 14 ∷ dummied 15 ∷ notarized_by7 fifth ∷ []) ∷
    (notarized_by7 first ∷ dummied 3 ∷ dummied 7 ∷ dummied 7 ∷ notarized_by7 fifth ∷ []) ∷
    (notarized_by7 first ∷ dummied 7 ∷ dummied 3 ∷ dummied 7 ∷ notarized_by7 fifth ∷ []) ∷
    (notarized_by7 first ∷ dummied 7 ∷ dummied 7 ∷ dummied 3 ∷ notarized_by7 fifth ∷ []) ∷
    (dummied 7 ∷ dummied 7 ∷ notarized_by7 third_alone ∷ []) ∷
    (dummied 3 ∷ dummied 7 ∷ notarized_by7 third_alone ∷ []) ∷
    (dummied 7 ∷ dummied 3 ∷ notarized_by7 third_alone ∷ []) ∷ []) ≡
    (0 ∷ 1 ∷ 5 ∷ []) ∷
    (0 ∷ 1 ∷ []) ∷
    (0 ∷ 1 ∷ []) ∷
    (0 ∷ 1 ∷ []) ∷
    (0 ∷ 3 ∷ []) ∷
    (0 ∷ []) ∷
    (0 ∷ []) ∷ []
unfolding blocks linked_heights
linked_runs = refl

-- ---- stands: a block that no height holds, at heights 1 to 4
unlinked : Bytes
unlinked = new_block 2 1 wrong_last []

stands_at : List Height → Bytes → List ℕ
stands_at heights block = passing (λ h. extends stand_in (view_of heights) h block) (counting 1 4)

-- on a chain, and not where its first block is held alone; on height 0; on a block that is not linked, above one that
-- is; on a linked block above heights that are not
standing : stands_at (notarized_by7 first ∷ notarized_by7 second ∷ []) third ∷
    stands_at (only_held ∷ notarized_by7 second ∷ []) third ∷
    stands_at (vacant 0 ∷ []) first ∷
    stands_at (notarized_by7 first ∷ notarized_by7 unlinked ∷ []) (new_block 3 2 (stand_in unlinked) []) ∷
    stands_at (dummied 7 ∷ dummied 7 ∷ notarized_by7 third_alone ∷ []) (new_block 4 3 (stand_in third_alone) []) ∷ [] ≡
    (3 ∷ []) ∷ [] ∷ (1 ∷ []) ∷ [] ∷ (4 ∷ []) ∷ []
unfolding blocks unlinked stands_at
standing = refl

-- ---- what a view has of each height
distinct : View
distinct = view_of (height 1 2 3 4 5 6 first second [] ∷ height 6 1 8 9 10 11 second first [] ∷ [])

viewed : map (λ h. distinct.certificate_mask h) (counting 1 2) ++
    (map (λ h. distinct.dummy_mask h) (counting 1 2) ++ map (λ h. distinct.finalize_mask h) (counting 1 2)) ≡
    3 ∷ 8 ∷ 4 ∷ 9 ∷ 5 ∷ 10 ∷ []
unfolding blocks distinct
viewed = refl

-- ---- finalized: linked, with a quorum of finalizes
finalizes : ℕ → Bytes → Height
finalizes mask block = height 0 2 7 7 mask 15 [] block []

chain : ℕ → ℕ → ℕ → View
chain a b c = view_of (finalizes a first ∷ finalizes b second ∷ finalizes c third ∷ [])

-- the finalized heights from 1 to 4, and the largest up to 0, 1, 2 and 3
finalized_heights : View → List ℕ
finalized_heights v = passing (is_finalized stand_in v) (counting 1 4) ++ map (largest_finalized stand_in v) (counting 0 4)

finalized_heights_lem : map finalized_heights
    (chain 7 7 7 ∷ chain 7 3 0 ∷ chain 0 14 0 ∷ chain 3 12 13 ∷ chain 3 5 6 ∷
    -- a quorum of finalizes for a block that is not linked, and for no block
    view_of (vacant 0 ∷ finalizes 15 second ∷ []) ∷
    view_of (height 0 1 15 15 15 15 first first [] ∷ []) ∷ []) ≡
    (1 ∷ 2 ∷ 3 ∷ 0 ∷ 1 ∷ 2 ∷ 3 ∷ []) ∷
    (1 ∷ 0 ∷ 1 ∷ 1 ∷ 1 ∷ []) ∷
    (2 ∷ 0 ∷ 0 ∷ 2 ∷ 2 ∷ []) ∷
    (3 ∷ 0 ∷ 0 ∷ 0 ∷ 3 ∷ []) ∷
    (0 ∷ 0 ∷ 0 ∷ 0 ∷ []) ∷
    (0 ∷ 0 ∷ 0 ∷ 0 ∷ []) ∷
    (0 ∷ 0 ∷ 0 ∷ 0 ∷ []) ∷ []
unfolding blocks finalizes chain finalized_heights
finalized_heights_lem = refl

-- ---- the chain of a height: the largest linked height with dummies after it
parents : List Height → List (Option ℕ)
parents heights = map (parent_of stand_in (view_of heights)) (counting 0 (suc (length heights)))

best_parents : map parents
    -- a block, two dummies, a height with neither; dummies from height 1 on; a height with neither at the start
    ((notarized_by7 first ∷ dummied 7 ∷ dummied 7 ∷ dummied 3 ∷ dummied 7 ∷ []) ∷
    (dummied 7 ∷ dummied 11 ∷ notarized_by7 third_alone ∷ []) ∷
    (dummied 3 ∷ dummied 7 ∷ []) ∷
    -- heights that are linked and dummy: the largest; a block that is not linked, with and without dummies
    (height 0 2 7 7 0 0 [] first [] ∷ height 0 2 7 7 0 0 [] second [] ∷ []) ∷
    (notarized_by7 first ∷ height 0 2 7 7 0 0 [] third_alone [] ∷ []) ∷
    (notarized_by7 first ∷ height 0 2 7 3 0 0 [] (new_block 2 1 wrong_last []) [] ∷ []) ∷ []) ≡
    (some 0 ∷ some 1 ∷ some 1 ∷ some 1 ∷ none ∷ none ∷ []) ∷
    (some 0 ∷ some 0 ∷ some 0 ∷ some 3 ∷ []) ∷
    (some 0 ∷ none ∷ none ∷ []) ∷
    (some 0 ∷ some 1 ∷ some 2 ∷ []) ∷
    (some 0 ∷ some 1 ∷ some 1 ∷ []) ∷
    (some 0 ∷ some 1 ∷ none ∷ []) ∷ []
unfolding blocks parents
best_parents = refl

-- ---- the entries of a chain: oldest block first, with their repeats, nothing for the heights between
logs : log_at (chain 0 0 0) 0 ∷ log_at (chain 0 0 0) 1 ∷ log_at (chain 0 0 0) 2 ∷ log_at (chain 0 0 0) 3 ∷
    log_at (view_of (notarized_by7 first ∷ dummied 7 ∷ dummied 7 ∷ dummied 7 ∷ notarized_by7 fifth ∷ [])) 5 ∷
    log_at (view_of (notarized_by7 first ∷ dummied 7 ∷ notarized_by7 third_alone ∷ [])) 3 ∷ [] ≡
    [] ∷
    (entry 1 ∷ []) ∷
    (entry 1 ∷ entry 2 ∷ entry 3 ∷ []) ∷
    (entry 1 ∷ entry 2 ∷ entry 3 ∷ entry 1 ∷ []) ∷
    (entry 1 ∷ entry 5 ∷ []) ∷
    (entry 4 ∷ []) ∷ []
unfolding blocks finalizes chain
logs = refl
