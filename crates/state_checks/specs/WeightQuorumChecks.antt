-- Quorums by weight (document 02, 2.6): both sides of two thirds, one replica that is a quorum alone, many small ones
-- that are none, the largest sums, equal weights of any size, and two quorums that share no more than a third.
use Rattle.std.specs.Prelude.{ℕ, zero, suc, ◌+◌, ◌*◌, ◌≡◌, refl, Bool, true, false, not, List, [], ◌∷◌, ◌++◌, map, length, replicate}
use Rattle.protocol.specs.Mask.{intersection}
use Rattle.protocol.specs.View.{View, quorum, mask_weight, total_weight}
use Rattle.protocol.specs.Sound.{view}
use Rattle.check_books.specs.CheckStates.{counting, passing, state_of, state_tools}

-- ---- weights and views
view_with : List ℕ → View
view_with weights = view (state_of weights 0 0 1 0 0 [] [])

is_quorum : List ℕ → ℕ → Bool
is_quorum weights mask = quorum (view_with weights) mask

-- of up to four replicas the masks that are quorums
quorums_of : List ℕ → List ℕ
quorums_of weights = passing (is_quorum weights) (counting 0 16)

unfoldable weights : Unit {0}
unfolding state_tools view_with is_quorum quorums_of
weights = tt

-- the weight of a mask: each bit adds its own replica's; the total
weighed : map (λ mask. mask_weight (view_with (1 ∷ 10 ∷ 100 ∷ 1000 ∷ [])) mask) (counting 0 16) ++
    (total_weight (view_with (1 ∷ 10 ∷ 100 ∷ 1000 ∷ [])) ∷ []) ≡
    0 ∷ 1 ∷ 10 ∷ 11 ∷ 100 ∷ 101 ∷ 110 ∷ 111 ∷ 1000 ∷ 1001 ∷ 1010 ∷ 1011 ∷ 1100 ∷ 1101 ∷ 1110 ∷ 1111 ∷ 1111 ∷ []
unfolding weights
weighed = refl

-- a bit from n up weighs nothing
absent : map (λ mask. mask_weight (view_with (3 ∷ 4 ∷ [])) mask) (4 ∷ 7 ∷ 65532 ∷ 65535 ∷ []) ≡ 0 ∷ 7 ∷ 0 ∷ 7 ∷ []
unfolding weights
absent = refl

-- ---- both sides of two thirds
-- W 6, two thirds 4: just 4 by two large ones, and by one with both small ones; 3 is too few
edge : quorums_of (2 ∷ 2 ∷ 1 ∷ 1 ∷ []) ≡ 3 ∷ 7 ∷ 11 ∷ 13 ∷ 14 ∷ 15 ∷ []
unfolding weights
edge = refl

-- W 9, two thirds 6: 7 by 0 and 1, just 6 by 0, 2 and 3; 5 by 1, 2 and 3, or by 0 and 2, is too few
edge_of_nine : quorums_of (4 ∷ 3 ∷ 1 ∷ 1 ∷ []) ≡ 3 ∷ 7 ∷ 11 ∷ 13 ∷ 15 ∷ []
unfolding weights
edge_of_nine = refl

-- W 7, more than 4 is needed: 0 with any other, and not the three others; by number it is the other way round
one_large : quorums_of (4 ∷ 1 ∷ 1 ∷ 1 ∷ []) ∷ quorums_of (1 ∷ 1 ∷ 4 ∷ 1 ∷ []) ∷ quorums_of (1 ∷ 1 ∷ 1 ∷ 1 ∷ []) ∷ [] ≡
    (3 ∷ 5 ∷ 7 ∷ 9 ∷ 11 ∷ 13 ∷ 15 ∷ []) ∷
    (5 ∷ 6 ∷ 7 ∷ 12 ∷ 13 ∷ 14 ∷ 15 ∷ []) ∷
    (7 ∷ 11 ∷ 13 ∷ 14 ∷ 15 ∷ []) ∷ []
unfolding weights
one_large = refl

-- one replica alone: 0 of weight 9 and of weight 10 beside three of weight 1; of weight 6, with just two thirds; the
-- last, of weight 1,000; the others together are no quorum
quorum_alone : map quorums_of
    ((9 ∷ 1 ∷ 1 ∷ 1 ∷ []) ∷ (10 ∷ 1 ∷ 1 ∷ 1 ∷ []) ∷ (6 ∷ 1 ∷ 1 ∷ 1 ∷ []) ∷ (1 ∷ 1 ∷ 1 ∷ 1000 ∷ []) ∷ []) ≡
    replicate 3 (1 ∷ 3 ∷ 5 ∷ 7 ∷ 9 ∷ 11 ∷ 13 ∷ 15 ∷ []) ++ (counting 8 8 ∷ [])
unfolding weights
quorum_alone = refl

-- one less, and it is none alone: 5 of 8 beside three of weight 1
not_alone : quorums_of (5 ∷ 1 ∷ 1 ∷ 1 ∷ []) ≡ 3 ∷ 5 ∷ 7 ∷ 9 ∷ 11 ∷ 13 ∷ 15 ∷ []
unfolding weights
not_alone = refl

-- Around the edge with weights near 1,000: W 2,997 and two thirds 1,998 = 999 + 999; with one of 1,000 more is needed,
-- with one of 998 less
thousands : map (λ given. map (is_quorum given) (3 ∷ 5 ∷ 6 ∷ []))
    ((999 ∷ 999 ∷ 999 ∷ []) ∷ (999 ∷ 999 ∷ 1000 ∷ []) ∷ (999 ∷ 999 ∷ 998 ∷ []) ∷ []) ≡
    (true ∷ true ∷ true ∷ []) ∷ (false ∷ true ∷ true ∷ []) ∷ (true ∷ false ∷ false ∷ []) ∷ []
unfolding weights
thousands = refl

-- ---- sixteen replicas
-- weights 1 to 16, W 136, of which 91 are needed: 91 by the last seven, 90 by the last six with the one of weight 9; 91
-- by the first thirteen, 78 by the first twelve
sixteen : map (is_quorum (counting 1 16)) (65024 ∷ 64768 ∷ 8191 ∷ 4095 ∷ 65535 ∷ 0 ∷ []) ≡
    true ∷ false ∷ true ∷ false ∷ true ∷ false ∷ []
unfolding weights
sixteen = refl

-- the largest sums: each weighs 1,000, W 16,000; all weigh 16,000, eleven 11,000, ten 10,000
largest : total_weight (view_with (replicate 16 1000)) ∷
    map (mask_weight (view_with (replicate 16 1000))) (65535 ∷ 2047 ∷ 65504 ∷ 1023 ∷ 65472 ∷ []) ≡
    16000 ∷ 16000 ∷ 11000 ∷ 11000 ∷ 10000 ∷ 10000 ∷ []
unfolding weights
largest = refl

largest_quorums : map (is_quorum (replicate 16 1000)) (65535 ∷ 2047 ∷ 65504 ∷ 1023 ∷ 65472 ∷ 0 ∷ []) ≡
    true ∷ true ∷ true ∷ false ∷ false ∷ false ∷ []
unfolding weights
largest_quorums = refl

-- ---- equal weights
-- of n replicas that weigh k each, how many from 0 on are needed
first_ones : ℕ → ℕ
first_ones zero = 0
first_ones (suc count) = 1 + 2 * first_ones count

needed : ℕ → ℕ → ℕ
needed k n = length (passing (λ count. not (is_quorum (replicate n k) (first_ones count))) (counting 0 (suc n)))

-- document 01's examples a to d: 3 of 4, 4 of 6, 11 of 16, 1 of 1; the same whatever the weight is
equal_weights : map (λ k. map (needed k) (4 ∷ 6 ∷ 16 ∷ 1 ∷ [])) (1 ∷ 2 ∷ 7 ∷ 1000 ∷ []) ≡
    replicate 4 (3 ∷ 4 ∷ 11 ∷ 1 ∷ [])
unfolding weights first_ones needed
equal_weights = refl

-- and every mask of four
equal_quorums : map (λ k. quorums_of (replicate 4 k)) (1 ∷ 2 ∷ 3 ∷ 1000 ∷ []) ≡ replicate 4 (7 ∷ 11 ∷ 13 ∷ 14 ∷ 15 ∷ [])
unfolding weights
equal_quorums = refl

-- ---- what two quorums share weighs a third at least, and no more where the bound is met
-- the total; the weights of two masks and of those in both; whether the two are quorums
shared : List ℕ → ℕ → ℕ → List ℕ × List Bool
shared given a b =
    let v : View = view_with given in
    let both : ℕ = intersection (length given) a b in
    (total_weight v ∷ mask_weight v a ∷ mask_weight v b ∷ mask_weight v both ∷ [], quorum v a ∷ quorum v b ∷ [])

-- W 6: 0 and 1 weigh 4, and so do 1, 2 and 3; they share 1, of weight 2; the same of three that weigh 1, of three that
-- weigh 1,000, and of unequal ones, where 0, of weight 5, is shared by 0 with 1, and 0 with 2 and 3
tight : shared (2 ∷ 2 ∷ 1 ∷ 1 ∷ []) 3 14 ∷ shared (1 ∷ 1 ∷ 1 ∷ []) 3 6 ∷ shared (1000 ∷ 1000 ∷ 1000 ∷ []) 5 6 ∷
    shared (5 ∷ 5 ∷ 3 ∷ 2 ∷ []) 3 13 ∷ [] ≡
    (6 ∷ 4 ∷ 4 ∷ 2 ∷ [], true ∷ true ∷ []) ∷
    (3 ∷ 2 ∷ 2 ∷ 1 ∷ [], true ∷ true ∷ []) ∷
    (3000 ∷ 2000 ∷ 2000 ∷ 1000 ∷ [], true ∷ true ∷ []) ∷
    (15 ∷ 10 ∷ 10 ∷ 5 ∷ [], true ∷ true ∷ []) ∷ []
unfolding weights shared
tight = refl
