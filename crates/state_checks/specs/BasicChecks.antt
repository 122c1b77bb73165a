-- The definitions that the rules are written in: bytes, lists of tests, and masks, on small numbers.
use Rattle.std.specs.Prelude.{ℕ, zero, suc, ◌≡◌, refl, Bool, true, false, not, List, [], ◌∷◌, ◌++◌, replicate, eqb}
use Rattle.std.proofs.Math.Option.{Option, some, none}
use Rattle.protocol.specs.Bytes.{Bytes, byte_at, word16, le16, part, zeros, over_front, is_zero, same, pieces, join, holds}
use Rattle.protocol.specs.Tests.{all_of, implies, in_range, every_height, first_refusal}
use Rattle.protocol.specs.Mask.{in_mask, mask_of, ones, union, intersection, below_bit}
use Rattle.check_books.specs.CheckStates.{entry, counting, passing, state_tools}

-- ---- bytes
ten : Bytes
ten = counting 1 10

-- low byte first, at any place, and 0 past the end
numbers : word16 ten 0 ∷ word16 ten 8 ∷ word16 ten 9 ∷ word16 ten 10 ∷ byte_at ten 9 ∷ byte_at ten 10 ∷ [] ≡ 513 ∷
    2569 ∷ 10 ∷ 0 ∷ 10 ∷ 0 ∷ []
unfolding state_tools ten
numbers = refl

words : le16 0 ++ (le16 1 ++ (le16 255 ++ (le16 256 ++ (le16 513 ++ le16 65535)))) ≡
    0 ∷ 0 ∷ 1 ∷ 0 ∷ 255 ∷ 0 ∷ 0 ∷ 1 ∷ 1 ∷ 2 ∷ 255 ∷ 255 ∷ []
unfolding state_tools
words = refl

parts : part ten 0 3 ∷ part ten 7 3 ∷ part ten 8 3 ∷ part ten 4 0 ∷ zeros 2 ∷ over_front (7 ∷ 7 ∷ []) (1 ∷ 2 ∷ 3 ∷
    []) ∷ over_front [] (1 ∷ []) ∷ [] ≡
    (1 ∷ 2 ∷ 3 ∷ []) ∷ (8 ∷ 9 ∷ 10 ∷ []) ∷ (9 ∷ 10 ∷ []) ∷ [] ∷ (0 ∷ 0 ∷ []) ∷ (7 ∷ 7 ∷ 3 ∷ []) ∷ (1 ∷ []) ∷ []
unfolding state_tools ten
parts = refl

cuts : join (pieces 2 3 ten) ∷ join (pieces 3 0 ten) ∷ pieces 3 2 ten ≡
    (1 ∷ 2 ∷ 3 ∷ 4 ∷ 5 ∷ 6 ∷ []) ∷ [] ∷ (1 ∷ 2 ∷ 3 ∷ []) ∷ (4 ∷ 5 ∷ 6 ∷ []) ∷ []
unfolding state_tools ten
cuts = refl

-- zero bytes: none, all, and one that is not, first, in the middle and last; the same for equal strings, and one
-- longer and one shorter
comparisons : is_zero [] ∷ is_zero (zeros 3) ∷ is_zero (1 ∷ 0 ∷ 0 ∷ []) ∷ is_zero (0 ∷ 1 ∷ 0 ∷ []) ∷ is_zero (0 ∷ 0 ∷
    1 ∷ []) ∷
    same [] [] ∷ same ten ten ∷ same (1 ∷ 2 ∷ 3 ∷ []) (0 ∷ 2 ∷ 3 ∷ []) ∷ same (1 ∷ 2 ∷ 3 ∷ []) (1 ∷ 0 ∷ 3 ∷ []) ∷
    same (1 ∷ 2 ∷ 3 ∷ []) (1 ∷ 2 ∷ 4 ∷ []) ∷ same (1 ∷ 2 ∷ []) (1 ∷ 2 ∷ 3 ∷ []) ∷ same (1 ∷ 2 ∷ 3 ∷ []) (1 ∷ 2 ∷
    []) ∷ [] ≡
    true ∷ true ∷ false ∷ false ∷ false ∷ true ∷ true ∷ false ∷ false ∷ false ∷ false ∷ false ∷ []
unfolding state_tools ten
comparisons = refl

-- strings of 200 bytes that differ in the last
long_comparison : same (zeros 200) (zeros 199 ++ (1 ∷ [])) ≡ false
unfolding state_tools
long_comparison = refl

-- a list has its first, middle and last entry, and none that differs from each in its first or last byte
membership : holds (entry 1) (entry 1 ∷ entry 2 ∷ entry 3 ∷ []) ∷ holds (entry 2) (entry 1 ∷ entry 2 ∷ entry 3 ∷ []) ∷
    holds (entry 3) (entry 1 ∷ entry 2 ∷ entry 3 ∷ []) ∷ holds (entry 4) (entry 1 ∷ entry 2 ∷ entry 3 ∷ []) ∷
    holds (entry 1) [] ∷
    holds (1 ∷ replicate 15 2) (entry 1 ∷ entry 2 ∷ []) ∷ holds (replicate 15 1 ++ (2 ∷ [])) (entry 1 ∷ entry 2 ∷
    []) ∷ [] ≡
    true ∷ true ∷ true ∷ false ∷ false ∷ false ∷ false ∷ []
unfolding state_tools
membership = refl

-- ---- tests
rows : all_of [] ∷ all_of (true ∷ true ∷ []) ∷ all_of (false ∷ true ∷ []) ∷ all_of (true ∷ false ∷ []) ∷
    implies false false ∷ implies false true ∷ implies true false ∷ implies true true ∷
    in_range 2 4 1 ∷ in_range 2 4 2 ∷ in_range 2 4 3 ∷ in_range 2 4 4 ∷ in_range 2 4 5 ∷ [] ≡
    true ∷ true ∷ false ∷ false ∷ true ∷ true ∷ false ∷ true ∷ false ∷ true ∷ true ∷ true ∷ false ∷ []
unfolding state_tools
rows = refl

-- heights 1 to 3: one that fails, first, in the middle and last; heights 0 and 4 are not asked
heights : every_height (λ h. not (eqb h 1)) 3 ∷ every_height (λ h. not (eqb h 2)) 3 ∷
    every_height (λ h. not (eqb h 3)) 3 ∷
    every_height (λ h. not (eqb h 0)) 3 ∷ every_height (λ h. not (eqb h 4)) 3 ∷ every_height (λ h. false) 0 ∷ [] ≡
    false ∷ false ∷ false ∷ true ∷ true ∷ true ∷ []
unfolding state_tools
heights = refl

-- the first row that fails
first_refusals : first_refusal [] ∷ first_refusal ((1, true) ∷ (4, true) ∷ []) ∷ first_refusal ((1, true) ∷
    (4, false) ∷ (6, false) ∷ []) ∷
    first_refusal ((1, false) ∷ (4, true) ∷ []) ∷ [] ≡ none ∷ none ∷ some 4 ∷ some 1 ∷ []
unfolding state_tools
first_refusals = refl

-- ---- masks
-- the members of masks with the first, the last and every other bit of sixteen
members : passing (in_mask 1) (counting 0 16) ∷ passing (in_mask 32768) (counting 0 16) ∷
    passing (in_mask 21845) (counting 0 16) ∷ [] ≡
    (0 ∷ []) ∷ (15 ∷ []) ∷ (0 ∷ 2 ∷ 4 ∷ 6 ∷ 8 ∷ 10 ∷ 12 ∷ 14 ∷ []) ∷ []
unfolding state_tools
members = refl

made : mask_of (λ s. true) 0 ∷ mask_of (λ s. true) 1 ∷ mask_of (λ s. true) 16 ∷ mask_of (eqb 15) 16 ∷
    mask_of (eqb 0) 16 ∷ mask_of (eqb 15) 15 ∷ [] ≡
    0 ∷ 1 ∷ 65535 ∷ 32768 ∷ 1 ∷ 0 ∷ []
unfolding state_tools
made = refl

counted : ones 0 16 ∷ ones 65535 16 ∷ ones 32768 16 ∷ ones 32769 16 ∷ ones 21845 16 ∷ ones 7 4 ∷ ones 8 4 ∷
    ones 1 1 ∷ [] ≡
    0 ∷ 16 ∷ 1 ∷ 2 ∷ 8 ∷ 3 ∷ 1 ∷ 1 ∷ []
unfolding state_tools
counted = refl

unions : union 4 0 0 ∷ union 4 7 14 ∷ union 4 1 8 ∷ union 16 32768 1 ∷ union 16 21845 43690 ∷ union 1 1 1 ∷ [] ≡
    0 ∷ 15 ∷ 9 ∷ 32769 ∷ 65535 ∷ 1 ∷ []
unfolding state_tools
unions = refl

intersections : intersection 4 0 15 ∷ intersection 4 7 14 ∷ intersection 4 1 8 ∷ intersection 16 65535 32769 ∷
    intersection 16 21845 43690 ∷ intersection 1 1 1 ∷ intersection 4 23 22 ∷ [] ≡
    0 ∷ 6 ∷ 0 ∷ 32769 ∷ 0 ∷ 1 ∷ 6 ∷ []
unfolding state_tools
intersections = refl

-- no bit from 1, 4 and 16 up
below : below_bit 1 1 ∷ below_bit 1 2 ∷ below_bit 4 15 ∷ below_bit 4 16 ∷ below_bit 16 65535 ∷ below_bit 16 65536 ∷ [] ≡
    true ∷ false ∷ true ∷ false ∷ true ∷ false ∷ []
unfolding state_tools
below = refl
