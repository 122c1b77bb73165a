-- Open: each of its ranges on both sides, its order of refusals, and every byte of a new book, as document 01 opens and
-- with weights of 1; WeightCallChecks has other weights.
use Rattle.std.specs.Prelude.{ℕ, ◌+◌, ◌*◌, ◌≡◌, refl, List, [], ◌∷◌, ◌++◌, map, replicate}
use Rattle.protocol.specs.Bytes.{Bytes, zeros}
use Rattle.protocol.specs.Answer.{refusal_number}
use Rattle.protocol.specs.Open.{Opening, unweighed, open_call}
use Rattle.check_books.specs.CheckCalls.{one_bytes, one_each}
use Rattle.check_books.specs.CheckStates.{state_tools}

-- the refusal's number over a book of so many bytes, and 0 where the book is opened, by a way for each n
opening : (ℕ → Opening) → (bytes n own heights : ℕ) → Bytes → ℕ
opening way bytes n own heights leaders =
    refusal_number (open_call (way n) (replicate bytes 9) n own heights leaders).answer

-- the same by document 01's way and by weights of 1
both_ways : ((ℕ → Opening) → List ℕ) → List (List ℕ)
both_ways told = told (λ n. unweighed) ∷ told one_each ∷ []

-- 1 to 16 replicas; own numbers below n
replicas : both_ways (λ way. map (λ n. opening way 1456 n 0 1 (0 ∷ [])) (0 ∷ 1 ∷ 2 ∷ 15 ∷ 16 ∷ 17 ∷ 256 ∷ []) ++
    (map (λ own. opening way 1456 16 own 1 (0 ∷ [])) (0 ∷ 15 ∷ 16 ∷ 17 ∷ []) ++
    map (λ own. opening way 1456 1 own 1 (0 ∷ [])) (0 ∷ 1 ∷ []))) ≡
    replicate 2
    (2 ∷ 0 ∷ 0 ∷ 0 ∷ 0 ∷ 2 ∷ 2 ∷
    0 ∷ 0 ∷ 2 ∷ 2 ∷
    0 ∷ 2 ∷ [])
unfolding state_tools opening both_ways
replicas = refl

-- 1 to 63 heights, each with a book of its length and a roll of its length
heights : both_ways (λ way. map (λ heights. opening way (576 + 880 * heights) 4 2 heights (zeros heights))
    (0 ∷ 1 ∷ 2 ∷ 62 ∷ 63 ∷ 64 ∷ 256 ∷ [])) ≡ replicate 2 (2 ∷ 0 ∷ 0 ∷ 0 ∷ 0 ∷ 2 ∷ 2 ∷ [])
unfolding state_tools opening both_ways
heights = refl

-- a roll of one leader fewer and one more; leader 4 of four, first, in the middle and last; leader 3
rolls : both_ways (λ way.
    opening way 3216 4 2 3 (0 ∷ 0 ∷ []) ∷ opening way 3216 4 2 3 (zeros 4) ∷ opening way 3216 4 2 3 [] ∷
    opening way 3216 4 2 3 (4 ∷ 0 ∷ 0 ∷ []) ∷ opening way 3216 4 2 3 (0 ∷ 4 ∷ 0 ∷ []) ∷
    opening way 3216 4 2 3 (0 ∷ 0 ∷ 4 ∷ []) ∷
    opening way 3216 4 2 3 (3 ∷ 3 ∷ 3 ∷ []) ∷ opening way 1456 16 2 1 (15 ∷ []) ∷
    opening way 1456 16 2 1 (16 ∷ []) ∷ []) ≡
    replicate 2
    (2 ∷ 2 ∷ 2 ∷
    2 ∷ 2 ∷ 2 ∷
    0 ∷ 0 ∷ 2 ∷ [])
unfolding state_tools opening both_ways
rolls = refl

-- the lengths beside the right one; those of other heights; 2 before 1
lengths : both_ways (λ way. map (λ bytes. opening way bytes 4 2 3 (0 ∷ 1 ∷ 2 ∷ []))
    (0 ∷ 2336 ∷ 3215 ∷ 3216 ∷ 3217 ∷ 4096 ∷ []) ++
    (opening way 3215 0 0 3 (zeros 3) ∷ opening way 3215 4 4 3 (zeros 3) ∷ opening way 575 4 2 0 [] ∷
    opening way 3215 4 2 3 (zeros 2) ∷
    opening way 3215 4 2 3 (zeros 2 ++ (4 ∷ [])) ∷ [])) ≡
    replicate 2
    (1 ∷ 1 ∷ 1 ∷ 0 ∷ 1 ∷ 1 ∷
    2 ∷ 2 ∷ 2 ∷ 2 ∷
    2 ∷ [])
unfolding state_tools opening both_ways
lengths = refl

-- c is 1, the edition 2 and each weight 1, and the rest is these values or zero, whatever bytes stood there
opened : (open_call (one_each 16) (replicate 3216 9) 16 13 3 (5 ∷ 15 ∷ 1 ∷ [])).book ≡
    16 ∷ 13 ∷ 3 ∷ 0 ∷ 1 ∷ 0 ∷ 0 ∷ 2 ∷
    (one_bytes 16 ++ (zeros 536 ++ (5 ∷ (zeros 15 ++ (15 ∷ (zeros 15 ++ (1 ∷ zeros 2607)))))))
unfolding state_tools
opened = refl

-- as document 01 opens the edition is 1, and there are no weights
opened_first : (open_call unweighed (replicate 3216 9) 16 13 3 (5 ∷ 15 ∷ 1 ∷ [])).book ≡
    16 ∷ 13 ∷ 3 ∷ 0 ∷ 1 ∷ 0 ∷ 0 ∷ 1 ∷ (zeros 568 ++ (5 ∷ (zeros 15 ++ (15 ∷ (zeros 15 ++ (1 ∷ zeros 2607))))))
unfolding state_tools
opened_first = refl

-- a refused opening leaves the bytes
refused : (open_call (one_each 4) (replicate 1456 9) 4 4 1 (0 ∷ [])).book ∷
    (open_call unweighed (replicate 1456 9) 4 4 1 (0 ∷ [])).book ∷ [] ≡ replicate 2 (replicate 1456 9)
unfolding state_tools
refused = refl
