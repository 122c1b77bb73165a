-- The rows on n, edition, weights and unused bytes of a head, as code reads them.
use Rattle.std.specs.Prelude.{ℕ, zero, suc, ◌+◌, ◌-◌, ◌*◌, ◌≤◌, ◌≡◌, refl, Bool, true, false, ◌&&◌, List, [], ◌∷◌, map, length, take, drop, eqb, leb}
use Rattle.std.proofs.Common.{arith, le_of_suc-le-suc, not-suc-le-zero, zero-add, suc-add, sym, ap, ap₂, ◌∙◌, length-drop, drop-drop, ne_eqb}
use Rattle.std.proofs.Math.Bool.{and-true, and-false, and_assoc}
use Rattle.std.proofs.lemmas.List.{length-replicate}
use Rattle.protocol.specs.Bytes.{Bytes, byte_at, word16, part, all, is_zero, pieces}
use Rattle.protocol.specs.Tests.{in_range}
use Rattle.protocol.specs.State.{words, evenly, maximum_weight}
use Rattle.protocol.specs.Sound.{weights_fit}
use Rattle.protocol.specs.Open.{unweighed, opened_weights, weights_in_range}
use Rattle.protocol.proofs.Laws.NewStateLaws.{opened_setting}

-- ---- numbers of two bytes
pub words_take : (n count : ℕ) (bytes : Bytes) → n ≤ count → take n (words count bytes) ≡ words n bytes
unfolding words pieces
words_take zero count bytes h = refl
words_take (suc n) zero bytes h = absurd (not-suc-le-zero h)
words_take (suc n) (suc count) bytes h =
    ap (λ (l : List ℕ). word16 (take 2 bytes) 0 ∷ l) (words_take n count (drop 2 bytes) (le_of_suc-le-suc h))

pub words_drop : (n k : ℕ) (bytes : Bytes) → drop n (words (n + k) bytes) ≡ words k (drop (2 * n) bytes)
unfolding words pieces
words_drop zero k bytes = rw zero-add
words_drop (suc n) k bytes =
    let more : suc n + k ≡ suc (n + k) = omega arith in
    let place : 2 * suc n ≡ 2 + 2 * n = omega arith in
    rw (more, place) (words_drop n k (drop 2 bytes) ∙ rw (drop-drop (2 * n) 2 bytes))

word_zero : (a b : ℕ) → eqb (a + 256 * b) 0 ≡ (eqb a 0 && eqb b 0)
word_zero a zero = let same : a + 256 * 0 ≡ a = omega arith in rw same (sym (and-true (eqb a 0)))
word_zero a (suc b) =
    rw (ne_eqb (a + 256 * suc b) 0 (λ e. omega arith), ne_eqb (suc b) 0 (λ e. omega arith)) (sym (and-false (eqb a 0)))

word_none : (a b : ℕ) → eqb (word16 (a ∷ b ∷ []) 0) 0 ≡ (eqb a 0 && eqb b 0)
unfolding word16
word_none a b = word_zero a b

pub words_zero : (count : ℕ) (bytes : Bytes) → length bytes ≡ 2 * count → is_zero (words count bytes) ≡ is_zero bytes
unfolding words pieces is_zero all
words_zero zero [] e = refl
words_zero zero (a ∷ rest) e = absurd (omega arith)
words_zero (suc count) [] e = absurd (omega arith)
words_zero (suc count) (a ∷ []) e = absurd (omega arith)
words_zero (suc count) (a ∷ b ∷ rest) e =
    rw (words_zero count rest (omega arith))
    (ap (λ (t : Bool). t && is_zero rest) (word_none a b) ∙ and_assoc (eqb a 0) (eqb b 0) (is_zero rest))

-- ---- the row on weights
-- where a head has none, every replica weighs 1
pub even_fits : (n : ℕ) → n ≤ 16 → weights_fit n (evenly n) ≡ true
unfolding evenly opened_weights
even_fits n high = (opened_setting unweighed n high (unfold weights_in_range in refl)).weights_row_lem

-- where it has 32 bytes of them: those that are there are in range, and the others zero
pub words_fit : (n : ℕ) (area : Bytes) → n ≤ 16 → length area ≡ 32 →
    weights_fit n (words 16 area) ≡ (all (λ w. in_range 1 maximum_weight w) (words n area) && is_zero (drop (2 * n) area))
unfolding weights_fit
words_fit n area high long =
    let whole : 16 ≡ n + (16 - n) = omega arith in
    let back : drop n (words 16 area) ≡ words (16 - n) (drop (2 * n) area) =
    ap (λ (k : ℕ). drop n (words k area)) whole ∙ words_drop n (16 - n) area in
    rw (words_take n 16 area high, back, words_zero (16 - n) (drop (2 * n) area) (rw length-drop (omega arith)))
