-- Rounds in groups add up to the standard's rounds, and the array that is extended beside them to its schedule. Assumes
-- nothing.
use Rattle.std.specs.Prelude.{◌≡◌, ℕ, zero, suc, ◌+◌, ◌-◌, ◌*◌, ◌<◌, ◌≤◌, ◌≢◌, List, [], ◌∷◌, ◌++◌, length, take, set, slice_index, slice_index_or, slice_set}
use Rattle.std.proofs.Math.Path.{refl, sym, ap, ap₂}
use Rattle.std.proofs.Common.{◌∙◌, add-suc, zero-add, add_assoc, length-set, get_or-take, get_or-set_other, take_all}
use Rattle.std.proofs.Math.Nat.{add-zero}
use native.Mathlib.Omega.{arith}
use Rattle.std.proofs.Math.Seq.{take-suc-set}
use Rattle.sha256.specs.Bytes.{Bytes}
use Rattle.sha256_rounds.specs.Constants.{K}
use Rattle.sha256_schedule.specs.Schedule.{message_words, next_word, schedule_to, schedule}
use Rattle.sha256_rounds.specs.Rounds.{round, rounds}
use Rattle.sha256.specs.Compression.{add_words, compression}
use Rattle.sha256.specs.Steps.{rounds_from, extended_from}

-- ---- one step more

pub extended_more : (W before after : List ℕ) (t n u : ℕ) → u ≡ t + n → before ≡ extended_from W t n
    → after ≡ slice_set before (16 + u) (next_word before (16 + u)) → after ≡ extended_from W t (suc n)
unfolding extended_from
extended_more W before after t n u e p q = q ∙ ap₂ (λ (l : List ℕ) (v : ℕ). set l (16 + v) (next_word l (16 + v))) p e

-- extending leaves the words that are there
kept : (W : List ℕ) (t n j : ℕ) → j < 16 + t → slice_index (extended_from W t n) j ≡ slice_index W j
unfolding extended_from
kept W t zero j h = refl
kept W t (suc n) j h =
    let other : j ≢ 16 + (t + n) = omega arith in
    get_or-set_other (extended_from W t n) (16 + (t + n)) j (next_word (extended_from W t n) (16 + (t + n))) 0 other
    ∙ kept W t n j h

pub rounds_more : (k W before s r r' : List ℕ) (t n u : ℕ) → u ≡ t + n → n < 16 → before ≡ extended_from W t n →
    r ≡ rounds_from k W s t n
    → r' ≡ round (slice_index k u) (slice_index before u) r → r' ≡ rounds_from k W s t (suc n)
unfolding rounds_from
rounds_more k W before s r r' t n u e h p q x =
    let there : slice_index_or before u 0 ≡ slice_index_or W (t + n) 0 = ap₂ (λ (l : List ℕ) (v : ℕ). slice_index l v) p e
    ∙ kept W t n (t + n) (omega arith) in
    x ∙ ap₂ (λ (v : ℕ) (l : List ℕ). round (slice_index k v) (slice_index before u) l) e q
    ∙ ap (λ (v : ℕ). round (slice_index k (t + n)) v (rounds_from k W s t n)) there

-- ---- groups add up

pub extended_add : (W : List ℕ) (t m n : ℕ) → extended_from (extended_from W t m) (t + m) n ≡ extended_from W t (m + n)
unfolding extended_from
extended_add W t m zero = ap (extended_from W t) (sym (add-zero m))
extended_add W t m (suc n) =
    sym
    (ap (extended_from W t) (add-suc m n)
    ∙ sym (extended_more W (extended_from (extended_from W t m) (t + m) n)
    (extended_from (extended_from W t m) (t + m) (suc n)) t (m + n) (t + m + n) (add_assoc t m n)
    (extended_add W t m n) refl))

pub rounds_add : (k W s : List ℕ) (t m n : ℕ) → rounds_from k W (rounds_from k W s t m) (t + m) n ≡ rounds_from k W s t
    (m + n)
unfolding rounds_from
rounds_add k W s t m zero = ap (rounds_from k W s t) (sym (add-zero m))
rounds_add k W s t m (suc n) =
    ap₂ (λ (v : ℕ) (l : List ℕ). round (slice_index k v) (slice_index W v) l) (add_assoc t m n) (rounds_add k W s t m n)
    ∙ ap (rounds_from k W s t) (sym (add-suc m n))

-- rounds read no words but their own
pub rounds_agree : (k W W' s : List ℕ) (t n : ℕ) → ((j : ℕ) → j < t + n → slice_index W j ≡ slice_index W' j) →
    rounds_from k W s t n ≡ rounds_from k W' s t n
unfolding rounds_from
rounds_agree k W W' s t zero h = refl
rounds_agree k W W' s t (suc n) h =
    ap₂ (λ (v : ℕ) (l : List ℕ). round (slice_index k (t + n)) v l) (h (t + n) (omega arith))
    (rounds_agree k W W' s t n (λ j lt. h j (omega arith)))

-- a word that is there is the one that is there in the end
settled : (W : List ℕ) (m n j : ℕ) → j < 16 + m → slice_index (extended_from W 0 m) j ≡ slice_index (extended_from W 0 (m + n)) j
settled W m n j h =
    sym
    (ap (λ (l : List ℕ). slice_index l j) (sym (extended_add W 0 m n)
    ∙ ap (λ (u : ℕ). extended_from (extended_from W 0 m) u n) (zero-add m))
    ∙ kept (extended_from W 0 m) m n j h)

-- ---- four steps to a turn, and the turns of a loop

-- four steps, as four calls leave the array and the eight words
pub record FourSteps (k W s : List ℕ) (t : ℕ) (after r : List ℕ) : Type 0 where
  pub words : after ≡ extended_from W t 4
  pub state : r ≡ rounds_from k W s t 4

module _ (k W s : List ℕ) (t : ℕ) where
  pub start_words : W ≡ extended_from W t 0
  unfolding extended_from
  start_words = refl

  pub start_state_lem : s ≡ rounds_from k W s t 0
  unfolding rounds_from
  start_state_lem = refl

  pub four_rounds : (s₁ s₂ s₃ s₄ : List ℕ) → s₁ ≡ round (slice_index k t) (slice_index W t) s →
      s₂ ≡ round (slice_index k (t + 1)) (slice_index W (t + 1)) s₁
      → s₃ ≡ round (slice_index k (t + 2)) (slice_index W (t + 2)) s₂ → s₄ ≡ round (slice_index k (t + 3)) (slice_index W (t + 3)) s₃ →
      s₄ ≡ rounds_from k W s t 4
  unfolding rounds_from
  four_rounds s₁ s₂ s₃ s₄ p q r x = rw add-zero (cc)

  pub four_steps : (W₁ W₂ W₃ W₄ s₁ s₂ s₃ s₄ : List ℕ)
      → s₁ ≡ round (slice_index k t) (slice_index W t) s → W₁ ≡ slice_set W (16 + t) (next_word W (16 + t))
      → s₂ ≡ round (slice_index k (t + 1)) (slice_index W₁ (t + 1)) s₁ → W₂ ≡ slice_set W₁ (16 + (t + 1)) (next_word W₁ (16 + (t + 1)))
      → s₃ ≡ round (slice_index k (t + 2)) (slice_index W₂ (t + 2)) s₂ → W₃ ≡ slice_set W₂ (16 + (t + 2)) (next_word W₂ (16 + (t + 2)))
      → s₄ ≡ round (slice_index k (t + 3)) (slice_index W₃ (t + 3)) s₃ → W₄ ≡ slice_set W₃ (16 + (t + 3)) (next_word W₃ (16 + (t + 3)))
      → FourSteps k W s t W₄ s₄
  four_steps W₁ W₂ W₃ W₄ s₁ s₂ s₃ s₄ p₁ q₁ p₂ q₂ p₃ q₃ p₄ q₄ =
      let e₀ : t ≡ t + 0 = sym (add-zero t) in
      let w₁ : W₁ ≡ extended_from W t 1 = extended_more W W W₁ t 0 t e₀ start_words q₁ in
      let w₂ : W₂ ≡ extended_from W t 2 = extended_more W W₁ W₂ t 1 (t + 1) refl w₁ q₂ in
      let w₃ : W₃ ≡ extended_from W t 3 = extended_more W W₂ W₃ t 2 (t + 2) refl w₂ q₃ in
      let r₁ : s₁ ≡ rounds_from k W s t 1 = rounds_more k W W s s s₁ t 0 t e₀ (omega arith) start_words start_state_lem p₁ in
      let r₂ : s₂ ≡ rounds_from k W s t 2 = rounds_more k W W₁ s s₁ s₂ t 1 (t + 1) refl (omega arith) w₁ r₁ p₂ in
      let r₃ : s₃ ≡ rounds_from k W s t 3 = rounds_more k W W₂ s s₂ s₃ t 2 (t + 2) refl (omega arith) w₂ r₂ p₃ in
      record {
        words = extended_more W W₃ W₄ t 3 (t + 3) refl w₃ q₄;
        state = rounds_more k W W₃ s s₃ s₄ t 3 (t + 3) refl (omega arith) w₃ r₃ p₄;
      }

-- a turn of the loop over the first 48 rounds: i turns are done, with the array W at first
pub turn_words : (W before after : List ℕ) (i : ℕ) → before ≡ extended_from W 0 (4 * i) →
    after ≡ extended_from before (4 * i) 4
    → after ≡ extended_from W 0 (4 * (i + 1))
turn_words W before after i p q =
    let e : 4 * i + 4 ≡ 4 * (i + 1) = omega arith in
    q ∙ ap₂ (λ (l : List ℕ) (u : ℕ). extended_from l u 4) p (sym (zero-add (4 * i))) ∙ extended_add W 0 (4 * i) 4
    ∙ ap (extended_from W 0) e

-- the rounds of a turn, with words that agree with all of W below the turn's end; the loop started at round t
pub turn_rounds : (k W words s r r' : List ℕ) (t i u : ℕ) → u ≡ t + 4 * i →
    ((j : ℕ) → j < u + 4 → slice_index words j ≡ slice_index W j)
    → r ≡ rounds_from k W s t (4 * i) → r' ≡ rounds_from k words r u 4 → r' ≡ rounds_from k W s t (4 * (i + 1))
turn_rounds k W words s r r' t i u e h p q =
    let four : 4 * i + 4 ≡ 4 * (i + 1) = omega arith in
    q ∙ rounds_agree k words W r u 4 h
    ∙ ap₂ (λ (l : List ℕ) (v : ℕ). rounds_from k W l v 4) p e
    ∙ rounds_add k W s t (4 * i) 4 ∙ ap (rounds_from k W s t) four

-- in such a turn the array agrees with what it is in the end
pub turn_agrees : (W before : List ℕ) (i : ℕ) → i < 12 → before ≡ extended_from W 0 (4 * i) → (j : ℕ) → j < 4 * i + 4
    → slice_index before j ≡ slice_index (extended_from W 0 48) j
turn_agrees W before i h p j lt =
    let e : 4 * i + (48 - 4 * i) ≡ 48 = omega arith in
    ap (λ (l : List ℕ). slice_index l j) p ∙ settled W (4 * i) (48 - 4 * i) j (omega arith)
    ∙ ap (λ (n : ℕ). slice_index (extended_from W 0 n) j) e

-- ---- the whole

extended_length : (W : List ℕ) (t n : ℕ) → length (extended_from W t n) ≡ length W
unfolding extended_from
extended_length W t zero = refl
extended_length W t (suc n) =
    length-set (extended_from W t n) (16 + (t + n)) (next_word (extended_from W t n) (16 + (t + n)))
    ∙ extended_length W t n

-- the next word reads no words but those before it
next_agree : (W W' : List ℕ) (t : ℕ) → 16 ≤ t → ((j : ℕ) → j < t → slice_index W j ≡ slice_index W' j) →
    next_word W t ≡ next_word W' t
unfolding next_word
next_agree W W' t h agree =
    let e₂ = agree (t - 2) (omega arith) in
    let e₇ = agree (t - 7) (omega arith) in
    let e₁₅ = agree (t - 15) (omega arith) in
    let e₁₆ = agree (t - 16) (omega arith) in
    cc

module _ (block : Bytes) (W : List ℕ) (long : length W ≡ 64) (first : take 16 W ≡ message_words block 16) where
  scheduled_to : (n : ℕ) → n ≤ 48 → take (16 + n) (extended_from W 0 n) ≡ schedule_to block n
  unfolding extended_from schedule_to
  scheduled_to zero h = first
  scheduled_to (suc n) h =
      let before = extended_from W 0 n in
      let ih : take (16 + n) before ≡ schedule_to block n = scheduled_to n (omega arith) in
      let at : 16 + (0 + n) ≡ 16 + n = omega arith in
      let room : 16 + n < length before = omega (arith, extended_length W 0 n) in
      let next : next_word before (16 + n) ≡ next_word (schedule_to block n) (16 + n) =
      next_agree before (schedule_to block n) (16 + n) (omega arith)
      (λ j lt. sym (get_or-take (16 + n) before j 0 lt) ∙ ap (λ (l : List ℕ). slice_index l j) ih) in
      ap₂ (λ (m i : ℕ). take m (slice_set before i (next_word before i))) (add-suc 16 n) at
      ∙ take-suc-set before (16 + n) (next_word before (16 + n)) room
      ∙ ap₂ (λ (l : List ℕ) (v : ℕ). l ++ (v ∷ [])) ih next

  pub scheduled : extended_from W 0 48 ≡ schedule block
  unfolding schedule
  scheduled = sym (take_all 64 (extended_from W 0 48) (omega (arith, extended_length W 0 48)))
      ∙ scheduled_to 48 (omega arith)

from_zero : (W s : List ℕ) (n : ℕ) → rounds_from K W s 0 n ≡ rounds s W n
unfolding rounds_from rounds
from_zero W s zero = refl
from_zero W s (suc n) =
    ap₂ (λ (t : ℕ) (l : List ℕ). round (slice_index K t) (slice_index W t) l) (zero-add n) (from_zero W s n)

-- the first 48 rounds and the last 16 are the standard's 64
pub all_rounds : (k W s r r' : List ℕ) → k ≡ K → r ≡ rounds_from k W s 0 48 → r' ≡ rounds_from k W r 48 16 →
    r' ≡ rounds s W 64
all_rounds k W s r r' e p q =
    q ∙ ap₂ (λ (c l : List ℕ). rounds_from c W l 48 16) e (p ∙ ap (λ (c : List ℕ). rounds_from c W s 0 48) e)
    ∙ rounds_add K W s 0 48 16 ∙ from_zero W s 64

-- the parts of the compression, joined
pub compressed : (block : Bytes) (W₀ W k hash middle s r : List ℕ) → length W₀ ≡ 64 →
    take 16 W₀ ≡ message_words block 16 → k ≡ K
    → middle ≡ rounds_from k W hash 0 48 → W ≡ extended_from W₀ 0 48 → s ≡ rounds_from k W middle 48 16 →
    r ≡ add_words s hash → r ≡ compression hash block
unfolding compression
compressed block W₀ W k hash middle s r long first constants p words q x =
    x ∙ ap (λ (l : List ℕ). add_words l hash)
    (all_rounds k W hash middle s constants p q ∙ ap (λ (l : List ℕ). rounds hash l 64)
    (words ∙ scheduled block W₀ long first))
