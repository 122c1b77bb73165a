-- The schedule as an array that is filled from the front, and its next word by the sums that the code forms. Assumes
-- nothing.
use Rattle.std.specs.Prelude.{◌≡◌, ℕ, ◌+◌, ◌-◌, ◌%◌, ◌^◌, ◌<◌, List, [], ◌∷◌, ◌++◌, length, take, slice_index, slice_set}
use Rattle.std.proofs.Common.{ap₂, ◌∙◌, add-one, take-suc-set}
use Rattle.sha256_functions.specs.Bytes.{Bytes}
use Rattle.sha256_functions.specs.Words.{add}
use Rattle.sha256_functions.specs.Functions.{σ0, σ1}
use Rattle.sha256_schedule.specs.Schedule.{message_word, message_words, next_word}

-- one more word of the block
pub words_more : (block : Bytes) (W : List ℕ) (t v : ℕ) → t < length W → take t W ≡ message_words block t →
    v ≡ message_word block t
    → take (t + 1) (slice_set W t v) ≡ message_words block (t + 1)
unfolding message_words
words_more block W t v h e p = rw add-one (take-suc-set W t v h ∙ ap₂ (λ (l : List ℕ) (x : ℕ). l ++ (x ∷ [])) e p)

-- the sums of the next word, each from the one before it
pub next_by : (W : List ℕ) (t : ℕ) {s₁ first s₀ second r : ℕ} → s₁ ≡ σ1 (slice_index W (t - 2)) →
    first ≡ (s₁ + slice_index W (t - 7)) % 2 ^ 32 → s₀ ≡ σ0 (slice_index W (t - 15)) → second ≡ (first + s₀) % 2 ^ 32 →
    r ≡ (second + slice_index W (t - 16)) % 2 ^ 32 → r ≡ next_word W t
unfolding next_word add
next_by W t p₁ p₂ p₃ p₄ p₅ = cc
