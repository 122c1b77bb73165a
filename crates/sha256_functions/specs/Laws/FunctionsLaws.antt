-- The six functions by fewer operations, as the code computes them: laws of bits checked at each digit, and rotations
-- nested in one another. Assumes nothing.
use Rattle.std.specs.Prelude.{◌≡◌, refl, ℕ, zero, suc, ◌+◌, ◌-◌, ◌/◌, ◌%◌, ◌^◌, ◌≤◌, ◌<◌}
use Rattle.std.proofs.Common.{sym, ap₂, ◌∙◌, mod-eq_of_lt, arith}
use Rattle.std.proofs.Math.Path.{ap}
use Rattle.std.proofs.Math.Arith.{half_le}
use Rattle.std.specs.Int.Bits.{bit_and}
use Rattle.std.proofs.lemmas.Nat.{and_mask, and_comm}
use Rattle.sha256_functions.specs.Words.{◌&◌, ◌⊕◌, complement, shr, rotr}
use Rattle.sha256_functions.specs.Laws.WordsLaws.{and_half, and_odd, xor_half, xor_odd, xor_word}
use Rattle.sha256_functions.specs.Laws.WordsLaws.{rotr_word, rotr_xor, rotr_rotr}
use Rattle.sha256_functions.specs.Functions.{Ch, Maj, Σ0, Σ1, σ0, σ1}

-- ---- two expressions in three numbers are equal where they are at the digits 0 and 1

-- an expression in three numbers
data Form : Type 0 where
  x y z : Form
  both differ : Form → Form → Form

abbrev value : Form → ℕ → ℕ → ℕ → ℕ
value x a b c = a
value y a b c = b
value z a b c = c
value (both f g) a b c = value f a b c & value g a b c
value (differ f g) a b c = value f a b c ⊕ value g a b c

half : (f : Form) (a b c : ℕ) → value f a b c / 2 ≡ value f (a / 2) (b / 2) (c / 2)
half x a b c = refl
half y a b c = refl
half z a b c = refl
half (both f g) a b c = and_half (value f a b c) (value g a b c) ∙ ap₂ ◌&◌ (half f a b c) (half g a b c)
half (differ f g) a b c = xor_half (value f a b c) (value g a b c) ∙ ap₂ ◌⊕◌ (half f a b c) (half g a b c)

odd : (f : Form) (a b c : ℕ) → value f a b c % 2 ≡ value f (a % 2) (b % 2) (c % 2)
odd x a b c = refl
odd y a b c = refl
odd z a b c = refl
odd (both f g) a b c = and_odd (value f a b c) (value g a b c) ∙ ap₂ ◌&◌ (odd f a b c) (odd g a b c)
odd (differ f g) a b c = xor_odd (value f a b c) (value g a b c) ∙ ap₂ ◌⊕◌ (odd f a b c) (odd g a b c)

-- what is so of each triple of digits
abbrev Digits : (ℕ → ℕ → ℕ → Type 0) → Type 0
Digits p = p 0 0 0 × p 0 0 1 × p 0 1 0 × p 0 1 1 × p 1 0 0 × p 1 0 1 × p 1 1 0 × p 1 1 1

at_digits : (p : ℕ → ℕ → ℕ → Type 0) → Digits p → (a b c : ℕ) → a < 2 → b < 2 → c < 2 → p a b c
at_digits p d zero zero zero ha hb hc = d.0
at_digits p d zero zero (suc zero) ha hb hc = d.1
at_digits p d zero (suc zero) zero ha hb hc = d.2
at_digits p d zero (suc zero) (suc zero) ha hb hc = d.3
at_digits p d (suc zero) zero zero ha hb hc = d.4
at_digits p d (suc zero) zero (suc zero) ha hb hc = d.5
at_digits p d (suc zero) (suc zero) zero ha hb hc = d.6
at_digits p d (suc zero) (suc zero) (suc zero) ha hb hc = d.7
at_digits p d zero zero (suc (suc c)) ha hb hc = absurd (omega arith)
at_digits p d zero (suc zero) (suc (suc c)) ha hb hc = absurd (omega arith)
at_digits p d zero (suc (suc b)) c ha hb hc = absurd (omega arith)
at_digits p d (suc zero) zero (suc (suc c)) ha hb hc = absurd (omega arith)
at_digits p d (suc zero) (suc zero) (suc (suc c)) ha hb hc = absurd (omega arith)
at_digits p d (suc zero) (suc (suc b)) c ha hb hc = absurd (omega arith)
at_digits p d (suc (suc a)) b c ha hb hc = absurd (omega arith)

-- a number by its half and its last digit
halves : (a b : ℕ) → a / 2 ≡ b / 2 → a % 2 ≡ b % 2 → a ≡ b
halves a b p q = omega arith

module _ (f g : Form) (d : Digits (λ a b c. value f a b c ≡ value g a b c)) where
  below : (n a b c : ℕ) → a ≤ n → b ≤ n → c ≤ n → value f a b c ≡ value g a b c
  below zero a b c ha hb hc = at_digits (λ a b c. value f a b c ≡ value g a b c) d a b c (omega arith) (omega arith)
      (omega arith)
  below (suc n) a b c ha hb hc =
      halves (value f a b c) (value g a b c)
      (half f a b c ∙ below n (a / 2) (b / 2) (c / 2) (half_le ha) (half_le hb) (half_le hc) ∙ sym (half g a b c))
      (odd f a b c ∙ at_digits (λ a b c. value f a b c ≡ value g a b c) d (a % 2) (b % 2) (c % 2) (omega arith)
      (omega arith) (omega arith) ∙ sym (odd g a b c))

  same : (a b c : ℕ) → value f a b c ≡ value g a b c
  same a b c = below (a + b + c) a b c (omega arith) (omega arith) (omega arith)

-- ---- the laws of bits

pub xor_assoc : (a b c : ℕ) → a ⊕ b ⊕ c ≡ a ⊕ (b ⊕ c)
unfolding ◌⊕◌
xor_assoc = same (differ (differ x y) z) (differ x (differ y z)) (refl, refl, refl, refl, refl, refl, refl, refl)

pub maj_is : (a b c : ℕ) → b ⊕ ((a ⊕ b) & (b ⊕ c)) ≡ Maj a b c
unfolding Maj ◌⊕◌ ◌&◌
maj_is =
    same (differ y (both (differ x y) (differ y z))) (differ (differ (both x y) (both x z)) (both y z))
    (refl, refl, refl, refl, refl, refl, refl, refl)

distributed : (a m c : ℕ) → (a ⊕ m) & c ≡ (a & c) ⊕ (m & c)
unfolding ◌⊕◌ ◌&◌
distributed = same (both (differ x y) z) (differ (both x z) (both y z)) (refl, refl, refl, refl, refl, refl, refl, refl)

chosen : (a b c : ℕ) → c ⊕ (a & (b ⊕ c)) ≡ (a & b) ⊕ ((a & c) ⊕ c)
unfolding ◌⊕◌ ◌&◌
chosen =
    same (differ z (both x (differ y z))) (differ (both x y) (differ (both x z) z))
    (refl, refl, refl, refl, refl, refl, refl, refl)

-- a word is kept by AND with 32 ones
kept : (m c : ℕ) → m ≡ 2 ^ 32 - 1 → c < 2 ^ 32 → m & c ≡ c
unfolding ◌&◌
kept m c e h = and_comm m c ∙ ap (bit_and c) e ∙ and_mask c 32 ∙ mod-eq_of_lt h

flipped : (a m c : ℕ) → m ≡ 2 ^ 32 - 1 → c < 2 ^ 32 → (a ⊕ m) & c ≡ (a & c) ⊕ c
flipped a m c e h = distributed a m c ∙ ap (λ (v : ℕ). (a & c) ⊕ v) (kept m c e h)

pub ch_is : (a b c : ℕ) → c < 2 ^ 32 → c ⊕ (a & (b ⊕ c)) ≡ Ch a b c
unfolding Ch complement
ch_is a b c h = chosen a b c ∙ ap (λ (v : ℕ). (a & b) ⊕ v) (sym (flipped a (2 ^ 32 - 1) c refl h))

-- ---- rotations nested in one another

module _ (w : ℕ) (h : w < 2 ^ 32) where
  two_turns : (c b : ℕ) → b + c ≤ 32 → rotr c (w ⊕ rotr b w) ≡ rotr c w ⊕ rotr (b + c) w
  two_turns c b le =
      rotr_xor c w (rotr b w) (omega arith) h (rotr_word b w (omega arith) h)
      ∙ ap (λ (v : ℕ). rotr c w ⊕ v) (rotr_rotr b c w le h)

  three_turns : (c b a : ℕ) → a + (b + c) ≤ 32 → rotr c (w ⊕ rotr b (w ⊕ rotr a w)) ≡ rotr c w ⊕ rotr (b + c) w ⊕ rotr
      (a + (b + c)) w
  three_turns c b a le =
      let inner = w ⊕ rotr a w in
      let small : inner < 2 ^ 32 = xor_word w (rotr a w) h (rotr_word a w (omega arith) h) in
      rotr_xor c w (rotr b inner) (omega arith) h (rotr_word b inner (omega arith) small)
      ∙ ap (λ (v : ℕ). rotr c w ⊕ v) (rotr_rotr b c inner (omega arith) small ∙ two_turns (b + c) a le)
      ∙ sym (xor_assoc (rotr c w) (rotr (b + c) w) (rotr (a + (b + c)) w))

  pub Σ0-is : rotr 2 (w ⊕ rotr 11 (w ⊕ rotr 9 w)) ≡ Σ0 w
  unfolding Σ0
  Σ0-is = three_turns 2 11 9 (omega arith)

  pub Σ1-is : rotr 6 (w ⊕ rotr 5 (w ⊕ rotr 14 w)) ≡ Σ1 w
  unfolding Σ1
  Σ1-is = three_turns 6 5 14 (omega arith)

  pub σ0_is : rotr 7 (w ⊕ rotr 11 w) ⊕ shr 3 w ≡ σ0 w
  unfolding σ0
  σ0_is = ap (λ (v : ℕ). v ⊕ shr 3 w) (two_turns 7 11 (omega arith))

  pub σ1_is : rotr 17 (w ⊕ rotr 2 w) ⊕ shr 10 w ≡ σ1 w
  unfolding σ1
  σ1_is = ap (λ (v : ℕ). v ⊕ shr 10 w) (two_turns 17 2 (omega arith))
