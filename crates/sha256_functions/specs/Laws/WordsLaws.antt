-- Laws of the operations on words: AND and XOR go digit by digit, and a rotation is a sum of two parts that moves along
-- XOR and adds up. Assumes nothing.
use Rattle.std.specs.Prelude.{◌≡◌, ℕ, ◌+◌, ◌-◌, ◌*◌, ◌/◌, ◌%◌, ◌^◌, ◌≤◌, ◌<◌}
use Rattle.std.proofs.Math.Path.{sym, ap, ap₂}
use Rattle.std.proofs.Common.{◌∙◌, subst, add_comm, add-mul, mul_assoc, mod-lt, add-zero, arith, pow_pos, pow-add, shr_lt, shr-shr}
use Rattle.std.proofs.Math.Nat.{add-mul-div_right, mul-mod_left}
use Rattle.std.proofs.Math.Arith.{digits_lt}
use Rattle.std.proofs.lemmas.Nat.{shl-shr, mod-pow-add, and_shr, xor_shr, and_mod, xor_mod, xor_block, xor_lt}
use Rattle.std.proofs.Math.Pow.{low, mod-mod-pow}
use Rattle.std.specs.Int.Bits.{bit_or, bit_xor, or_shifted_r}
use Rattle.sha256_functions.specs.Words.{◌&◌, ◌⊕◌, shl, shr, rotr}

-- ---- digit by digit

pub and_half : (a b : ℕ) → (a & b) / 2 ≡ (a / 2) & (b / 2)
unfolding ◌&◌
and_half a b = and_shr a b 1

pub and_odd : (a b : ℕ) → (a & b) % 2 ≡ (a % 2) & (b % 2)
unfolding ◌&◌
and_odd a b = and_mod a b 1

pub xor_half : (a b : ℕ) → (a ⊕ b) / 2 ≡ (a / 2) ⊕ (b / 2)
unfolding ◌⊕◌
xor_half a b = xor_shr a b 1

pub xor_odd : (a b : ℕ) → (a ⊕ b) % 2 ≡ (a % 2) ⊕ (b % 2)
unfolding ◌⊕◌
xor_odd a b = xor_mod a b 1

pub xor_word : (a b : ℕ) → a < 2 ^ 32 → b < 2 ^ 32 → a ⊕ b < 2 ^ 32
unfolding ◌⊕◌
xor_word a b ha hb = xor_lt 32 a b ha hb

-- ---- a rotation by n of a word of n + m bits, as a sum

turn : ℕ → ℕ → ℕ → ℕ
turn n m x = (x % 2 ^ n) * 2 ^ m + x / 2 ^ n

upper_lt : (n m x : ℕ) → x < 2 ^ (n + m) → x / 2 ^ n < 2 ^ m
upper_lt n m x h = shr_lt m n (subst (λ (e : ℕ). x < 2 ^ e) (add_comm n m) h)

turn_lt : (n m x : ℕ) → x < 2 ^ (n + m) → turn n m x < 2 ^ (n + m)
unfolding turn
turn_lt n m x h = rw pow-add (digits_lt (mod-lt x (pow_pos n)) (upper_lt n m x h))

turn_xor : (n m x y : ℕ) → x < 2 ^ (n + m) → y < 2 ^ (n + m) → turn n m (bit_xor x y) ≡ bit_xor (turn n m x) (turn n m y)
unfolding turn
turn_xor n m x y hx hy =
    ap₂ (λ (u v : ℕ). u * 2 ^ m + v) (xor_mod x y n) (xor_shr x y n)
    ∙ sym (xor_block m (x % 2 ^ n) (y % 2 ^ n) (x / 2 ^ n) (y / 2 ^ n) (upper_lt n m x hx) (upper_lt n m y hy))

regroup : (a b c : ℕ) → a + (b + c) ≡ a + c + b
regroup a b c = omega arith

-- what is left of a turned word after a second turn's cut: the lower part of the first turn's upper part, and the rest
module _ (n j m x : ℕ) (h : x < 2 ^ (n + (j + m))) where
  turned_low : turn n (j + m) x % 2 ^ j ≡ x / 2 ^ n % 2 ^ j
  unfolding turn
  turned_low =
      ap (λ (e : ℕ). ((x % 2 ^ n) * 2 ^ e + x / 2 ^ n) % 2 ^ j) (add_comm j m)
      ∙ sym (mod-mod-pow ((x % 2 ^ n) * 2 ^ (m + j) + x / 2 ^ n) m j)
      ∙ ap (λ (y : ℕ). y % 2 ^ j) (low (x % 2 ^ n) (m + j)
      (subst (λ (e : ℕ). x / 2 ^ n < 2 ^ e) (add_comm j m) (upper_lt n (j + m) x h)))

  turned_high : turn n (j + m) x / 2 ^ j ≡ x / 2 ^ n / 2 ^ j + (x % 2 ^ n) * 2 ^ m
  unfolding turn
  turned_high =
      ap (λ (y : ℕ). y / 2 ^ j)
      (add_comm ((x % 2 ^ n) * 2 ^ (j + m)) (x / 2 ^ n)
      ∙ ap (λ (y : ℕ). x / 2 ^ n + y)
      (ap (λ (e : ℕ). (x % 2 ^ n) * 2 ^ e) (add_comm j m) ∙ ap (λ (y : ℕ). (x % 2 ^ n) * y) (pow-add 2 m j)
      ∙ sym (mul_assoc (x % 2 ^ n) (2 ^ m) (2 ^ j))))
      ∙ add-mul-div_right (x / 2 ^ n) ((x % 2 ^ n) * 2 ^ m) (pow_pos j)

  whole_low : (x % 2 ^ (n + j)) * 2 ^ m ≡ (x / 2 ^ n % 2 ^ j) * 2 ^ (n + m) + (x % 2 ^ n) * 2 ^ m
  whole_low =
      ap (λ (e : ℕ). (x % 2 ^ e) * 2 ^ m) (add_comm n j) ∙ ap (λ (y : ℕ). y * 2 ^ m) (mod-pow-add x j n)
      ∙ add-mul ((x / 2 ^ n % 2 ^ j) * 2 ^ n) (x % 2 ^ n) (2 ^ m)
      ∙ ap (λ (y : ℕ). y + (x % 2 ^ n) * 2 ^ m)
      (mul_assoc (x / 2 ^ n % 2 ^ j) (2 ^ n) (2 ^ m) ∙ ap (λ (y : ℕ). (x / 2 ^ n % 2 ^ j) * y) (sym (pow-add 2 n m)))

  turn_turn : turn j (n + m) (turn n (j + m) x) ≡ turn (n + j) m x
  turn_turn = parts (turn n (j + m) x) turned_low turned_high
    where
      parts : (y : ℕ) → y % 2 ^ j ≡ x / 2 ^ n % 2 ^ j → y / 2 ^ j ≡ x / 2 ^ n / 2 ^ j + (x % 2 ^ n) * 2 ^ m →
          turn j (n + m) y ≡ turn (n + j) m x
      parts y lo hi =
          unfold turn in
          ap₂ (λ (u v : ℕ). u * 2 ^ (n + m) + v) lo (hi ∙ ap (λ (y : ℕ). y + (x % 2 ^ n) * 2 ^ m) (shr-shr x n j))
          ∙ regroup ((x / 2 ^ n % 2 ^ j) * 2 ^ (n + m)) (x / 2 ^ (n + j)) ((x % 2 ^ n) * 2 ^ m)
          ∙ ap (λ (y : ℕ). y + x / 2 ^ (n + j)) (sym whole_low)

rotr_turn : (n m x : ℕ) → n + m ≡ 32 → x < 2 ^ 32 → rotr n x ≡ turn n m x
unfolding turn rotr shl shr
rotr_turn n m x e h =
    let left : 32 - n ≡ m = omega arith in
    let cut : (x * 2 ^ m) % 2 ^ (n + m) ≡ (x % 2 ^ n) * 2 ^ m =
    mod-pow-add (x * 2 ^ m) n m
    ∙ ap₂ (λ (u v : ℕ). (u % 2 ^ n) * 2 ^ m + v) (shl-shr x m) (mul-mod_left x (2 ^ m))
    ∙ add-zero ((x % 2 ^ n) * 2 ^ m) in
    ap₂ (λ (u v : ℕ). bit_or (x / 2 ^ n) ((x * 2 ^ u) % 2 ^ v)) left (sym e)
    ∙ ap (bit_or (x / 2 ^ n)) cut
    ∙ or_shifted_r (x % 2 ^ n) m (x / 2 ^ n) (upper_lt n m x (subst (λ (k : ℕ). x < 2 ^ k) (sym e) h))

-- ---- the laws of a rotation

pub rotr_word : (n x : ℕ) → n ≤ 32 → x < 2 ^ 32 → rotr n x < 2 ^ 32
rotr_word n x hn h =
    let e : n + (32 - n) ≡ 32 = omega arith in
    subst (λ (k : ℕ). k < 2 ^ 32) (sym (rotr_turn n (32 - n) x e h))
    (subst (λ (k : ℕ). turn n (32 - n) x < 2 ^ k) e (turn_lt n (32 - n) x (subst (λ (k : ℕ). x < 2 ^ k) (sym e) h)))

pub rotr_xor : (n x y : ℕ) → n ≤ 32 → x < 2 ^ 32 → y < 2 ^ 32 → rotr n (x ⊕ y) ≡ rotr n x ⊕ rotr n y
unfolding ◌⊕◌
rotr_xor n x y hn hx hy =
    let e : n + (32 - n) ≡ 32 = omega arith in
    rotr_turn n (32 - n) (bit_xor x y) e (xor_lt 32 x y hx hy)
    ∙ turn_xor n (32 - n) x y (subst (λ (k : ℕ). x < 2 ^ k) (sym e) hx) (subst (λ (k : ℕ). y < 2 ^ k) (sym e) hy)
    ∙ ap₂ bit_xor (sym (rotr_turn n (32 - n) x e hx)) (sym (rotr_turn n (32 - n) y e hy))

pub rotr_rotr : (n j x : ℕ) → n + j ≤ 32 → x < 2 ^ 32 → rotr j (rotr n x) ≡ rotr (n + j) x
rotr_rotr n j x hn h =
    let m = 32 - (n + j) in
    let e₁ : n + (j + m) ≡ 32 = omega arith in
    let e₂ : j + (n + m) ≡ 32 = omega arith in
    let e₃ : n + j + m ≡ 32 = omega arith in
    rotr_turn j (n + m) (rotr n x) e₂ (rotr_word n x (omega arith) h)
    ∙ ap (turn j (n + m)) (rotr_turn n (j + m) x e₁ h)
    ∙ turn_turn n j m x (subst (λ (k : ℕ). x < 2 ^ k) (sym e₁) h)
    ∙ sym (rotr_turn (n + j) m x e₃ h)
