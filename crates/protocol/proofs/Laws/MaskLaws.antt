-- The bits of a mask: of one that gets a bit more, and of one that is made of a test.
use Rattle.std.specs.Prelude.{ℕ, zero, suc, ◌+◌, ◌*◌, ◌/◌, ◌%◌, ◌^◌, ◌≤◌, ◌<◌, ◌≡◌, refl, ◌⊎◌, ◌≢◌, Bool, true, false, cond}
use Rattle.std.proofs.Common.{arith, one-add, div-one, mul_comm, pow-suc, mod-lt, mod-eq_of_lt, le_trans, add-zero, sym, ap₂, ◌∙◌, inl, inr, true≢false, pow_pos, pow_mono, eqb-true, eq-eqb, ltb-true}
use Rattle.std.proofs.Math.Decide.{ℕ_discrete}
use Rattle.std.proofs.Math.Nat.{div-div-eq-div-mul, zero-div, add-mul-div_right, add-div_right, div-eq_of_lt, mod-one}
use Rattle.std.proofs.Math.Path.{ap}
use Rattle.std.proofs.Math.Dec.{eqb}
use Rattle.std.proofs.lemmas.Nat.{mod-pow-add}
use Rattle.std.proofs.lemmas.Bool.{eqb-false}
use Rattle.protocol.specs.Mask.{in_mask, mask_of, below_bit, Within}
use Rattle.protocol.proofs.Laws.TestsLaws.{cond-elim, le_or_lt}

-- ---- one bit
bit_zero : (m : ℕ) → m / 2 ^ 0 % 2 ≡ m % 2
bit_zero m = ap (λ (x : ℕ). x % 2) (div-one m)

-- bit `s + 1` of a number is bit `s` of its half
bit_suc : (m s : ℕ) → m / 2 ^ suc s ≡ m / 2 / 2 ^ s
bit_suc m s = rw (pow-suc, mul_comm (2 ^ s) 2, div-div-eq-div-mul)

pub bit_true : (m s : ℕ) → in_mask m s ≡ true → m / 2 ^ s % 2 ≡ 1
unfolding in_mask
bit_true m s e = eqb-true _ _ e

pub bit_false : (m s : ℕ) → in_mask m s ≡ false → m / 2 ^ s % 2 ≡ 0
unfolding in_mask
bit_false m s e =
    let h : m / 2 ^ s % 2 ≢ 1 = eqb-false (m / 2 ^ s % 2) 1 e in
    omega (arith, mod-lt (m / 2 ^ s) {m = 2} (omega arith))

pub true_bit : (m s : ℕ) → m / 2 ^ s % 2 ≡ 1 → in_mask m s ≡ true
unfolding in_mask
true_bit m s e = eq-eqb _ _ e

pub false_bit : (m s : ℕ) → m / 2 ^ s % 2 ≡ 0 → in_mask m s ≡ false
unfolding in_mask
false_bit m s e = rw e

pub in_mask-zero : (t : ℕ) → in_mask 0 t ≡ false
in_mask-zero t = false_bit 0 t (rw zero-div)

-- a mask below `2 ^ n` has no bit from `n` up
pub in_mask-high : (n m t : ℕ) → m < 2 ^ n → n ≤ t → in_mask m t ≡ false
in_mask-high n m t h l = false_bit m t (rw (div-eq_of_lt (le_trans h (pow_mono l))))

pub below_lt : (n m : ℕ) → below_bit n m ≡ true → m < 2 ^ n
unfolding below_bit
below_lt n m e = ltb-true m (2 ^ n) e

-- ---- a bit more
half_add : (m s : ℕ) → (m + 2 ^ suc s) / 2 ≡ m / 2 + 2 ^ s
half_add m s = rw pow-suc (add-mul-div_right m (2 ^ s) (omega arith))

parity_add : (m s : ℕ) → (m + 2 ^ suc s) % 2 ≡ m % 2
parity_add m s = rw pow-suc (omega arith)

-- a bit that was not there is added, and no other
pub bit_self : (s m : ℕ) → m / 2 ^ s % 2 ≡ 0 → (m + 2 ^ s) / 2 ^ s % 2 ≡ 1
bit_self s m e = rw (add-div_right m (pow_pos s)) (omega arith)

pub bit_other : (s t m : ℕ) → m / 2 ^ s % 2 ≡ 0 → t ≢ s → (m + 2 ^ s) / 2 ^ t % 2 ≡ m / 2 ^ t % 2
bit_other zero zero m e n = absurd (n refl)
bit_other zero (suc t) m e n =
    let even : m % 2 ≡ 0 = sym (bit_zero m) ∙ e in
    let halves : (m + 1) / 2 ≡ m / 2 = omega arith in
    rw (bit_suc (m + 1) t, bit_suc m t, halves)
bit_other (suc s) zero m e n = bit_zero (m + 2 ^ suc s) ∙ parity_add m s ∙ sym (bit_zero m)
bit_other (suc s) (suc t) m e n =
    rw (bit_suc (m + 2 ^ suc s) t, half_add m s, bit_suc m t)
    (bit_other s t (m / 2) (rw bit_suc at e) (λ p. n (ap suc p)))

pub in_mask-add-self : (m s : ℕ) → in_mask m s ≡ false → in_mask (m + 2 ^ s) s ≡ true
in_mask-add-self m s e = true_bit (m + 2 ^ s) s (bit_self s m (bit_false m s e))

pub in_mask-add-other : (m s t : ℕ) → in_mask m s ≡ false → t ≢ s → in_mask (m + 2 ^ s) t ≡ in_mask m t
in_mask-add-other m s t e n = unfold in_mask in ap (λ (x : ℕ). eqb x 1) (bit_other s t m (bit_false m s e) n)

pub in_mask-add-keep : (m s t : ℕ) → in_mask m s ≡ false → in_mask m t ≡ true → in_mask (m + 2 ^ s) t ≡ true
in_mask-add-keep m s t e h = in_mask-add-other m s t e (λ p. true≢false (sym h ∙ ap (in_mask m) p ∙ e)) ∙ h

pub in_mask-add : (m s t : ℕ) → in_mask m s ≡ false → in_mask (m + 2 ^ s) t ≡ true → (in_mask m t ≡ true) ⊎ (t ≡ s)
in_mask-add m s t e h = elim (ℕ_discrete t s) [ yes p ↦ inr p | no n ↦ inl (sym (in_mask-add-other m s t e n) ∙ h) ]

-- a missing bit below `n` leaves room for it below `2 ^ n`
bit_room : (s n m : ℕ) → s < n → m < 2 ^ n → m / 2 ^ s % 2 ≡ 0 → m + 2 ^ s < 2 ^ n
bit_room zero zero m l h e = absurd (omega arith)
bit_room (suc s) zero m l h e = absurd (omega arith)
bit_room zero (suc n) m l h e =
    let even : m % 2 ≡ 0 = sym (bit_zero m) ∙ e in
    let twice = pow-suc 2 n in
    omega arith
bit_room (suc s) (suc n) m l h e =
    let twice = pow-suc 2 n in
    let double = pow-suc 2 s in
    let room = bit_room s n (m / 2) (omega arith) (omega arith) (rw bit_suc at e) in
    omega arith

pub add_below : (s n m : ℕ) → s < n → m < 2 ^ n → in_mask m s ≡ false → m + 2 ^ s < 2 ^ n
add_below s n m l h e = bit_room s n m l h (bit_false m s e)

-- ---- masks of tests
pub mask_of-below : (p : ℕ → Bool) (n : ℕ) → mask_of p n < 2 ^ n
unfolding mask_of
mask_of-below p zero = omega arith
mask_of-below p (suc n) =
    let below = mask_of-below p n in
    let twice = pow-suc 2 n in
    cond-elim (λ (x : ℕ). mask_of p n + x < 2 ^ suc n) (p n) (λ e. omega arith) (λ e. omega arith)

-- the bit of a test is its value
pub mask_of-bit : (p : ℕ → Bool) (n t : ℕ) → t < n → in_mask (mask_of p n) t ≡ p t
unfolding mask_of
mask_of-bit p zero t l = absurd (omega arith)
mask_of-bit p (suc n) t l = pick (p n) refl (ℕ_discrete t n) (λ z. mask_of-bit p n t z)
  where
    absent : in_mask (mask_of p n) n ≡ false
    absent = in_mask-high n (mask_of p n) n (mask_of-below p n) (omega arith)

    pick : (b : Bool) → p n ≡ b → Dec (t ≡ n) → (t < n → in_mask (mask_of p n) t ≡ p t) →
        in_mask (mask_of p n + cond b (2 ^ n) 0) t ≡ p t
    pick false e (yes q) below = rw (add-zero, q) (absent ∙ sym e)
    pick false e (no q) below = rw add-zero (below (omega arith))
    pick true e (yes q) below = rw q (in_mask-add-self (mask_of p n) n absent ∙ sym e)
    pick true e (no q) below = in_mask-add-other (mask_of p n) n t absent q ∙ below (omega arith)

pub in_mask-mask_of : (p : ℕ → Bool) (k t : ℕ) → in_mask (mask_of p k) t ≡ true → (t < k) × (p t ≡ true)
in_mask-mask_of p k t e = pick (le_or_lt k t)
  where
    pick : (k ≤ t) ⊎ (t < k) → (t < k) × (p t ≡ true)
    pick (inl l) = absurd (true≢false (sym e ∙ in_mask-high k (mask_of p k) t (mask_of-below p k) l))
    pick (inr l) = (l, sym (mask_of-bit p k t l) ∙ e)

-- only the tests below `n` matter
pub mask_of-same : (p q : ℕ → Bool) (n : ℕ) → ((t : ℕ) → t < n → p t ≡ q t) → mask_of p n ≡ mask_of q n
unfolding mask_of
mask_of-same p q zero e = refl
mask_of-same p q (suc n) e =
    ap₂ (λ (x : ℕ) (b : Bool). x + cond b (2 ^ n) 0) (mask_of-same p q n (λ t l. e t (omega arith))) (e n (omega arith))

bit_value : (x k : ℕ) → x < 2 → cond (eqb x 1) k 0 ≡ x * k
bit_value zero k h = omega arith
bit_value (suc zero) k h = omega arith
bit_value (suc (suc x)) k h = absurd (omega arith)

-- a mask is made of its own bits
pub mask_of-bits : (m n : ℕ) → mask_of (λ s. in_mask m s) n ≡ m % 2 ^ n
unfolding mask_of in_mask
mask_of-bits m zero = sym (mod-one m)
mask_of-bits m (suc n) =
    let above : m / 2 ^ n % 2 < 2 = mod-lt _ (omega arith) in
    let next : m % 2 ^ suc n ≡ (m / 2 ^ n % 2) * 2 ^ n + m % 2 ^ n = sym (ap (λ (k : ℕ). m % 2 ^ k) (one-add n))
    ∙ mod-pow-add m 1 n in
    let value = bit_value (m / 2 ^ n % 2) (2 ^ n) above in
    let lower = mask_of-bits m n in
    omega arith

-- masks below `2 ^ n` with the same bits are equal
pub mask_same : (n a b : ℕ) → a < 2 ^ n → b < 2 ^ n → ((t : ℕ) → t < n → in_mask a t ≡ in_mask b t) → a ≡ b
mask_same n a b h k e =
    sym (mask_of-bits a n ∙ mod-eq_of_lt h) ∙ mask_of-same (λ s. in_mask a s) (λ s. in_mask b s) n e ∙ mask_of-bits b n
    ∙ mod-eq_of_lt k
