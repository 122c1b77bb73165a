-- Unions of masks: their bits, when they add nothing, and that they are the bitwise or.
use Rattle.std.specs.Prelude.{ℕ, zero, suc, ◌/◌, ◌%◌, ◌^◌, max, ◌<◌, ◌≡◌, refl, Bool, true, false, ◌||◌, eqb}
use Rattle.std.proofs.Common.{arith, mod-lt, mod-eq_of_lt, sym, ◌∙◌}
use Rattle.std.specs.Int.Bits.{bit_or, or_step}
use Rattle.std.proofs.lemmas.Nat.{or_shr, or_lt}
use Rattle.protocol.specs.Mask.{in_mask, union, Within}
use Rattle.protocol.proofs.Laws.MaskLaws.{mask_of-bit, mask_of-below, mask_of-same, mask_of-bits}

-- ---- bits
pub union_bit : (n a b t : ℕ) → t < n → in_mask (union n a b) t ≡ (in_mask a t || in_mask b t)
unfolding union
union_bit n a b t l = mask_of-bit (λ s. in_mask a s || in_mask b s) n t l

pub union_left : (n a b t : ℕ) → t < n → in_mask a t ≡ true → in_mask (union n a b) t ≡ true
union_left n a b t l e = union_bit n a b t l ∙ rw e

pub union_lt : (n a b : ℕ) → union n a b < 2 ^ n
unfolding union
union_lt n a b = mask_of-below (λ s. in_mask a s || in_mask b s) n

-- ---- a union that adds nothing
pub same_union : (n a b : ℕ) → a < 2 ^ n → Within n b a → union n a b ≡ a
unfolding union
same_union n a b h e =
    mask_of-same (λ s. in_mask a s || in_mask b s) (λ s. in_mask a s) n (λ t l. absorb (in_mask a t) (in_mask b t) (e t l))
    ∙ mask_of-bits a n ∙ mod-eq_of_lt h
  where
    absorb : (x y : Bool) → (y ≡ true → x ≡ true) → (x || y) ≡ x
    absorb true y f = refl
    absorb false true f = sym (f refl)
    absorb false false f = refl

-- ---- bitwise or
or_parity : (a b : ℕ) → bit_or a b % 2 ≡ max (a % 2) (b % 2)
or_parity a b =
    let step = or_step a b in
    let small = mod-lt a {m = 2} (omega arith) in
    let small' = mod-lt b {m = 2} (omega arith) in
    omega arith

max_one : (x y : ℕ) → x < 2 → y < 2 → eqb (max x y) 1 ≡ (eqb x 1 || eqb y 1)
max_one zero zero p q = refl
max_one zero (suc zero) p q = refl
max_one zero (suc (suc y)) p q = absurd (omega arith)
max_one (suc zero) zero p q = refl
max_one (suc zero) (suc zero) p q = refl
max_one (suc zero) (suc (suc y)) p q = absurd (omega arith)
max_one (suc (suc x)) y p q = absurd (omega arith)

pub in_mask-or : (a b t : ℕ) → in_mask (bit_or a b) t ≡ (in_mask a t || in_mask b t)
unfolding in_mask
in_mask-or a b t = rw (or_shr a b t, or_parity (a / 2 ^ t) (b / 2 ^ t))
    (max_one (a / 2 ^ t % 2) (b / 2 ^ t % 2) (mod-lt _ (omega arith)) (mod-lt _ (omega arith)))

-- what `|` gives in code
pub union_or : (n a b : ℕ) → a < 2 ^ n → b < 2 ^ n → union n a b ≡ bit_or a b
unfolding union
union_or n a b h k =
    mask_of-same (λ s. in_mask a s || in_mask b s) (λ s. in_mask (bit_or a b) s) n (λ t l. sym (in_mask-or a b t)) ∙
    mask_of-bits (bit_or a b) n ∙ mod-eq_of_lt (or_lt n a b h k)
