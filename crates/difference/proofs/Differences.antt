-- The difference of two byte strings: it is 0 where they are equal, and stays below 256.
use Rattle.std.specs.Prelude.{ℕ, zero, suc, ◌+◌, ◌*◌, ◌/◌, ◌≤◌, ◌<◌, ◌≡◌, refl, Bool, true, false, ◌&&◌, cond, [], ◌∷◌, bit_and, bit_or, bit_xor, eqb, length, take}
use Rattle.std.proofs.Common.{arith, one-mul, add-one, sym, ap, ap₂, ◌∙◌, take_all, eq-eqb, ne_eqb, eqb-true}
use Rattle.std.proofs.Math.Bool.{and_assoc, and-true}
use Rattle.std.proofs.Math.Nat.{div-eq_of_lt}
use Rattle.std.proofs.lemmas.Bool.{false≢true, eqb-false}
use Rattle.std.specs.Int.Bits.{and_zero_l, or_zero_l, xor_self, xor_add_and}
use Rattle.std.proofs.lemmas.Nat.{le_or_l, le_or_r, and_le_l, and_le_r}
use mir.Val.{bool_byte}
use Rattle.protocol.specs.Bytes.{Bytes, byte_at, same}
use Rattle.protocol.proofs.Laws.TestsLaws.{and_both, both_ways_lem}
use Rattle.protocol.proofs.Laws.RowLaws.{not_passed, true_and}
use Rattle.difference.specs.Difference.{difference}

or_zero : (a b : ℕ) → bit_or a b ≡ 0 → (a ≡ 0) × (b ≡ 0)
or_zero a b e = omega (arith, le_or_l a b, le_or_r a b)

-- no bit of an or is set where none is set in either
pub or_is_zero : (a b : ℕ) → eqb (bit_or a b) 0 ≡ (eqb a 0 && eqb b 0)
or_is_zero a b = both_ways_lem (eqb (bit_or a b) 0) (eqb a 0 && eqb b 0)
    (λ e. let z = or_zero a b (eqb-true (bit_or a b) 0 e) in
    true_and (eqb a 0) (eqb b 0) (eq-eqb a 0 z.0) (eq-eqb b 0 z.1))
    (λ e. let t = and_both (eqb a 0) (eqb b 0) e in
    eq-eqb (bit_or a b) 0 (rw (eqb-true a 0 t.0, eqb-true b 0 t.1) (or_zero_l 0)))

xor_zero : (a b : ℕ) → bit_xor a b ≡ 0 → a ≡ b
xor_zero a b e = omega (arith, xor_add_and a b, and_le_l a b, and_le_r a b)

-- no bit differs where the numbers are equal
xor_is_zero : (a b : ℕ) → eqb (bit_xor a b) 0 ≡ eqb a b
xor_is_zero a b = both_ways_lem (eqb (bit_xor a b) 0) (eqb a b)
    (λ e. eq-eqb a b (xor_zero a b (eqb-true (bit_xor a b) 0 e)))
    (λ e. eq-eqb (bit_xor a b) 0 (rw (eqb-true a b e) (xor_self b)))

same_more : (a b : Bytes) (i : ℕ) → i < length a → i < length b →
    same (take (suc i) a) (take (suc i) b) ≡ (same (take i a) (take i b) && eqb (byte_at a i) (byte_at b i))
unfolding same
same_more [] b i h k = absurd (omega arith)
same_more (x ∷ xs) [] i h k = absurd (omega arith)
same_more (x ∷ xs) (y ∷ ys) zero h k = and-true (eqb x y)
same_more (x ∷ xs) (y ∷ ys) (suc i) h k =
    rw (same_more xs ys i (omega arith) (omega arith))
    (sym (and_assoc (eqb x y) (same (take i xs) (take i ys)) (eqb (byte_at xs i) (byte_at ys i))))

-- nothing is gathered where the fronts are equal
none_differs : (a b : Bytes) (i : ℕ) → i ≤ length a → i ≤ length b →
    eqb (difference a b i) 0 ≡ same (take i a) (take i b)
unfolding difference same
none_differs a b zero h k = refl
none_differs a b (suc i) h k =
    rw (or_is_zero, none_differs a b i (omega arith) (omega arith), xor_is_zero)
    (sym (same_more a b i (omega arith) (omega arith)))

-- one byte more
pub gathered_next : (a b : Bytes) (seen i : ℕ) → seen ≡ difference a b i →
    bit_or seen (bit_xor (byte_at a i) (byte_at b i)) ≡ difference a b (i + 1)
unfolding difference
gathered_next a b seen i e = rw (add-one i, e)

-- ---- whole strings
-- byte strings of different lengths differ
same_length : (a b : Bytes) → same a b ≡ true → length a ≡ length b
unfolding same
same_length [] [] e = refl
same_length [] (y ∷ ys) e = absurd (false≢true e)
same_length (x ∷ xs) [] e = absurd (false≢true e)
same_length (x ∷ xs) (y ∷ ys) e = ap suc (same_length xs ys (and_both (eqb x y) (same xs ys) e).1)

pub different_lengths : (a b : Bytes) → (length a ≡ length b → ⊥) → same a b ≡ false
different_lengths a b f = not_passed (same a b) (λ e. f (same_length a b e))

pub same_of_one_length : (a b : Bytes) → length a ≡ length b → eqb (difference a b (length a)) 0 ≡ same a b
same_of_one_length a b e =
    none_differs a b (length a) (omega arith) (omega arith)
    ∙ ap₂ same (take_all (length a) a (omega arith)) (take_all (length a) b (omega arith))

-- 1 or 0 from a difference, by arithmetic
one_if_none : (d : ℕ) → 1 / (1 + d) ≡ cond (eqb d 0) 1 0
one_if_none zero = refl
one_if_none (suc d) = rw (ne_eqb (suc d) 0 (λ e. omega arith)) (div-eq_of_lt (omega arith))

and_one : (t : Bool) → bit_and 1 (cond t 1 0) ≡ cond t 1 0
and_one true = refl
and_one false = refl

cast_small : (t : Bool) → bool_byte t ≤ 1
cast_small true = omega arith
cast_small false = omega arith

-- ---- what code finds: 1 if the lengths agree and 0 if not, and the difference `d` of all bytes or of none
module _ (a b : Bytes) where
  abbrev of_one_length : ℕ
  of_one_length = bool_byte (eqb (length a) (length b))

  pub compared : (of_one_length * length a ≤ length a) × (of_one_length * length a ≤ length b)
  compared = go (eqb (length a) (length b)) refl
    where
      go : (t : Bool) → eqb (length a) (length b) ≡ t →
          (bool_byte t * length a ≤ length a) × (bool_byte t * length a ≤ length b)
      go true e =
          let agree = eqb-true (length a) (length b) e in
          (omega arith, omega arith)
      go false e = (omega arith, omega arith)

  pub one_at_most : (k : ℕ) → bit_and of_one_length k ≤ 1
  one_at_most k = omega (arith, and_le_l of_one_length k, cast_small (eqb (length a) (length b)))

  pub equal_number : (d : ℕ) → d ≡ difference a b (of_one_length * length a) →
      bit_and of_one_length (1 / (1 + d)) ≡ cond (same a b) 1 0
  equal_number d g = go (eqb (length a) (length b)) refl g
    where
      go : (t : Bool) → eqb (length a) (length b) ≡ t → d ≡ difference a b (bool_byte t * length a) →
          bit_and (bool_byte t) (1 / (1 + d)) ≡ cond (same a b) 1 0
      go true e k =
          rw (one_if_none d, and_one (eqb d 0), k, one-mul (length a))
          (ap (λ (t : Bool). cond t 1 0) (same_of_one_length a b (eqb-true (length a) (length b) e)))
      go false e k = rw (and_zero_l (1 / (1 + d)), different_lengths a b (eqb-false (length a) (length b) e))
