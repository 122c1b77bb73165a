-- The filter, as entries are marked in it.
use Rattle.std.specs.Prelude.{ℕ, zero, suc, ◌+◌, ◌*◌, ◌^◌, ◌%◌, ◌≤◌, ◌<◌, ◌≡◌, refl, Bool, true, false, List, [], ◌∷◌, ◌++◌, length, set, eqb}
use Rattle.std.proofs.Common.{arith, sym, ap, ◌∙◌, ⊎_elim, length-set, get_or-set_same, get_or-set_other, eqb-true}
use Rattle.std.proofs.lemmas.Bool.{false≢true, eqb-false}
use Rattle.protocol.specs.Bytes.{Bytes, byte_at, word16, same, holds}
use Rattle.protocol.specs.Mask.{in_mask}
use Rattle.protocol.proofs.Laws.MaskLaws.{in_mask-add-self, in_mask-add-keep}
use Rattle.protocol.proofs.Laws.TestsLaws.{or_either}
use Rattle.protocol.proofs.Laws.RowLaws.{same_eq}
use Rattle.protocol.proofs.Laws.EntriesLaws.{holds_append, holds_next, holds_none}
use Rattle.filter.specs.Filter.{word32, mixed, place_of, byte_of, is_set, Marked}

-- a list of one
holds_one : (x y : Bytes) → holds x (y ∷ []) ≡ true → x ≡ y
holds_one x y e = go (same x y) refl
  where
    go : (b : Bool) → same x y ≡ b → x ≡ y
    go true s = same_eq x y s
    go false s = absurd (false≢true (sym (holds_next x y [] s ∙ holds_none x) ∙ e))

-- ---- the key stays, whichever byte after it is set
module _ (filter : Bytes) (i v : ℕ) (after : 32 ≤ i) where
  same_byte : (k : ℕ) → k < 32 → byte_at (set filter i v) k ≡ byte_at filter k
  same_byte k low = get_or-set_other filter i k v 0 (λ e. absurd (omega arith))

  same_word : (k : ℕ) → k + 3 < 32 → word32 (set filter i v) k ≡ word32 filter k
  unfolding word32 word16
  same_word k low =
      rw (
        same_byte k (omega arith),
        same_byte (k + 1) (omega arith),
        same_byte (k + 2) (omega arith),
        same_byte (k + 2 + 1) (omega arith),
      )

  same_mixed : (e : Bytes) (count : ℕ) → count ≤ 8 → mixed (set filter i v) e count ≡ mixed filter e count
  unfolding mixed
  same_mixed e zero few = refl
  same_mixed e (suc k) few = rw (same_mixed e k (omega arith), same_word (4 * k) (omega arith))

  same_place : (e : Bytes) → place_of (set filter i v) e ≡ place_of filter e
  unfolding place_of
  same_place e = ap (λ (n : ℕ). n % 4294967291) (same_mixed e 8 (omega arith))

-- ---- a bit that is set stays so, whichever is set next
module _ (filter : Bytes) (at bit : ℕ) (fits : at < length filter) (unset : in_mask (byte_at filter at) bit ≡ false) where
  abbrev next : Bytes
  next = set filter at (byte_at filter at + 2 ^ bit)

  still_set : (place : ℕ) → is_set filter place ≡ true → is_set next place ≡ true
  unfolding is_set
  still_set place e = go (eqb (byte_of (length filter) place) at) refl
    where
      go : (b : Bool) → eqb (byte_of (length filter) place) at ≡ b →
          in_mask (byte_at next (byte_of (length next) place)) (place % 8) ≡ true
      go true q =
          rw (
            length-set filter at (byte_at filter at + 2 ^ bit),
            eqb-true (byte_of (length filter) place) at q,
            get_or-set_same filter at (byte_at filter at + 2 ^ bit) 0 fits,
          )
          (in_mask-add-keep (byte_at filter at) bit (place % 8) unset
          (ap (λ (k : ℕ). in_mask (byte_at filter k) (place % 8)) (sym (eqb-true _ _ q)) ∙ e))
      go false q =
          rw (
            length-set filter at (byte_at filter at + 2 ^ bit),
            get_or-set_other filter at (byte_of (length filter) place) (byte_at filter at + 2 ^ bit) 0 (eqb-false _ _ q),
          ) e

  now_set : (place : ℕ) → at ≡ byte_of (length filter) place → bit ≡ place % 8 → is_set next place ≡ true
  unfolding is_set
  now_set place is its =
      rw (
        length-set filter at (byte_at filter at + 2 ^ bit),
        ← is,
        ← its,
        get_or-set_same filter at (byte_at filter at + 2 ^ bit) 0 fits,
      )
      (in_mask-add-self (byte_at filter at) bit unset)

-- the bit as the code reads it
pub seen_is : (filter entry : Bytes) {place at before : ℕ} → place ≡ place_of filter entry →
    at ≡ byte_of (length filter) place → before ≡ byte_at filter at →
    in_mask before (place % 8) ≡ is_set filter (place_of filter entry)
unfolding is_set
seen_is filter entry is its value = rw (value, its, is)

after_key : (size place : ℕ) → 32 ≤ byte_of size place
unfolding byte_of
after_key size place = omega arith

module _ (filter : Bytes) (es : List Bytes) (m : Marked filter es) (entry : Bytes) where
  -- where an entry's bit is not set, the list has it not
  pub not_marked : is_set filter (place_of filter entry) ≡ false → holds entry es ≡ false
  not_marked e = go (holds entry es) refl
    where
      go : (b : Bool) → holds entry es ≡ b → b ≡ false
      go true h = absurd (false≢true (sym e ∙ m.marks entry h))
      go false h = refl

  -- one more, whose bit is set already
  pub marked_again : is_set filter (place_of filter entry) ≡ true → Marked filter (es ++ (entry ∷ []))
  marked_again e = record {
    some = m.some;
    marks = λ x h. ⊎_elim (m.marks x)
        (λ q. ap (λ (y : Bytes). is_set filter (place_of filter y)) (holds_one x entry q) ∙ e)
        (or_either (holds x es) (holds x (entry ∷ [])) (sym (holds_append x es (entry ∷ [])) ∙ h));
  }

  -- one more, whose bit was not set
  module _ {place at before one : ℕ} (is : place ≡ place_of filter entry) (its : at ≡ byte_of (length filter) place)
      (fits : at < length filter) (value : before ≡ byte_at filter at) (bit : one ≡ 2 ^ (place % 8))
      (unset : in_mask before (place % 8) ≡ false) where
    pub marked_more : Marked (set filter at (before + one)) (es ++ (entry ∷ []))
    marked_more = record { some = rw (length-set filter at (before + one)) m.some; marks = marks }
      where
        after : 32 ≤ at
        after = rw its (after_key (length filter) place)

        none : in_mask (byte_at filter at) (place % 8) ≡ false
        none = ap (λ (b : ℕ). in_mask b (place % 8)) (sym value) ∙ unset

        set_in : (x : Bytes) → holds x (es ++ (entry ∷ [])) ≡ true →
            is_set (next filter at (place % 8) fits none) (place_of filter x) ≡ true
        set_in x h =
            ⊎_elim (λ q. still_set filter at (place % 8) fits none (place_of filter x) (m.marks x q))
            (λ q. ap (λ (y : Bytes). is_set (next filter at (place % 8) fits none) (place_of filter y)) (holds_one x entry q)
            ∙ ap (is_set (next filter at (place % 8) fits none)) (sym is) ∙ now_set filter at (place % 8) fits none place its refl)
            (or_either (holds x es) (holds x (entry ∷ [])) (sym (holds_append x es (entry ∷ [])) ∙ h))

        marks : (x : Bytes) → holds x (es ++ (entry ∷ [])) ≡ true →
            is_set (set filter at (before + one)) (place_of (set filter at (before + one)) x) ≡ true
        marks x h = rw (value, bit, same_place filter at (byte_at filter at + 2 ^ (place % 8)) after x) (set_in x h)

-- no entry
pub marked_none : (filter : Bytes) → 32 < length filter → Marked filter []
marked_none filter some =
    record { some = some; marks = λ x h. absurd (false≢true (sym (holds_none x) ∙ h)) }
