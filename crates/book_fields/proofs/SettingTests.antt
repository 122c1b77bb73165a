-- The tests that the code makes of n, edition and weights are the rows of the definition.
use Prim.Native.Nat.{ℕ, ◌+◌, ◌-◌, ◌*◌, ◌≤◌, ◌<◌}
use native.Mathlib.Omega.{arith}
use mathlib.Core.Path.{◌≡◌, refl, sym, ◌∙◌}
use mathlib.Core.Bool.{false, ◌&&◌, and-true, and-false}
use lib.ListN.{length, take, drop, length-drop}
use lib.Seq.{take_all}
use lib.Dec.{eqb, leb}
use borrow.Author.Tests.{eq-eqb, ne_eqb, lt-leb, le-leb}
use Rattle.protocol.specs.Bytes.{Bytes, byte_at, part, all, is_zero}
use Rattle.protocol.specs.Tests.{all_of, in_range}
use Rattle.protocol.specs.State.{words, weights_in, book_heights, most_heights, maximum_weight}
use Rattle.protocol.proofs.Laws.BytesLaws.{part_part, length_part}
use Rattle.protocol.proofs.Laws.SettingLaws.{even_fits, words_fit}
use Rattle.book_fields.specs.Setting.{later_unused, weight_rows, setting_rows}

-- ---- H by edition
module _ (edition heights : ℕ) where
  pub long_fit : edition ≡ 3 → (leb 1 heights && leb heights 1000) ≡ in_range 1 (most_heights edition) heights
  unfolding in_range most_heights
  long_fit e = rw (eq-eqb edition 3 e)

  pub short_fit : (edition ≡ 3 → ⊥) → (leb 1 heights && leb heights 63) ≡ in_range 1 (most_heights edition) heights
  unfolding in_range most_heights
  short_fit e = rw (ne_eqb edition 3 e)

-- ---- unused bytes of later editions
module _ (edition : ℕ) (book : Bytes) where
  pub long_unused : edition ≡ 3 →
      (eqb (byte_at book 2) 0 && (eqb (byte_at book 4) 0 && (eqb (byte_at book 5) 0 && is_zero (part book 46 18)))) ≡
      is_zero (later_unused edition book)
  unfolding later_unused is_zero all
  long_unused e = rw (eq-eqb edition 3 e)

  pub short_unused : (edition ≡ 3 → ⊥) → is_zero (part book 40 24) ≡ is_zero (later_unused edition book)
  unfolding later_unused
  short_unused e = rw (ne_eqb edition 3 e)

-- ---- weights
pub first_are : (n edition : ℕ) (book : Bytes) → edition ≡ 1 → n ≤ 16 →
    is_zero (part book 8 56) ≡ all_of (weight_rows n edition book)
unfolding weight_rows weights_in all_of
first_are n edition book e high = rw (eq-eqb edition 1 e, even_fits n high, and-true (is_zero (part book 8 56)))

cut : (at count : ℕ) (area : Bytes) → take count (drop at area) ≡ part area at count
unfolding part
cut at count area = refl

pub others_are : (n edition : ℕ) (book : Bytes) → (edition ≡ 1 → ⊥) → n ≤ 16 → 64 ≤ length book →
    ((all (λ w. in_range 1 maximum_weight w) (words n (part book 8 32)) &&
    is_zero (part book (8 + 2 * n) (40 - (8 + 2 * n)))) &&
    is_zero (later_unused edition book)) ≡ all_of (weight_rows n edition book)
unfolding weight_rows weights_in all_of
others_are n edition book e high long =
    let area = part book 8 32 in
    let size : length area ≡ 32 = length_part book 8 32 (omega arith) in
    let left : 40 - (8 + 2 * n) ≡ 32 - 2 * n = omega arith in
    let back : drop (2 * n) area ≡ part book (8 + 2 * n) (32 - 2 * n) =
    sym (take_all (32 - 2 * n) (drop (2 * n) area) (rw length-drop (omega arith)))
    ∙ cut (2 * n) (32 - 2 * n) area ∙ part_part book 8 32 (2 * n) (32 - 2 * n) (omega arith) in
    rw (ne_eqb edition 1 e, words_fit n area high size, back, left, and-true (is_zero (later_unused edition book)))

pub setting_are : (book : Bytes) → byte_at book 0 ≤ 16 →
    (leb 1 (byte_at book 0) && (in_range 1 (most_heights (byte_at book 7)) (book_heights book) &&
    ((leb 1 (byte_at book 7) && leb (byte_at book 7) 3) &&
    all_of (weight_rows (byte_at book 0) (byte_at book 7) book)))) ≡ all_of (setting_rows book)
unfolding setting_rows in_range
setting_are book high = unfold all_of in rw (le-leb (byte_at book 0) 16 high) (simp and-true)

pub many_fail : (book : Bytes) → 16 < byte_at book 0 → all_of (setting_rows book) ≡ false
unfolding setting_rows in_range all_of
many_fail book high = rw (lt-leb (byte_at book 0) 16 high) (simp and-false)
