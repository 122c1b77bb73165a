-- The tests that the code of soundness makes are the rows of the definition, group by group.
use Prim.Native.Nat.{ℕ, ◌+◌, ◌-◌, ◌*◌, ◌≤◌, ◌<◌}
use native.Mathlib.Omega.{arith}
use mathlib.Core.Path.{◌≡◌, sym}
use mathlib.Core.Bool.{Bool, true, false, ◌&&◌, and-true, and-false}
use lib.ListN.{length, take, drop}
use lib.Dec.{eqb, leb, ltb}
use borrow.Author.Tests.{ne_eqb}
use Rattle.protocol.specs.Bytes.{Bytes, byte_at, word16, part, is_zero}
use Rattle.protocol.specs.Tests.{all_of, implies, in_range, every_height}
use Rattle.protocol.specs.Block.{block_well_formed}
use Rattle.protocol.specs.Mask.{below_bit}
use Rattle.protocol.specs.State.{Height, at, decode, book_size, holds_proposal, is_notarized, book_heights, book_current}
use Rattle.protocol.specs.State.{head_unused}
use Rattle.protocol.proofs.Laws.HeadLaws.{heights_sum, current_sum}
use Rattle.protocol.specs.View.{quorum}
use Rattle.protocol.specs.Sound.{view, masks_below, blocks_well_formed, content_zeros, sound}
use Rattle.protocol.proofs.Laws.RowLaws.{last_decides, rows_decide}
use Rattle.book_fields.specs.Setting.{setting_rows}
use Rattle.book_fields.specs.Laws.SettingRowsLaws.{setting_passes}
use Rattle.soundness.specs.SoundRows.{number_rows, head_rows, height_rows, book_rows, final_row}
use Rattle.soundness.specs.Laws.SoundRowsLaws.{sound_is}

-- ---- the head
module _ (book : Bytes) where
  pub numbers_are :
      (ltb (byte_at book 1) (byte_at book 0) &&
      ((leb 1 (book_current book) && leb (book_current book) (book_heights book + 1)) &&
      (ltb (byte_at book 3) 16 && leb (byte_at book 6) 32))) ≡ all_of (number_rows book)
  unfolding number_rows decode in_range all_of
  numbers_are = simp and-true

  pub head_are : (eqb (length book) (576 + 880 * book_heights book) &&
      (all_of (setting_rows book) && all_of (number_rows book))) ≡ all_of (head_rows book)
  unfolding head_rows book_size all_of
  head_are = simp and-true

  -- the same where the head is good: of both places of a number one is zero
  pub numbers_summed : 64 ≤ length book → is_zero (head_unused book) ≡ true →
      (ltb (byte_at book 1) (byte_at book 0) &&
      ((leb 1 (byte_at book 4 + word16 book 42) &&
      leb (byte_at book 4 + word16 book 42) (byte_at book 2 + word16 book 40 + 1)) &&
      (ltb (byte_at book 3) 16 && leb (byte_at book 6) 32))) ≡ all_of (number_rows book)
  numbers_summed long unused = rw (current_sum book long unused, heights_sum book long unused) numbers_are

  pub head_set : 64 ≤ length book → all_of (setting_rows book) ≡ true →
      (eqb (length book) (576 + 880 * (byte_at book 2 + word16 book 40)) && all_of (number_rows book)) ≡
      all_of (head_rows book)
  head_set long e = rw (heights_sum book long (setting_passes book e).unused) (rw e at head_are)

  pub head_unset : all_of (setting_rows book) ≡ false → all_of (head_rows book) ≡ false
  head_unset e = sym (rw (e, and-false) at head_are)

  pub head_short : length book < 576 → all_of (head_rows book) ≡ false
  unfolding head_rows book_size all_of
  head_short short = rw (ne_eqb (length book) (576 + 880 * book_heights book) (λ e. omega arith))

-- ---- masks
pub masks_are : (n : ℕ) (x : Height) →
    (below_bit n x.certificate_mask && (below_bit n
    x.dummy_mask && (below_bit n x.finalize_mask && below_bit n x.voter_mask))) ≡ masks_below n x
unfolding masks_below all_of
masks_are n x = simp and-true

-- ---- one height
pub unused_are : (book : Bytes) (h from : ℕ) → from ≡ 576 + 16 * (h - 1) →
    is_zero (take (from + 10 + 6 - (from + 10)) (drop (from + 10) book)) ≡ is_zero (content_zeros book h)
unfolding content_zeros part
unused_are book h from place = let six : from + 10 + 6 - (from + 10) ≡ 6 = omega arith in rw (six, place)

module _ (book : Bytes) (h : ℕ) where
  abbrev x : Height
  x = at (decode book) h

  pub height_are :
      (ltb x.leader (decode book).n &&
      (masks_below (decode book).n x &&
      (leb x.status 3 &&
      ((implies (holds_proposal x) (block_well_formed h x.proposal) && implies (is_notarized x)
      (block_well_formed h x.notarized)) &&
      (implies (is_notarized x) (quorum (view (decode book)) x.certificate_mask) && is_zero (content_zeros book h)))))) ≡
      all_of (height_rows book h)
  unfolding height_rows blocks_well_formed all_of
  height_are = simp and-true

-- ---- the three groups
module _ (digest : Bytes → Bytes) (book : Bytes) where
  abbrev every : Bool
  every = every_height (λ h. all_of (height_rows book h)) (book_heights book)

  pub sound_final : all_of (book_rows book) ≡ true → final_row digest book ≡ sound digest book
  unfolding book_rows
  sound_final rows = last_decides (all_of (head_rows book)) every _ _ (sound_is digest book) rows

  pub not_sound_rows : all_of (book_rows book) ≡ false → false ≡ sound digest book
  unfolding book_rows
  not_sound_rows rows = rows_decide (all_of (head_rows book)) every _ _ (sound_is digest book) rows
