-- The tests that the code of an observer's soundness makes are the rows of the definition, group by group.
use Prim.Native.Nat.{ℕ, ◌+◌, ◌-◌, ◌*◌, ◌^◌, ◌≤◌, ◌<◌}
use native.Mathlib.Omega.{arith}
use mathlib.Core.Path.{◌≡◌, sym, subst}
use mathlib.Core.Bool.{Bool, true, false, ◌&&◌, ◌||◌, and-true, and-false, and_assoc}
use lib.ListN.{length}
use lib.Pow.{pow_pos}
use lib.Dec.{eqb}
use borrow.Author.Tests.{ne_eqb, lt-ltb}
use Rattle.protocol.specs.Bytes.{Bytes, byte_at, word16, all, is_zero}
use Rattle.protocol.specs.Tests.{all_of, every_height}
use Rattle.protocol.specs.Block.{block_well_formed}
use Rattle.protocol.specs.Mask.{below_bit}
use Rattle.protocol.specs.State.{Height, at, is_notarized, book_heights, book_current, head_unused}
use Rattle.protocol.proofs.Laws.HeadLaws.{heights_sum, current_sum}
use Rattle.protocol.specs.View.{quorum}
use Rattle.protocol.specs.Sound.{view, masks_below}
use Rattle.protocol.specs.Observer.{as_replica_height, observer_state, observer_book_size}
use Rattle.protocol.specs.ObserverSound.{observer_sound, replica_head, observed_zero}
use Rattle.protocol.proofs.Laws.RowLaws.{where_held, where_none, last_decides, rows_decide}
use Rattle.protocol.proofs.Laws.PlaceLaws.{suc_pred}
use Rattle.protocol.proofs.Laws.ObserverCodecLaws.{at_observed}
use Rattle.book_fields.specs.Book.{Within, observed_in}
use Rattle.book_fields.specs.Setting.{setting_rows}
use Rattle.book_fields.specs.Laws.SettingRowsLaws.{setting_passes}
use Rattle.observer_soundness.specs.ObserverRows.{head_rows, height_rows, block_row, certificate_row}
use Rattle.observer_soundness.specs.ObserverRows.{book_rows, final_row}
use Rattle.observer_soundness.specs.Laws.ObserverRowsLaws.{observer_sound_is}

-- ---- the head
module _ (book : Bytes) where
  pub replica_are :
      (eqb (byte_at book 1) 0 && (eqb (byte_at book 3) 0 && (eqb (book_current book) 0 && eqb (byte_at book 6) 0))) ≡
      is_zero (replica_head book)
  unfolding replica_head is_zero all
  replica_are = simp and-true

  pub head_are : (eqb (length book) (64 + 184 * book_heights book) &&
      (all_of (setting_rows book) && is_zero (replica_head book))) ≡ all_of (head_rows book)
  unfolding head_rows observer_book_size all_of
  head_are = simp and-true

  -- the same where the head is good: of both places of a number one is zero
  pub replica_summed : 64 ≤ length book → is_zero (head_unused book) ≡ true →
      (eqb (byte_at book 1) 0 &&
      (eqb (byte_at book 3) 0 && (eqb (byte_at book 4 + word16 book 42) 0 && eqb (byte_at book 6) 0))) ≡
      is_zero (replica_head book)
  replica_summed long unused = rw (current_sum book long unused) replica_are

  pub head_set : 64 ≤ length book → all_of (setting_rows book) ≡ true →
      (eqb (length book) (64 + 184 * (byte_at book 2 + word16 book 40)) && is_zero (replica_head book)) ≡
      all_of (head_rows book)
  head_set long e = rw (heights_sum book long (setting_passes book e).unused) (rw e at head_are)

  pub head_unset : all_of (setting_rows book) ≡ false → all_of (head_rows book) ≡ false
  head_unset e = sym (rw (e, and-false) at head_are)

  pub head_short : length book < 64 → all_of (head_rows book) ≡ false
  unfolding head_rows observer_book_size all_of
  head_short short = rw (ne_eqb (length book) (64 + 184 * book_heights book) (λ e. omega arith))

-- ---- one height
-- an observer keeps no voters
no_voters : (book : Bytes) (h : ℕ) → Within book h → (observed_in book h).voter_mask ≡ 0
unfolding as_replica_height
no_voters book h within =
    subst (λ (j : ℕ). (at (observer_state book) j).voter_mask ≡ 0) (suc_pred h within.low)
    (rw (at_observed book (h - 1) (omega arith)))

pub masks_are : (book : Bytes) (h n : ℕ) → Within book h →
    (below_bit n (observed_in book h).certificate_mask &&
    (below_bit n (observed_in book h).dummy_mask && below_bit n (observed_in book h).finalize_mask)) ≡
    masks_below n (observed_in book h)
unfolding masks_below all_of
masks_are book h n within = rw (no_voters book h within, none_below) (simp and-true)
  where
    none_below : below_bit n 0 ≡ true
    none_below = unfold below_bit in lt-ltb 0 (2 ^ n) (pow_pos n)

module _ (book : Bytes) (h : ℕ) where
  abbrev x : Height
  x = observed_in book h

  pub block_held : is_notarized x ≡ true →
      (block_well_formed h x.notarized && quorum (view (observer_state book)) x.certificate_mask) ≡
      (block_row book h && certificate_row book h)
  unfolding block_row certificate_row
  block_held e = rw (
    where_held (is_notarized x) (block_well_formed h x.notarized) e,
    where_held (is_notarized x) (quorum (view (observer_state book)) x.certificate_mask) e,
  )

  pub block_none : is_notarized x ≡ false → (block_row book h && certificate_row book h) ≡ true
  unfolding block_row certificate_row
  block_none e = rw (
    where_none (is_notarized x) (block_well_formed h x.notarized) e,
    where_none (is_notarized x) (quorum (view (observer_state book)) x.certificate_mask) e,
  )

  pub height_are : (from : ℕ) → from ≡ 64 + 8 * (h - 1) →
      (masks_below (observer_state book).n x &&
      ((eqb x.status 0 || eqb x.status 2) &&
      ((block_row book h && certificate_row book h) && eqb (byte_at book (from + 1)) 0))) ≡ all_of (height_rows book h)
  unfolding height_rows all_of observed_zero
  height_are from place = rw place (simp (and-true, and_assoc))

-- ---- the three groups
module _ (digest : Bytes → Bytes) (book : Bytes) where
  abbrev every : Bool
  every = every_height (λ h. all_of (height_rows book h)) (book_heights book)

  pub sound_final : all_of (book_rows book) ≡ true → final_row digest book ≡ observer_sound digest book
  unfolding book_rows
  sound_final rows = last_decides (all_of (head_rows book)) every _ _ (observer_sound_is digest book) rows

  pub not_sound_rows : all_of (book_rows book) ≡ false → false ≡ observer_sound digest book
  unfolding book_rows
  not_sound_rows rows = rows_decide (all_of (head_rows book)) every _ _ (observer_sound_is digest book) rows
