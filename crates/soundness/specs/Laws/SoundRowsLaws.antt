-- The groups of rows make soundness; a sound head can be read.
use Rattle.std.specs.Prelude.{ℕ, ◌+◌, ◌*◌, ◌≤◌, ◌≡◌, refl, Bool, true, ◌&&◌, length, eqb, leb, ltb}
use Rattle.std.proofs.Common.{le_trans, eqb-true, sym, ◌∙◌}
use mathlib.Core.Bool.{and-true, and_assoc}
use Rattle.sha256.specs.Digest.{sha256}
use Rattle.book_fields.specs.Kinds.{ReplicaBook}
use Rattle.soundness.specs.Rows.{final_row_as}
use Rattle.protocol.specs.Every.{none, one}
use Rattle.protocol.specs.Bytes.{Bytes, is_zero}
use Rattle.protocol.specs.Tests.{all_of, in_range, every_height}
use Rattle.protocol.specs.State.{decode, weights_in, book_size, book_heights, maximum_pending}
use Rattle.protocol.specs.Sound.{view, sound, masks_below, blocks_well_formed, content_zeros}
use Rattle.protocol.proofs.Laws.SoundLaws.{most_heights_lem}
use Rattle.protocol.proofs.Laws.TestsLaws.{and_both, both_ways_lem}
use Rattle.protocol.proofs.Laws.RowLaws.{row, by_rows, all_of_lem, true_and, every_height_at, every_height_lem, in_range_lem}
use Rattle.book_fields.specs.Laws.BookLaws.{readable as make_readable}
use Rattle.book_fields.specs.Book.{Readable, height_in}
use Rattle.book_fields.specs.Laws.SettingRowsLaws.{SettingPasses, setting_passes, setting_pass, setting_weighs}
use Rattle.soundness.specs.SoundRows.{number_rows, head_rows, height_rows, certificate_row, book_rows, final_row}
use Rattle.protocol.proofs.Laws.SoundRowNames.{length_row, replicas_row, own_row, heights_row, edition_row, weights_row}
use Rattle.protocol.proofs.Laws.SoundRowNames.{current_row, flags_row, pending_row, leaders_row, masks_row, status_row}
use Rattle.protocol.proofs.Laws.SoundRowNames.{blocks_row}
use Rattle.protocol.proofs.Laws.SoundRowNames.{certified_row, head_zeros_row, content_zeros_row, finalized_row}

-- ---- the rows of each group by name
module _ (book : Bytes) where
  record NumbersPass : Type 0 where
    own : ltb (decode book).own (decode book).n ≡ true
    current : in_range 1 (book_heights book + 1) (decode book).current ≡ true
    flags : ltb (decode book).flags 16 ≡ true
    pending : leb (decode book).pending_count maximum_pending ≡ true

  number_rows_lem : all_of (number_rows book) ≡ true → NumbersPass
  unfolding number_rows
  number_rows_lem e =
      by_rows _ e λ own current flags pending. record {
        own = own;
        current = current;
        flags = flags;
        pending = pending;
      }

  record HeadPasses : Type 0 where
    size : eqb (length book) (book_size (book_heights book)) ≡ true
    setting : SettingPasses book
    numbers : NumbersPass

  head_rows_lem : all_of (head_rows book) ≡ true → HeadPasses
  unfolding head_rows
  head_rows_lem e =
      by_rows _ e λ size setting numbers. record {
        size = size;
        setting = setting_passes book setting;
        numbers = number_rows_lem numbers;
      }

  record HeightPasses (h : ℕ) : Type 0 where
    leader : ltb (height_in book h).leader (decode book).n ≡ true
    masks : masks_below (decode book).n (height_in book h) ≡ true
    status : leb (height_in book h).status 3 ≡ true
    blocks : blocks_well_formed h (height_in book h) ≡ true
    certificate : certificate_row book h ≡ true
    zeros : is_zero (content_zeros book h) ≡ true

  height_rows_lem : (h : ℕ) → all_of (height_rows book h) ≡ true → HeightPasses h
  unfolding height_rows
  height_rows_lem h e =
      by_rows _ e λ leader masks status blocks certificate zeros. record {
        leader = leader;
        masks = masks;
        status = status;
        blocks = blocks;
        certificate = certificate;
        zeros = zeros;
      }

-- ---- the groups make soundness
module _ (digest : Bytes → Bytes) (book : Bytes) where
  -- the rows of every height
  abbrev every : Bool
  every = every_height (λ h. all_of (height_rows book h)) (book_heights book)

  module _ (e : sound digest book ≡ true) where
    head_passes : all_of (head_rows book) ≡ true
    unfolding sound head_rows number_rows decode
    head_passes =
        let setting = setting_pass book (record {
          replicas = row _ replicas_row e;
          heights = row _ heights_row e;
          edition = row _ edition_row e;
          weights = row _ weights_row e;
          unused = row _ head_zeros_row e;
        }) in
        let numbers = all_of_lem
        (one (row _ own_row e) (one (row _ current_row e) (one (row _ flags_row e) (one (row _ pending_row e) none)))) in
        all_of_lem (one (row _ length_row e) (one setting (one numbers none)))

    height_passes : (h : ℕ) → 1 ≤ h → h ≤ book_heights book → all_of (height_rows book h) ≡ true
    unfolding sound height_rows
    height_passes h low high = all_of_lem
        (one (every_height_at _ _ h (row _ leaders_row e) low high)
        (one (every_height_at _ _ h (row _ masks_row e) low high)
        (one (every_height_at _ _ h (row _ status_row e) low high)
        (one (every_height_at _ _ h (row _ blocks_row e) low high)
        (one (every_height_at _ _ h (row _ certified_row e) low high)
        (one (every_height_at _ _ h (row _ content_zeros_row e) low high) none))))))

    final_passes : final_row digest book ≡ true
    unfolding sound final_row
    final_passes = row _ finalized_row e

  module _ (head : all_of (head_rows book) ≡ true) (heights : every ≡ true) (final : final_row digest book ≡ true) where
    at_height_lem : (h : ℕ) → 1 ≤ h → h ≤ book_heights book → HeightPasses book h
    at_height_lem h low high = height_rows_lem book h (every_height_at _ (book_heights book) h heights low high)

    sound_passes : sound digest book ≡ true
    unfolding sound final_row decode weights_in
    sound_passes =
        let is = head_rows_lem book head in
        let n = is.numbers in
        let set = is.setting in
        all_of_lem
        (one is.size
        (one set.replicas (one n.own (one set.heights (one set.edition (one set.weights
        (one n.current (one n.flags (one n.pending
        (one (every_height_lem _ _ (λ h low high. (at_height_lem h low high).leader))
        (one (every_height_lem _ _ (λ h low high. (at_height_lem h low high).masks))
        (one (every_height_lem _ _ (λ h low high. (at_height_lem h low high).status))
        (one (every_height_lem _ _ (λ h low high. (at_height_lem h low high).blocks))
        (one (every_height_lem _ _ (λ h low high. (at_height_lem h low high).certificate))
        (one set.unused
        (one (every_height_lem _ _ (λ h low high. (at_height_lem h low high).zeros))
        (one final none)))))))))))))))))

  -- soundness, group by group
  pub sound_is : sound digest book ≡ (all_of (head_rows book) && (every && final_row digest book))
  sound_is = both_ways_lem (sound digest book) (all_of (head_rows book) && (every && final_row digest book))
      (λ e. true_and _ _ (head_passes e) (true_and _ _ (every_height_lem _ _ (height_passes e)) (final_passes e)))
      (λ e.
      let t = and_both (all_of (head_rows book)) (every && final_row digest book) e in
      let u = and_both every (final_row digest book) t.1 in
      sound_passes t.0 u.0 u.1)

-- the head's rows are all that reading asks
pub readable : (book : Bytes) → all_of (head_rows book) ≡ true → Readable book
unfolding book_size decode
readable book e =
    let is = head_rows_lem book e in
    let size : length book ≡ 576 + 880 * book_heights book = eqb-true _ _ is.size in
    make_readable book size (in_range_lem _ _ _ is.setting.replicas).1
    (le_trans (in_range_lem _ _ _ is.setting.heights).1 (most_heights_lem _)) is.setting.unused
    (unfold view in setting_weighs book is.setting)

-- ---- what the groups are to soundness of a book of any kind
pub rows_by_groups : (book : Bytes) → all_of (book_rows book) ≡
    (all_of (head_rows book) && every_height (λ h. all_of (height_rows book h)) (book_heights book))
unfolding book_rows all_of
rows_by_groups book = simp and-true

pub final_as : (book : Bytes) → final_row sha256 book ≡ final_row_as ReplicaBook book
unfolding final_row decode
final_as book = refl

pub sound_by_rows : (book : Bytes) → sound sha256 book ≡ (all_of (book_rows book) && final_row sha256 book)
sound_by_rows book = rw rows_by_groups (sound_is sha256 book
    ∙ sym (and_assoc (all_of (head_rows book)) (every_height (λ h. all_of (height_rows book h)) (book_heights book))
    (final_row sha256 book)))
