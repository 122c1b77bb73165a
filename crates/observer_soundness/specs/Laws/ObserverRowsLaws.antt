-- The groups of rows make an observer's soundness; a sound head can be read.
use Rattle.std.specs.Prelude.{ℕ, ◌+◌, ◌*◌, ◌≤◌, ◌≡◌, refl, Bool, true, ◌&&◌, ◌||◌, length, eqb}
use Rattle.std.proofs.Common.{le_trans, eqb-true, sym, ◌∙◌}
use mathlib.Core.Bool.{and-true, and_assoc}
use Rattle.sha256.specs.Digest.{sha256}
use Rattle.book_fields.specs.Kinds.{ObserverBook}
use Rattle.soundness.specs.Rows.{final_row_as}
use Rattle.protocol.specs.Every.{none, one}
use Rattle.protocol.specs.Bytes.{Bytes, is_zero}
use Rattle.protocol.specs.Tests.{all_of, every_height}
use Rattle.protocol.specs.State.{book_heights, weights_in}
use Rattle.protocol.specs.Sound.{view, masks_below}
use Rattle.protocol.specs.Observer.{as_replica, decode_observer, observer_state, observer_book_size}
use Rattle.protocol.specs.ObserverSound.{observer_sound, replica_head, observed_zero}
use Rattle.protocol.proofs.Laws.SoundLaws.{most_heights_lem}
use Rattle.protocol.proofs.Laws.TestsLaws.{and_both, both_ways_lem}
use Rattle.protocol.proofs.Laws.RowLaws.{by_rows, all_of_lem, true_and, every_height_at, every_height_lem, in_range_lem}
use Rattle.book_fields.specs.Laws.ObserverBookLaws.{observer_readable}
use Rattle.book_fields.specs.Laws.SettingRowsLaws.{SettingPasses, setting_passes, setting_pass, setting_weighs}
use Rattle.book_fields.specs.Book.{ObserverReadable, observed_in}
use Rattle.observer_soundness.specs.ObserverRows.{head_rows, height_rows, block_row, certificate_row}
use Rattle.observer_soundness.specs.ObserverRows.{book_rows, final_row}

-- ---- the rows of each group by name
module _ (book : Bytes) where
  record HeadPasses : Type 0 where
    size : eqb (length book) (observer_book_size (book_heights book)) ≡ true
    setting : SettingPasses book
    replica : is_zero (replica_head book) ≡ true

  head_rows_lem : all_of (head_rows book) ≡ true → HeadPasses
  unfolding head_rows
  head_rows_lem e =
      by_rows _ e λ size setting replica. record {
        size = size;
        setting = setting_passes book setting;
        replica = replica;
      }

  record HeightPasses (h : ℕ) : Type 0 where
    masks : masks_below (observer_state book).n (observed_in book h) ≡ true
    status : (eqb (observed_in book h).status 0 || eqb (observed_in book h).status 2) ≡ true
    block : block_row book h ≡ true
    certificate : certificate_row book h ≡ true
    zero : eqb (observed_zero book h) 0 ≡ true

  height_rows_lem : (h : ℕ) → all_of (height_rows book h) ≡ true → HeightPasses h
  unfolding height_rows
  height_rows_lem h e =
      by_rows _ e λ masks status block certificate zero. record {
        masks = masks;
        status = status;
        block = block;
        certificate = certificate;
        zero = zero;
      }

-- ---- the groups make soundness
module _ (digest : Bytes → Bytes) (book : Bytes) where
  -- the rows of every height
  abbrev every : Bool
  every = every_height (λ h. all_of (height_rows book h)) (book_heights book)

  groups_pass : observer_sound digest book ≡ true →
      (all_of (head_rows book) ≡ true) × (every ≡ true) × (final_row digest book ≡ true)
  unfolding observer_sound head_rows height_rows block_row certificate_row final_row as_replica decode_observer
  groups_pass e =
      by_rows _ e λ size replicas heights edition weights masks status block certificate replica zeros zero final. (
        all_of_lem
            (one size
            (one (setting_pass book (record {
              replicas = replicas;
              heights = heights;
              edition = edition;
              weights = weights;
              unused = zeros;
            }))
            (one replica none))),
        every_height_lem _ _ (λ h low high. all_of_lem
            (one (every_height_at _ _ h masks low high)
            (one (every_height_at _ _ h status low high)
            (one (every_height_at _ _ h block low high)
            (one (every_height_at _ _ h certificate low high)
            (one (every_height_at _ _ h zero low high) none)))))),
        final,
      )

  module _ (head : all_of (head_rows book) ≡ true) (heights : every ≡ true) (final : final_row digest book ≡ true) where
    at_height_lem : (h : ℕ) → 1 ≤ h → h ≤ book_heights book → HeightPasses book h
    at_height_lem h low high = height_rows_lem book h (every_height_at _ (book_heights book) h heights low high)

    sound_passes : observer_sound digest book ≡ true
    unfolding observer_sound block_row certificate_row final_row as_replica decode_observer weights_in
    sound_passes =
        let is = head_rows_lem book head in
        all_of_lem
        (one is.size (one is.setting.replicas (one is.setting.heights (one is.setting.edition
        (one is.setting.weights
        (one (every_height_lem _ _ (λ h low high. (at_height_lem h low high).masks))
        (one (every_height_lem _ _ (λ h low high. (at_height_lem h low high).status))
        (one (every_height_lem _ _ (λ h low high. (at_height_lem h low high).block))
        (one (every_height_lem _ _ (λ h low high. (at_height_lem h low high).certificate))
        (one is.replica
        (one is.setting.unused
        (one (every_height_lem _ _ (λ h low high. (at_height_lem h low high).zero))
        (one final none)))))))))))))

  -- soundness, group by group
  pub observer_sound_is : observer_sound digest book ≡ (all_of (head_rows book) && (every && final_row digest book))
  observer_sound_is = both_ways_lem (observer_sound digest book) (all_of (head_rows book) && (every && final_row digest book))
      (λ e. let (head, heights, final) = groups_pass e in true_and _ _ head (true_and _ _ heights final))
      (λ e.
      let t = and_both (all_of (head_rows book)) (every && final_row digest book) e in
      let u = and_both every (final_row digest book) t.1 in
      sound_passes t.0 u.0 u.1)

-- the head's rows are all that reading asks
pub head_readable : (book : Bytes) → all_of (head_rows book) ≡ true → ObserverReadable book
unfolding observer_book_size as_replica decode_observer
head_readable book e =
    let is = head_rows_lem book e in
    let size : length book ≡ 64 + 184 * book_heights book = eqb-true _ _ is.size in
    observer_readable book size (in_range_lem _ _ _ is.setting.replicas).1
    (le_trans (in_range_lem _ _ _ is.setting.heights).1 (most_heights_lem _)) is.setting.unused
    (unfold view in setting_weighs book is.setting)

-- ---- what the groups are to soundness of a book of any kind
pub rows_by_groups : (book : Bytes) → all_of (book_rows book) ≡
    (all_of (head_rows book) && every_height (λ h. all_of (height_rows book h)) (book_heights book))
unfolding book_rows all_of
rows_by_groups book = simp and-true

pub final_as : (book : Bytes) → final_row sha256 book ≡ final_row_as ObserverBook book
unfolding final_row
final_as book = refl

pub sound_by_rows : (book : Bytes) → observer_sound sha256 book ≡ (all_of (book_rows book) && final_row sha256 book)
sound_by_rows book = rw rows_by_groups (observer_sound_is sha256 book
    ∙ sym (and_assoc (all_of (head_rows book)) (every_height (λ h. all_of (height_rows book h)) (book_heights book))
    (final_row sha256 book)))
