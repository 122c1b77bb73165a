-- Written by tests/restated --write: what docs/statements has of
-- crates/protocol/specs/ObserverBefore.antt.
use Rattle.std.specs.Prelude.{ℕ, ◌+◌, ◌*◌, Bool, ◌||◌, List, [], ◌∷◌, length, drop, eqb}
use package.Rattle.protocol.specs.Bytes.{Bytes, byte_at, is_zero, pieces}
use package.Rattle.protocol.specs.Tests.{all_of, implies, in_range, every_height}
use package.Rattle.protocol.specs.Block.{block_size}
use package.Rattle.protocol.specs.State.{State, at, book_weights, is_notarized, maximum_replicas}
use package.Rattle.protocol.specs.View.{quorum, is_finalized}
use package.Rattle.protocol.specs.Sound.{view, masks_below, weights_fit}
use package.Rattle.protocol.specs.Observer.{Observer, as_replica, decode_observed_heights, observer_book_size}
use package.Rattle.protocol.specs.Observer.{observed_content_size}
use package.Rattle.protocol.specs.ObserverSound.{observed_zero}
use package.Rattle.protocol.specs.Before.{block_before, unused_before}
use package.Rattle.protocol.specs.ObserverBefore.{decode_observer_before}
use mathlib.Core.Path.{◌≡◌ as ◌is-kept◌, refl as by-text}
use package.Rattle.protocol.specs.ObserverBefore as page

decode_observer_before-kept : Bytes → Observer
decode_observer_before-kept book =
    let heights : ℕ = byte_at book 2 in
    record {
      edition = byte_at book 7;
      n = byte_at book 0;
      weights = book_weights book;
      finalized = byte_at book 5;
      heights = decode_observed_heights
          (pieces observed_content_size heights (drop 64 book))
          (pieces block_size heights (drop (64 + observed_content_size * heights) book));
    }

same-decode_observer_before : decode_observer_before-kept is-kept page.decode_observer_before
unfolding decode_observer_before-kept page.decode_observer_before
same-decode_observer_before = by-text

module _ (digest : Bytes → Bytes) where
  abbrev observer_rows_before : (latest : ℕ) → Bytes → State → ℕ → List Bool
  observer_rows_before = page.observer_rows_before digest

  observer_rows_before-kept : (latest : ℕ) → Bytes → State → ℕ → List Bool
  observer_rows_before-kept latest book s heights =
      eqb (length book) (observer_book_size heights) ∷
      in_range 1 maximum_replicas s.n ∷
      in_range 1 63 heights ∷
      in_range 1 latest s.edition ∷
      weights_fit s.n s.weights ∷
      every_height (λ h. masks_below s.n (at s h)) heights ∷
      every_height (λ h. eqb (at s h).status 0 || eqb (at s h).status 2) heights ∷
      every_height (λ h. implies (is_notarized (at s h)) (block_before h (at s h).notarized)) heights ∷
      every_height (λ h. implies (is_notarized (at s h)) (quorum (view s) (at s h).certificate_mask)) heights ∷
      is_zero (byte_at book 1 ∷ byte_at book 3 ∷ byte_at book 4 ∷ byte_at book 6 ∷ []) ∷
      is_zero (unused_before book) ∷
      every_height (λ h. eqb (observed_zero book h) 0) heights ∷
      (eqb s.finalized 0 || is_finalized digest (view s) s.finalized) ∷ []

  same-observer_rows_before : observer_rows_before-kept is-kept page.observer_rows_before digest
  unfolding observer_rows_before-kept page.observer_rows_before
  same-observer_rows_before = by-text

  observer_sound_before-kept : (latest : ℕ) → Bytes → Bool
  observer_sound_before-kept latest book =
      all_of (observer_rows_before latest book (as_replica (decode_observer_before book)) (byte_at book 2))

  same-observer_sound_before : observer_sound_before-kept is-kept page.observer_sound_before digest
  unfolding observer_sound_before-kept page.observer_sound_before
  same-observer_sound_before = by-text
