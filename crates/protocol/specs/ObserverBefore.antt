-- The test of observers' books of programs that were there before request 2.7, which knew editions up to 1 (request
-- 2.3) or up to 2 (request 2.6).
use Rattle.std.specs.Prelude.{ℕ, ◌+◌, ◌*◌, Bool, ◌||◌, List, [], ◌∷◌, length, drop, eqb}
use Rattle.protocol.specs.Bytes.{Bytes, byte_at, is_zero, pieces}
use Rattle.protocol.specs.Tests.{all_of, implies, in_range, every_height}
use Rattle.protocol.specs.Block.{block_size}
use Rattle.protocol.specs.State.{State, at, book_weights, is_notarized, maximum_replicas}
use Rattle.protocol.specs.View.{quorum, is_finalized}
use Rattle.protocol.specs.Sound.{view, masks_below, weights_fit}
use Rattle.protocol.specs.Observer.{Observer, as_replica, decode_observed_heights, observer_book_size}
use Rattle.protocol.specs.Observer.{observed_content_size}
use Rattle.protocol.specs.ObserverSound.{observed_zero}
use Rattle.protocol.specs.Before.{block_before, unused_before}

-- H and the finalized height stood in a byte each
unfoldable pub decode_observer_before : Bytes → Observer
decode_observer_before book =
    let heights : ℕ = byte_at book 2 in
    record {
      edition = byte_at book 7;
      n = byte_at book 0;
      weights = book_weights book;
      finalized = byte_at book 5;
      heights = decode_observed_heights
          (pieces observed_content_size heights (drop 64 book))
          (pieces block_size heights (drop (64 + observed_content_size * heights) book));
    }

module _ (digest : Bytes → Bytes) where
  unfoldable pub observer_rows_before : (latest : ℕ) → Bytes → State → ℕ → List Bool
  observer_rows_before latest book s heights =
      eqb (length book) (observer_book_size heights) ∷
      in_range 1 maximum_replicas s.n ∷
      in_range 1 63 heights ∷
      in_range 1 latest s.edition ∷
      weights_fit s.n s.weights ∷
      every_height (λ h. masks_below s.n (at s h)) heights ∷
      every_height (λ h. eqb (at s h).status 0 || eqb (at s h).status 2) heights ∷
      every_height (λ h. implies (is_notarized (at s h)) (block_before h (at s h).notarized)) heights ∷
      every_height (λ h. implies (is_notarized (at s h)) (quorum (view s) (at s h).certificate_mask)) heights ∷
      is_zero (byte_at book 1 ∷ byte_at book 3 ∷ byte_at book 4 ∷ byte_at book 6 ∷ []) ∷
      is_zero (unused_before book) ∷
      every_height (λ h. eqb (observed_zero book h) 0) heights ∷
      (eqb s.finalized 0 || is_finalized digest (view s) s.finalized) ∷ []

  -- an observer's book was sound to a program that knew the editions up to `latest`
  unfoldable pub observer_sound_before : (latest : ℕ) → Bytes → Bool
  observer_sound_before latest book =
      all_of (observer_rows_before latest book (as_replica (decode_observer_before book)) (byte_at book 2))
