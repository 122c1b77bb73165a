-- Which books of observers are sound.
use Rattle.std.specs.Prelude.{ℕ, ◌+◌, ◌-◌, ◌*◌, Bool, ◌||◌, [], ◌∷◌, length, eqb}
use Rattle.protocol.specs.Bytes.{Bytes, byte_at, is_zero}
use Rattle.protocol.specs.Tests.{all_of, implies, in_range, every_height}
use Rattle.protocol.specs.Block.{block_well_formed}
use Rattle.protocol.specs.State.{State, at, book_heights, book_current, head_unused, is_notarized, maximum_replicas}
use Rattle.protocol.specs.State.{most_heights}
use Rattle.protocol.specs.View.{quorum, is_finalized}
use Rattle.protocol.specs.Sound.{view, masks_below, weights_fit}
use Rattle.protocol.specs.Observer.{observer_state, observer_book_size, observed_content_size}

-- what only a replica has in the head: own number, flags, current height, pending count
unfoldable pub replica_head : Bytes → Bytes
replica_head book = byte_at book 1 ∷ byte_at book 3 ∷ book_current book ∷ byte_at book 6 ∷ []

-- the zero byte of height `h`
unfoldable pub observed_zero : Bytes → ℕ → ℕ
observed_zero book h = byte_at book (64 + observed_content_size * (h - 1) + 1)

module _ (digest : Bytes → Bytes) where
  -- an observer's book is sound if every row passes; the rows are document 01's for what an observer has, in its order
  unfoldable pub observer_sound : Bytes → Bool
  observer_sound book =
      let s : State = observer_state book in
      let heights : ℕ = book_heights book in
      all_of
      (eqb (length book) (observer_book_size heights) ∷
      in_range 1 maximum_replicas s.n ∷
      in_range 1 (most_heights s.edition) heights ∷
      in_range 1 3 s.edition ∷
      weights_fit s.n s.weights ∷
      every_height (λ h. masks_below s.n (at s h)) heights ∷
      every_height (λ h. eqb (at s h).status 0 || eqb (at s h).status 2) heights ∷
      every_height (λ h. implies (is_notarized (at s h)) (block_well_formed h (at s h).notarized)) heights ∷
      every_height (λ h. implies (is_notarized (at s h)) (quorum (view s) (at s h).certificate_mask)) heights ∷
      is_zero (replica_head book) ∷
      is_zero (head_unused book) ∷
      every_height (λ h. eqb (observed_zero book h) 0) heights ∷
      (eqb s.finalized 0 || is_finalized digest (view s) s.finalized) ∷ [])
