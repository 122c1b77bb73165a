-- Written by tests/restated --write: what docs/statements has of
-- crates/protocol/specs/ObserverSound.antt.
use Rattle.std.specs.Prelude.{ℕ, ◌+◌, ◌-◌, ◌*◌, Bool, ◌||◌, [], ◌∷◌, length, eqb}
use package.Rattle.protocol.specs.Bytes.{Bytes, byte_at, is_zero}
use package.Rattle.protocol.specs.Tests.{all_of, implies, in_range, every_height}
use package.Rattle.protocol.specs.Block.{block_well_formed}
use package.Rattle.protocol.specs.State.{State, at, book_heights, book_current, head_unused, is_notarized, maximum_replicas}
use package.Rattle.protocol.specs.State.{most_heights}
use package.Rattle.protocol.specs.View.{quorum, is_finalized}
use package.Rattle.protocol.specs.Sound.{view, masks_below, weights_fit}
use package.Rattle.protocol.specs.Observer.{observer_state, observer_book_size, observed_content_size}
use package.Rattle.protocol.specs.ObserverSound.{replica_head, observed_zero}
use mathlib.Core.Path.{◌≡◌ as ◌is-kept◌, refl as by-text}
use package.Rattle.protocol.specs.ObserverSound as page

replica_head-kept : Bytes → Bytes
replica_head-kept book = byte_at book 1 ∷ byte_at book 3 ∷ book_current book ∷ byte_at book 6 ∷ []

same-replica_head : replica_head-kept is-kept page.replica_head
unfolding replica_head-kept page.replica_head
same-replica_head = by-text

observed_zero-kept : Bytes → ℕ → ℕ
observed_zero-kept book h = byte_at book (64 + observed_content_size * (h - 1) + 1)

same-observed_zero : observed_zero-kept is-kept page.observed_zero
unfolding observed_zero-kept page.observed_zero
same-observed_zero = by-text

module _ (digest : Bytes → Bytes) where
  observer_sound-kept : Bytes → Bool
  observer_sound-kept book =
      let s : State = observer_state book in
      let heights : ℕ = book_heights book in
      all_of
      (eqb (length book) (observer_book_size heights) ∷
      in_range 1 maximum_replicas s.n ∷
      in_range 1 (most_heights s.edition) heights ∷
      in_range 1 3 s.edition ∷
      weights_fit s.n s.weights ∷
      every_height (λ h. masks_below s.n (at s h)) heights ∷
      every_height (λ h. eqb (at s h).status 0 || eqb (at s h).status 2) heights ∷
      every_height (λ h. implies (is_notarized (at s h)) (block_well_formed h (at s h).notarized)) heights ∷
      every_height (λ h. implies (is_notarized (at s h)) (quorum (view s) (at s h).certificate_mask)) heights ∷
      is_zero (replica_head book) ∷
      is_zero (head_unused book) ∷
      every_height (λ h. eqb (observed_zero book h) 0) heights ∷
      (eqb s.finalized 0 || is_finalized digest (view s) s.finalized) ∷ [])

  same-observer_sound : observer_sound-kept is-kept page.observer_sound digest
  unfolding observer_sound-kept page.observer_sound
  same-observer_sound = by-text
