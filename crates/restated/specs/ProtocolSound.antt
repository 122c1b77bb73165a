-- Written by tests/restated --write: what docs/statements has of
-- crates/protocol/specs/Sound.antt.
use Rattle.std.specs.Prelude.{ℕ, ◌+◌, ◌-◌, ◌*◌, Bool, ◌&&◌, ◌||◌, List, [], ◌∷◌, length, take, drop, eqb, leb, ltb}
use package.Rattle.protocol.specs.Bytes.{Bytes, part, all, is_zero}
use package.Rattle.protocol.specs.Tests.{all_of, implies, in_range, every_height}
use package.Rattle.protocol.specs.Block.{block_well_formed}
use package.Rattle.protocol.specs.Mask.{below_bit}
use package.Rattle.protocol.specs.State.{State, Height, at, decode, book_size, holds_proposal, is_notarized, book_heights}
use package.Rattle.protocol.specs.State.{maximum_replicas, maximum_pending, maximum_weight, most_heights, head_unused}
use package.Rattle.protocol.specs.View.{View, quorum, is_finalized, log_of}
use package.Rattle.protocol.specs.Sound.{view, weights_fit, masks_below, blocks_well_formed, content_zeros}
use mathlib.Core.Path.{◌≡◌ as ◌is-kept◌, refl as by-text}
use package.Rattle.protocol.specs.Sound as page

view-kept : State → View
view-kept s = record {
  n = s.n;
  weights = take s.n s.weights;
  has_block = λ h. is_notarized (at s h);
  block = λ h. (at s h).notarized;
  certificate_mask = λ h. (at s h).certificate_mask;
  dummy_mask = λ h. (at s h).dummy_mask;
  finalize_mask = λ h. (at s h).finalize_mask;
}

same-view : view-kept is-kept page.view
unfolding view-kept page.view
same-view = by-text

log-kept : State → List Bytes
log-kept s = log_of (view s) s.finalized

same-log : log-kept is-kept page.log
unfolding log-kept page.log
same-log = by-text

weights_fit-kept : ℕ → List ℕ → Bool
weights_fit-kept n weights = all (λ w. in_range 1 maximum_weight w) (take n weights) && is_zero (drop n weights)

same-weights_fit : weights_fit-kept is-kept page.weights_fit
unfolding weights_fit-kept page.weights_fit
same-weights_fit = by-text

masks_below-kept : ℕ → Height → Bool
masks_below-kept n x = all_of
    (below_bit n x.certificate_mask ∷
    below_bit n x.dummy_mask ∷
    below_bit n x.finalize_mask ∷
    below_bit n x.voter_mask ∷ [])

same-masks_below : masks_below-kept is-kept page.masks_below
unfolding masks_below-kept page.masks_below
same-masks_below = by-text

blocks_well_formed-kept : ℕ → Height → Bool
blocks_well_formed-kept h x =
    implies (holds_proposal x) (block_well_formed h x.proposal) &&
    implies (is_notarized x) (block_well_formed h x.notarized)

same-blocks_well_formed : blocks_well_formed-kept is-kept page.blocks_well_formed
unfolding blocks_well_formed-kept page.blocks_well_formed
same-blocks_well_formed = by-text

content_zeros-kept : Bytes → ℕ → Bytes
content_zeros-kept book h = part book (576 + 16 * (h - 1) + 10) 6

same-content_zeros : content_zeros-kept is-kept page.content_zeros
unfolding content_zeros-kept page.content_zeros
same-content_zeros = by-text

module _ (digest : Bytes → Bytes) where
  sound-kept : Bytes → Bool
  sound-kept book =
      let s : State = decode book in
      let heights : ℕ = book_heights book in
      all_of
      (eqb (length book) (book_size heights) ∷
      in_range 1 maximum_replicas s.n ∷
      ltb s.own s.n ∷
      in_range 1 (most_heights s.edition) heights ∷
      in_range 1 3 s.edition ∷
      weights_fit s.n s.weights ∷
      in_range 1 (heights + 1) s.current ∷
      ltb s.flags 16 ∷
      leb s.pending_count maximum_pending ∷
      every_height (λ h. ltb (at s h).leader s.n) heights ∷
      every_height (λ h. masks_below s.n (at s h)) heights ∷
      every_height (λ h. leb (at s h).status 3) heights ∷
      every_height (λ h. blocks_well_formed h (at s h)) heights ∷
      every_height (λ h. implies (is_notarized (at s h)) (quorum (view s) (at s h).certificate_mask)) heights ∷
      is_zero (head_unused book) ∷
      every_height (λ h. is_zero (content_zeros book h)) heights ∷
      (eqb s.finalized 0 || is_finalized digest (view s) s.finalized) ∷ [])

  same-sound : sound-kept is-kept page.sound digest
  unfolding sound-kept page.sound
  same-sound = by-text
