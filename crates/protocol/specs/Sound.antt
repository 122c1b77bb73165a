-- The view that a state gives, and which books are sound.
use Rattle.std.specs.Prelude.{ℕ, ◌+◌, ◌-◌, ◌*◌, Bool, ◌&&◌, ◌||◌, List, [], ◌∷◌, length, take, drop, eqb, leb, ltb}
use Rattle.protocol.specs.Bytes.{Bytes, part, all, is_zero}
use Rattle.protocol.specs.Tests.{all_of, implies, in_range, every_height}
use Rattle.protocol.specs.Block.{block_well_formed}
use Rattle.protocol.specs.Mask.{below_bit}
use Rattle.protocol.specs.State.{State, Height, at, decode, book_size, holds_proposal, is_notarized, book_heights}
use Rattle.protocol.specs.State.{maximum_replicas, maximum_pending, maximum_weight, most_heights, head_unused}
use Rattle.protocol.specs.View.{View, quorum, is_finalized, log_of}

unfoldable pub view : State → View
view s = record {
  n = s.n;
  weights = take s.n s.weights;
  has_block = λ h. is_notarized (at s h);
  block = λ h. (at s h).notarized;
  certificate_mask = λ h. (at s h).certificate_mask;
  dummy_mask = λ h. (at s h).dummy_mask;
  finalize_mask = λ h. (at s h).finalize_mask;
}

-- the distinct entries of the finalized chain (documents 01 and 02: the register)
unfoldable pub log : State → List Bytes
log s = log_of (view s) s.finalized

-- each of `n` replicas weighs 1 to 1,000, and those that are absent nothing
unfoldable pub weights_fit : ℕ → List ℕ → Bool
weights_fit n weights = all (λ w. in_range 1 maximum_weight w) (take n weights) && is_zero (drop n weights)

-- ---- rows about one height
unfoldable pub masks_below : ℕ → Height → Bool
masks_below n x = all_of
    (below_bit n x.certificate_mask ∷
    below_bit n x.dummy_mask ∷
    below_bit n x.finalize_mask ∷
    below_bit n x.voter_mask ∷ [])

unfoldable pub blocks_well_formed : ℕ → Height → Bool
blocks_well_formed h x =
    implies (holds_proposal x) (block_well_formed h x.proposal) &&
    implies (is_notarized x) (block_well_formed h x.notarized)

-- the six zero bytes of height `h`
unfoldable pub content_zeros : Bytes → ℕ → Bytes
content_zeros book h = part book (576 + 16 * (h - 1) + 10) 6

module _ (digest : Bytes → Bytes) where
  -- a book is sound if every row passes; the rows stand in document 01's order
  unfoldable pub sound : Bytes → Bool
  sound book =
      let s : State = decode book in
      let heights : ℕ = book_heights book in
      all_of
      (eqb (length book) (book_size heights) ∷
      in_range 1 maximum_replicas s.n ∷
      ltb s.own s.n ∷
      in_range 1 (most_heights s.edition) heights ∷
      in_range 1 3 s.edition ∷
      weights_fit s.n s.weights ∷
      in_range 1 (heights + 1) s.current ∷
      ltb s.flags 16 ∷
      leb s.pending_count maximum_pending ∷
      every_height (λ h. ltb (at s h).leader s.n) heights ∷
      every_height (λ h. masks_below s.n (at s h)) heights ∷
      every_height (λ h. leb (at s h).status 3) heights ∷
      every_height (λ h. blocks_well_formed h (at s h)) heights ∷
      every_height (λ h. implies (is_notarized (at s h)) (quorum (view s) (at s h).certificate_mask)) heights ∷
      is_zero (head_unused book) ∷
      every_height (λ h. is_zero (content_zeros book h)) heights ∷
      (eqb s.finalized 0 || is_finalized digest (view s) s.finalized) ∷ [])
