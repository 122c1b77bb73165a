-- Written by tests/restated --write: what docs/statements has of
-- crates/protocol/specs/Before.antt.
use Rattle.std.specs.Prelude.{ℕ, ◌+◌, ◌*◌, Bool, ◌&&◌, ◌||◌, cond, List, [], ◌∷◌, length, drop, eqb, leb, ltb}
use package.Rattle.protocol.specs.Bytes.{Bytes, byte_at, part, is_zero, pieces}
use package.Rattle.protocol.specs.Tests.{all_of, implies, in_range, every_height}
use package.Rattle.protocol.specs.Block.{block_well_formed}
use package.Rattle.protocol.specs.Frame.{kind, frame_height, frame_block, carries_block, frame_well_formed}
use package.Rattle.protocol.specs.State.{State, Height, at, book_size, book_weights, body_size, content_size, decode_heights}
use package.Rattle.protocol.specs.State.{holds_proposal, is_notarized, maximum_pending, maximum_replicas, pool_size}
use package.Rattle.protocol.specs.View.{quorum, is_finalized}
use package.Rattle.protocol.specs.Sound.{view, weights_fit, masks_below, content_zeros}
use package.Rattle.protocol.specs.Before.{block_before, decode_before, blocks_before, unused_before}
use mathlib.Core.Path.{◌≡◌ as ◌is-kept◌, refl as by-text}
use package.Rattle.protocol.specs.Before as page

block_before-kept : ℕ → Bytes → Bool
block_before-kept h block = all_of (block_well_formed h block ∷ eqb (byte_at block 1) 0 ∷ eqb (byte_at block 3) 0 ∷ [])

same-block_before : block_before-kept is-kept page.block_before
unfolding block_before-kept page.block_before
same-block_before = by-text

frame_before-kept : Bytes → Bool
frame_before-kept frame = all_of
    (frame_well_formed frame ∷
    eqb (byte_at frame 3) 0 ∷
    implies (carries_block (kind frame)) (block_before (frame_height frame) (frame_block frame)) ∷ [])

same-frame_before : frame_before-kept is-kept page.frame_before
unfolding frame_before-kept page.frame_before
same-frame_before = by-text

decode_before-kept : Bytes → State
decode_before-kept book =
    let heights : ℕ = byte_at book 2 in
    record {
      edition = byte_at book 7;
      n = byte_at book 0;
      weights = book_weights book;
      own = byte_at book 1;
      flags = byte_at book 3;
      current = byte_at book 4;
      finalized = byte_at book 5;
      pending_count = byte_at book 6;
      pool = part book 64 pool_size;
      heights = decode_heights
          (pieces content_size heights (drop 576 book))
          (pieces body_size heights (drop (576 + content_size * heights) book));
    }

same-decode_before : decode_before-kept is-kept page.decode_before
unfolding decode_before-kept page.decode_before
same-decode_before = by-text

blocks_before-kept : ℕ → Height → Bool
blocks_before-kept h x =
    implies (holds_proposal x) (block_before h x.proposal) && implies (is_notarized x) (block_before h x.notarized)

same-blocks_before : blocks_before-kept is-kept page.blocks_before
unfolding blocks_before-kept page.blocks_before
same-blocks_before = by-text

unused_before-kept : Bytes → Bytes
unused_before-kept book = cond (eqb (byte_at book 7) 1) (part book 8 56) (part book 40 24)

same-unused_before : unused_before-kept is-kept page.unused_before
unfolding unused_before-kept page.unused_before
same-unused_before = by-text

module _ (digest : Bytes → Bytes) where
  abbrev rows_before : (latest : ℕ) → Bytes → State → ℕ → List Bool
  rows_before = page.rows_before digest

  rows_before-kept : (latest : ℕ) → Bytes → State → ℕ → List Bool
  rows_before-kept latest book s heights =
      eqb (length book) (book_size heights) ∷
      in_range 1 maximum_replicas s.n ∷
      ltb s.own s.n ∷
      in_range 1 63 heights ∷
      in_range 1 latest s.edition ∷
      weights_fit s.n s.weights ∷
      in_range 1 (heights + 1) s.current ∷
      ltb s.flags 16 ∷
      leb s.pending_count maximum_pending ∷
      every_height (λ h. ltb (at s h).leader s.n) heights ∷
      every_height (λ h. masks_below s.n (at s h)) heights ∷
      every_height (λ h. leb (at s h).status 3) heights ∷
      every_height (λ h. blocks_before h (at s h)) heights ∷
      every_height (λ h. implies (is_notarized (at s h)) (quorum (view s) (at s h).certificate_mask)) heights ∷
      is_zero (unused_before book) ∷
      every_height (λ h. is_zero (content_zeros book h)) heights ∷
      (eqb s.finalized 0 || is_finalized digest (view s) s.finalized) ∷ []

  same-rows_before : rows_before-kept is-kept page.rows_before digest
  unfolding rows_before-kept page.rows_before
  same-rows_before = by-text

  sound_before-kept : (latest : ℕ) → Bytes → Bool
  sound_before-kept latest book = all_of (rows_before latest book (decode_before book) (byte_at book 2))

  same-sound_before : sound_before-kept is-kept page.sound_before digest
  unfolding sound_before-kept page.sound_before
  same-sound_before = by-text
