-- The tests of programs that were there before request 2.7, for what is said of books and frames that those made or
-- meet: heights of one byte, and editions up to 1 (document 01) or up to 2 (request 2.6).
use Rattle.std.specs.Prelude.{ℕ, ◌+◌, ◌*◌, Bool, ◌&&◌, ◌||◌, cond, List, [], ◌∷◌, length, drop, eqb, leb, ltb}
use Rattle.protocol.specs.Bytes.{Bytes, byte_at, part, is_zero, pieces}
use Rattle.protocol.specs.Tests.{all_of, implies, in_range, every_height}
use Rattle.protocol.specs.Block.{block_well_formed}
use Rattle.protocol.specs.Frame.{kind, frame_height, frame_block, carries_block, frame_well_formed}
use Rattle.protocol.specs.State.{State, Height, at, book_size, book_weights, body_size, content_size, decode_heights}
use Rattle.protocol.specs.State.{holds_proposal, is_notarized, maximum_pending, maximum_replicas, pool_size}
use Rattle.protocol.specs.View.{quorum, is_finalized}
use Rattle.protocol.specs.Sound.{view, weights_fit, masks_below, content_zeros}

-- ---- blocks and frames: the byte after each height was called zero
unfoldable pub block_before : ℕ → Bytes → Bool
block_before h block = all_of (block_well_formed h block ∷ eqb (byte_at block 1) 0 ∷ eqb (byte_at block 3) 0 ∷ [])

unfoldable pub frame_before : Bytes → Bool
frame_before frame = all_of
    (frame_well_formed frame ∷
    eqb (byte_at frame 3) 0 ∷
    implies (carries_block (kind frame)) (block_before (frame_height frame) (frame_block frame)) ∷ [])

-- ---- books: H, the current and the finalized height stood in a byte each
unfoldable pub decode_before : Bytes → State
decode_before book =
    let heights : ℕ = byte_at book 2 in
    record {
      edition = byte_at book 7;
      n = byte_at book 0;
      weights = book_weights book;
      own = byte_at book 1;
      flags = byte_at book 3;
      current = byte_at book 4;
      finalized = byte_at book 5;
      pending_count = byte_at book 6;
      pool = part book 64 pool_size;
      heights = decode_heights
          (pieces content_size heights (drop 576 book))
          (pieces body_size heights (drop (576 + content_size * heights) book));
    }

unfoldable pub blocks_before : ℕ → Height → Bool
blocks_before h x =
    implies (holds_proposal x) (block_before h x.proposal) && implies (is_notarized x) (block_before h x.notarized)

unfoldable pub unused_before : Bytes → Bytes
unused_before book = cond (eqb (byte_at book 7) 1) (part book 8 56) (part book 40 24)

module _ (digest : Bytes → Bytes) where
  unfoldable pub rows_before : (latest : ℕ) → Bytes → State → ℕ → List Bool
  rows_before latest book s heights =
      eqb (length book) (book_size heights) ∷
      in_range 1 maximum_replicas s.n ∷
      ltb s.own s.n ∷
      in_range 1 63 heights ∷
      in_range 1 latest s.edition ∷
      weights_fit s.n s.weights ∷
      in_range 1 (heights + 1) s.current ∷
      ltb s.flags 16 ∷
      leb s.pending_count maximum_pending ∷
      every_height (λ h. ltb (at s h).leader s.n) heights ∷
      every_height (λ h. masks_below s.n (at s h)) heights ∷
      every_height (λ h. leb (at s h).status 3) heights ∷
      every_height (λ h. blocks_before h (at s h)) heights ∷
      every_height (λ h. implies (is_notarized (at s h)) (quorum (view s) (at s h).certificate_mask)) heights ∷
      is_zero (unused_before book) ∷
      every_height (λ h. is_zero (content_zeros book h)) heights ∷
      (eqb s.finalized 0 || is_finalized digest (view s) s.finalized) ∷ []

  -- a book was sound to a program that knew the editions up to `latest`
  unfoldable pub sound_before : (latest : ℕ) → Bytes → Bool
  sound_before latest book = all_of (rows_before latest book (decode_before book) (byte_at book 2))
