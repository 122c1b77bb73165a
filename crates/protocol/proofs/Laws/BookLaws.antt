-- What a write to the bytes of a whole book makes of the state that it says.
use Rattle.std.specs.Prelude.{ℕ, suc, ◌+◌, ◌*◌, ◌^◌, ◌≤◌, ◌<◌, ◌≡◌, length, set}
use Rattle.protocol.specs.SoundState.{ShapedHeight}
use Rattle.protocol.specs.Bytes.{Bytes, le16, put}
use Rattle.protocol.specs.State.{at, last, with_height, encode, decode, book_heights, with_pool}
use Rattle.protocol.specs.Deliver.{with_proposal, with_notarized, with_masks, with_vote}
use Rattle.protocol.proofs.Laws.CodecLaws.{Exact, last_decode, decode_shaped}
use Rattle.protocol.proofs.Laws.PlaceLaws.{shaped_at}
use Rattle.protocol.proofs.Laws.WriteLaws.{write_pool}
use Rattle.protocol.proofs.Laws.ChangeLaws.{named_height, make_proposal, make_notarized, make_dummy_mask}
use Rattle.protocol.proofs.Laws.ChangeLaws.{make_finalize_mask, make_vote}

module _ (book : Bytes) (whole : encode (decode book) ≡ book) where
  -- ---- the pool
  module _ (exact : Exact book) where
    pub book_pool : (j : ℕ) (new : Bytes) → j + length new ≤ 512 →
        put book (64 + j) new ≡ encode (with_pool (decode book) (decode book).pending_count
        (put (decode book).pool j new))
    book_pool j new h = rw whole at (write_pool (decode book) (decode_shaped book exact).pool_size_lem j new h)

    -- ---- height `suc i`
    module _ (i : ℕ) (inside : i < book_heights book) where
      within : i < last (decode book)
      within = rw (last_decode book) inside

      fits : ShapedHeight (at (decode book) (suc i))
      fits = shaped_at (decode book) i (decode_shaped book exact) within

      pub book_proposal : (block : Bytes) → length block ≡ 176 →
          put (set book (576 + 16 * i + 1) ((at (decode book) (suc i)).status + 1))
          (576 + 16 * book_heights book + 864 * i) block ≡
          encode (with_height (decode book) (suc i) (with_proposal (at (decode book) (suc i)) block))
      book_proposal block e =
          rw (named_height book i whole, last_decode book) at
          (make_proposal (decode book) (decode_shaped book exact) i within (at (decode book) (suc i)) fits block e)

      pub book_notarized : (mask : ℕ) (block : Bytes) → length block ≡ 176 →
          put (put (set book (576 + 16 * i + 1) ((at (decode book) (suc i)).status + 2)) (576 + 16 * i + 2) (le16 mask))
          (576 + 16 * book_heights book + 864 * i + 176) block ≡
          encode (with_height (decode book) (suc i) (with_notarized (at (decode book) (suc i)) mask block))
      book_notarized mask block e =
          rw (named_height book i whole, last_decode book) at
          (make_notarized (decode book) (decode_shaped book exact) i within (at (decode book) (suc i)) fits mask block
          e)

      pub book_dummy_mask : (mask : ℕ) →
          put book (576 + 16 * i + 4) (le16 mask) ≡
          encode (with_height (decode book) (suc i)
          (with_masks (at (decode book) (suc i)) mask (at (decode book) (suc i)).finalize_mask))
      book_dummy_mask mask =
          rw (named_height book i whole) at
          (make_dummy_mask (decode book) (decode_shaped book exact) i within (at (decode book) (suc i)) fits mask)

      pub book_finalize_mask : (mask : ℕ) →
          put book (576 + 16 * i + 6) (le16 mask) ≡
          encode (with_height (decode book) (suc i)
          (with_masks (at (decode book) (suc i)) (at (decode book) (suc i)).dummy_mask mask))
      book_finalize_mask mask =
          rw (named_height book i whole) at
          (make_finalize_mask (decode book) (decode_shaped book exact) i within (at (decode book) (suc i)) fits mask)

      pub book_vote : (r : ℕ) (digest : Bytes) → r < 16 → length digest ≡ 32 →
          put (put book (576 + 16 * i + 8) (le16 ((at (decode book) (suc i)).voter_mask + 2 ^ r)))
          (576 + 16 * book_heights book + 864 * i + (352 + 32 * r)) digest ≡
          encode (with_height (decode book) (suc i) (with_vote (at (decode book) (suc i)) r digest))
      book_vote r digest h e =
          rw (named_height book i whole, last_decode book) at
          (make_vote (decode book) (decode_shaped book exact) i within (at (decode book) (suc i)) fits r digest h e)
