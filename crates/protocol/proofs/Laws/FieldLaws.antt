-- Where a reader finds each field of the state that a book says; height `suc i` counts from 0 in the bytes.
use Rattle.std.specs.Prelude.{ℕ, suc, ◌+◌, ◌*◌, ◌≤◌, ◌<◌, ◌≡◌, refl}
use Rattle.std.proofs.Common.{arith, ◌∙◌}
use Rattle.std.proofs.Math.Nat.{add-zero}
use Rattle.std.proofs.Math.Path.{sym}
use Rattle.protocol.specs.Bytes.{Bytes, byte_at, word16, part}
use Rattle.protocol.specs.State.{at, decode, decode_height, vote_of, book_heights, book_current, book_finalized}
use Rattle.protocol.proofs.Laws.BytesLaws.{byte_part, word_part, part_part}
use Rattle.protocol.proofs.Laws.CodecLaws.{at_decode}

-- ---- the head
pub read_n : (book : Bytes) → byte_at book 0 ≡ (decode book).n
unfolding decode
read_n book = refl

pub read_own : (book : Bytes) → byte_at book 1 ≡ (decode book).own
unfolding decode
read_own book = refl

pub read_flags : (book : Bytes) → byte_at book 3 ≡ (decode book).flags
unfolding decode
read_flags book = refl

pub read_current : (book : Bytes) → book_current book ≡ (decode book).current
unfolding decode
read_current book = refl

pub read_finalized : (book : Bytes) → book_finalized book ≡ (decode book).finalized
unfolding decode
read_finalized book = refl

pub read_pending_count : (book : Bytes) → byte_at book 6 ≡ (decode book).pending_count
unfolding decode
read_pending_count book = refl

-- ---- the pool
-- entry `k` of the pool, pending or not
pub read_entry : (book : Bytes) (k : ℕ) → k < 32 → part book (64 + 16 * k) 16 ≡ part (decode book).pool (16 * k) 16
unfolding decode
read_entry book k h = sym (part_part book 64 512 (16 * k) 16 (omega arith))

-- ---- one height
module _ (book : Bytes) (i : ℕ) (inside : i < book_heights book) where
  -- a byte and a 16-bit number of its contents, and a part of its body
  content_byte_of : (j : ℕ) → j < 16 → byte_at book (576 + 16 * i + j) ≡ byte_at (part book (576 + 16 * i) 16) j
  content_byte_of j h = sym (byte_part book (576 + 16 * i) 16 j h)

  content_word_of : (j : ℕ) → j + 1 < 16 → word16 book (576 + 16 * i + j) ≡ word16 (part book (576 + 16 * i) 16) j
  content_word_of j h = sym (word_part book (576 + 16 * i) 16 j h)

  body_part_of : (j k : ℕ) → j + k ≤ 864 →
      part book (576 + 16 * book_heights book + 864 * i + j) k ≡ part
      (part book (576 + 16 * book_heights book + 864 * i) 864) j k
  body_part_of j k h = sym (part_part book (576 + 16 * book_heights book + 864 * i) 864 j k h)

  pub read_leader : byte_at book (576 + 16 * i) ≡ (at (decode book) (suc i)).leader
  unfolding decode_height
  read_leader = rw (at_decode book i inside) (rw add-zero at (content_byte_of 0 (omega arith)))

  pub read_status : byte_at book (576 + 16 * i + 1) ≡ (at (decode book) (suc i)).status
  unfolding decode_height
  read_status = rw (at_decode book i inside) (content_byte_of 1 (omega arith))

  pub read_certificate_mask : word16 book (576 + 16 * i + 2) ≡ (at (decode book) (suc i)).certificate_mask
  unfolding decode_height
  read_certificate_mask = rw (at_decode book i inside) (content_word_of 2 (omega arith))

  pub read_dummy_mask : word16 book (576 + 16 * i + 4) ≡ (at (decode book) (suc i)).dummy_mask
  unfolding decode_height
  read_dummy_mask = rw (at_decode book i inside) (content_word_of 4 (omega arith))

  pub read_finalize_mask : word16 book (576 + 16 * i + 6) ≡ (at (decode book) (suc i)).finalize_mask
  unfolding decode_height
  read_finalize_mask = rw (at_decode book i inside) (content_word_of 6 (omega arith))

  pub read_voter_mask : word16 book (576 + 16 * i + 8) ≡ (at (decode book) (suc i)).voter_mask
  unfolding decode_height
  read_voter_mask = rw (at_decode book i inside) (content_word_of 8 (omega arith))

  pub read_proposal : part book (576 + 16 * book_heights book + 864 * i) 176 ≡ (at (decode book) (suc i)).proposal
  unfolding decode_height
  read_proposal = rw (at_decode book i inside) (rw add-zero at (body_part_of 0 176 (omega arith)))

  pub read_notarized : part book (576 + 16 * book_heights book + 864 * i + 176) 176 ≡ (at (decode book) (suc i)).notarized
  unfolding decode_height
  read_notarized = rw (at_decode book i inside) (body_part_of 176 176 (omega arith))

  pub read_vote_digests : part book (576 + 16 * book_heights book + 864 * i + 352) 512 ≡ (at (decode book) (suc i)
      ).vote_digests
  unfolding decode_height
  read_vote_digests = rw (at_decode book i inside) (body_part_of 352 512 (omega arith))

  -- the digest that replica `r` voted for
  pub read_vote : (r : ℕ) → r < 16 → part book (576 + 16 * book_heights book + 864 * i + 352 + 32 * r) 32 ≡ vote_of
      (at (decode book) (suc i)) r
  unfolding vote_of
  read_vote r h =
      sym (part_part book (576 + 16 * book_heights book + 864 * i + 352) 512 (32 * r) 32 (omega arith))
      ∙ rw read_vote_digests
