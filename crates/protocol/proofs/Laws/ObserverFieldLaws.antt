-- Where a reader finds each field of the state that an observer's book says; height `suc i` counts from 0 in the bytes.
use Rattle.std.specs.Prelude.{ℕ, suc, ◌+◌, ◌*◌, ◌<◌, ◌≡◌, refl}
use Rattle.std.proofs.Common.{arith, sym}
use Rattle.std.proofs.Math.Nat.{add-zero}
use Rattle.protocol.specs.Bytes.{Bytes, byte_at, word16, part}
use Rattle.protocol.specs.State.{at, book_heights, book_finalized}
use Rattle.protocol.specs.Observer.{as_replica, as_replica_height, decode_observer, decode_observed_height}
use Rattle.protocol.specs.Observer.{observer_state}
use Rattle.protocol.proofs.Laws.BytesLaws.{byte_part, word_part}
use Rattle.protocol.proofs.Laws.ObserverCodecLaws.{at_observed}

-- ---- the head
pub read_observer_n : (book : Bytes) → byte_at book 0 ≡ (observer_state book).n
unfolding decode_observer as_replica
read_observer_n book = refl

pub read_observer_finalized : (book : Bytes) → book_finalized book ≡ (observer_state book).finalized
unfolding decode_observer as_replica
read_observer_finalized book = refl

-- ---- one height
module _ (book : Bytes) (i : ℕ) (inside : i < book_heights book) where
  -- a byte and a 16-bit number of its contents
  content_byte_of : (j : ℕ) → j < 8 → byte_at book (64 + 8 * i + j) ≡ byte_at (part book (64 + 8 * i) 8) j
  content_byte_of j h = sym (byte_part book (64 + 8 * i) 8 j h)

  content_word_of : (j : ℕ) → j + 1 < 8 → word16 book (64 + 8 * i + j) ≡ word16 (part book (64 + 8 * i) 8) j
  content_word_of j h = sym (word_part book (64 + 8 * i) 8 j h)

  pub read_observed_status : byte_at book (64 + 8 * i) ≡ (at (observer_state book) (suc i)).status
  unfolding decode_observed_height as_replica_height
  read_observed_status = rw (at_observed book i inside) (rw add-zero at (content_byte_of 0 (omega arith)))

  pub read_observed_certificate : word16 book (64 + 8 * i + 2) ≡ (at (observer_state book) (suc i)).certificate_mask
  unfolding decode_observed_height as_replica_height
  read_observed_certificate = rw (at_observed book i inside) (content_word_of 2 (omega arith))

  pub read_observed_dummy : word16 book (64 + 8 * i + 4) ≡ (at (observer_state book) (suc i)).dummy_mask
  unfolding decode_observed_height as_replica_height
  read_observed_dummy = rw (at_observed book i inside) (content_word_of 4 (omega arith))

  pub read_observed_finalize : word16 book (64 + 8 * i + 6) ≡ (at (observer_state book) (suc i)).finalize_mask
  unfolding decode_observed_height as_replica_height
  read_observed_finalize = rw (at_observed book i inside) (content_word_of 6 (omega arith))

  pub read_observed_notarized : part book (64 + 8 * book_heights book + 176 * i) 176 ≡
      (at (observer_state book) (suc i)).notarized
  unfolding decode_observed_height as_replica_height
  read_observed_notarized = rw (at_observed book i inside)
