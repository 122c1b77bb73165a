-- What Register size and Read of an observer answer, and the chain that they walk.
use Rattle.std.specs.Prelude.{ℕ, ◌*◌, ◌≡◌, true, false, length, take, Ok, Err}
use Rattle.sha256.specs.Digest.{sha256}
use Rattle.protocol.specs.Bytes.{Bytes, over_front}
use Rattle.protocol.specs.Sound.{view, log}
use Rattle.protocol.specs.Observer.{observer_state}
use Rattle.protocol.specs.ObserverSound.{observer_sound}
use Rattle.protocol.specs.ObserverCalls.{observer_log_size, observer_size_call, observer_read_part}
use Rattle.protocol.specs.ObserverCalls.{observer_read_buffer}
use Rattle.protocol.proofs.Laws.ObserverSoundLaws.{certified_observer}
use Rattle.protocol.proofs.Laws.LogLaws.{view_formed, finalized_linked}
use Rattle.chains.specs.Walkable.{WalkableAs}
use Rattle.distinct_entries.specs.Taking.{part_read}
use Rattle.answers.specs.declared.refusal.Refusal.{Refusal}
use Rattle.answers.specs.Answers.{size_answer}
use Rattle.book_fields.specs.Book.{SoundObserverBook}
use Rattle.book_fields.specs.Kinds.{ObserverBook}
use Rattle.log_calls.specs.Laws.ReadLaws.{unsound_reads, sound_reads, part_front, part_length}

-- the log's chain
pub observer_walkable : (book : Bytes) (g : ℕ) → SoundObserverBook sha256 book → g ≡ (observer_state book).finalized →
    WalkableAs ObserverBook book g
observer_walkable book g s e =
    rw e (record {
      shown = s.ready.readable;
      high = s.finalized_high;
      is_linked_lem = finalized_linked sha256 (observer_state book) (certified_observer s.state);
      formed = view_formed sha256 (observer_state book) (certified_observer s.state);
    })

-- ---- Register size
module _ (book : Bytes) where
  pub observer_size_unsound : observer_sound sha256 book ≡ false →
      size_answer (Err Refusal.Unsound) ≡ observer_size_call sha256 book
  unfolding observer_size_call
  observer_size_unsound e = rw e

  pub observer_size_sound : (count : ℕ) → observer_sound sha256 book ≡ true →
      count ≡ length (log (observer_state book)) →
      size_answer (Ok (16 * count)) ≡ observer_size_call sha256 book
  unfolding observer_size_call observer_log_size
  observer_size_sound count e f = rw (e, f)

-- ---- Read
module _ (book buffer : Bytes) where
  pub observer_read_unsound : observer_sound sha256 book ≡ false →
      (0 ≡ length (observer_read_part sha256 book buffer)) × (buffer ≡ observer_read_buffer sha256 book buffer)
  unfolding observer_read_part observer_read_buffer observer_log_size
  observer_read_unsound e = unsound_reads (observer_sound sha256 book) (observer_state book) buffer e

  pub observer_read_done : observer_sound sha256 book ≡ true → (g : ℕ) → g ≡ (observer_state book).finalized →
      (count : ℕ) (after : Bytes) → count ≡ length (part_read (view (observer_state book)) g buffer) →
      after ≡ over_front (part_read (view (observer_state book)) g buffer) buffer →
      (count ≡ length (observer_read_part sha256 book buffer)) × (after ≡ observer_read_buffer sha256 book buffer)
  unfolding observer_read_part observer_read_buffer observer_log_size
  observer_read_done e g f count after counted written =
      sound_reads (observer_sound sha256 book) (observer_state book) buffer e g f count after counted written

module _ (book buffer after : Bytes) (count : ℕ) (counted : count ≡ length (observer_read_part sha256 book buffer))
    (written : after ≡ observer_read_buffer sha256 book buffer) where
  pub observer_read_front : take count after ≡ observer_read_part sha256 book buffer
  unfolding observer_read_buffer
  observer_read_front = part_front (observer_read_part sha256 book buffer) buffer after count (counted, written)

  pub observer_read_length : count ≡ length (take count after)
  unfolding observer_read_buffer
  observer_read_length = part_length (observer_read_part sha256 book buffer) buffer after count (counted, written)
