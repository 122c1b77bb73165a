-- What Register size and Read answer, and the chain that they walk.
use Rattle.std.specs.Prelude.{ℕ, ◌*◌, ◌≡◌, Bool, true, false, ◌&&◌, cond, List, [], take, drop, leb, Ok, Err}
use Rattle.std.proofs.Math.Path.{sym, ap}
use Rattle.std.proofs.Common.{◌∙◌}
use Rattle.std.proofs.Math.ListN.{length}
use Rattle.std.proofs.Math.Seq.{take_at}
use Rattle.sha256.specs.Digest.{sha256}
use Rattle.protocol.specs.Bytes.{Bytes, join, over_front}
use Rattle.protocol.specs.State.{State, decode}
use Rattle.protocol.specs.Sound.{view, sound, log}
use Rattle.protocol.specs.View.{log_of}
use Rattle.protocol.proofs.Laws.SoundLaws.{certified_state}
use Rattle.protocol.proofs.Laws.LogLaws.{view_formed, finalized_linked}
use Rattle.protocol.specs.Read.{log_size, size_call, read_part, read_buffer}
use Rattle.chains.specs.Walkable.{Walkable}
use Rattle.distinct_entries.specs.Taking.{part_read}
use Rattle.answers.specs.declared.refusal.Refusal.{Refusal}
use Rattle.answers.specs.Answers.{size_answer}
use Rattle.book_fields.specs.Book.{SoundBook}

-- ---- the log's chain
pub walkable : (book : Bytes) (g : ℕ) → SoundBook sha256 book → g ≡ (decode book).finalized → Walkable book g
walkable book g s e =
    rw e (record {
      shown = s.ready.readable;
      high = s.finalized_high;
      is_linked_lem = finalized_linked sha256 (decode book) (certified_state s.state);
      formed = view_formed sha256 (decode book) (certified_state s.state);
    })

pub log_at_lem : (s : State) (g : ℕ) → g ≡ s.finalized → log_of (view s) g ≡ log s
unfolding log
log_at_lem s g e = ap (λ (h : ℕ). log_of (view s) h) e

-- ---- Register size
module _ (book : Bytes) where
  pub size_unsound : sound sha256 book ≡ false → size_answer (Err Refusal.Unsound) ≡ size_call sha256 book
  unfolding size_call
  size_unsound e = rw e

  pub size_sound : (count : ℕ) → sound sha256 book ≡ true → count ≡ length (log (decode book)) →
      size_answer (Ok (16 * count)) ≡ size_call sha256 book
  unfolding size_call log_size
  size_sound count e f = rw (e, f)

-- ---- Read, of a book of either kind: whether it is sound, and what it says
abbrev part_of : Bool → State → Bytes → Bytes
part_of is_sound_lem s buffer = cond (is_sound_lem && leb (16 * length (log s)) (length buffer)) (join (log s)) []

-- the part that is read has this length, and the buffer is this after it
abbrev pub Reads : Bytes → Bytes → ℕ → Bytes → Type 0
Reads part buffer count after = (count ≡ length part) × (after ≡ over_front part buffer)

module _ (is_sound_lem : Bool) (s : State) (buffer : Bytes) where
  none_read : part_of is_sound_lem s buffer ≡ [] → Reads (part_of is_sound_lem s buffer) buffer 0 buffer
  unfolding over_front
  none_read e = (sym (ap length e), sym (ap (λ (p : Bytes). over_front p buffer) e))

  pub unsound_reads : is_sound_lem ≡ false → Reads (part_of is_sound_lem s buffer) buffer 0 buffer
  unsound_reads e = none_read (rw e)

  -- a sound book's part is what is read of the chain that ends at its finalized height
  pub sound_reads : is_sound_lem ≡ true → (g : ℕ) → g ≡ s.finalized → (count : ℕ) (after : Bytes) →
      count ≡ length (part_read (view s) g buffer) → after ≡ over_front (part_read (view s) g buffer) buffer →
      Reads (part_of is_sound_lem s buffer) buffer count after
  sound_reads e g f count after counted written =
      let same : part_read (view s) g buffer ≡ part_of is_sound_lem s buffer =
      ap (λ (l : List Bytes). cond (leb (16 * length l) (length buffer)) (join l) []) (log_at_lem s g f) ∙ rw e in
      (counted ∙ ap length same, written ∙ ap (λ (p : Bytes). over_front p buffer) same)

-- the part at the buffer's front
module _ (part buffer after : Bytes) (count : ℕ) (reads : Reads part buffer count after) where
  pub part_front : take count after ≡ part
  unfolding over_front
  part_front = ap (take count) reads.1 ∙ take_at part (drop (length part) buffer) count (sym reads.0)

  pub part_length : count ≡ length (take count after)
  part_length = reads.0 ∙ sym (ap length part_front)

-- ---- Read of a replica
module _ (book buffer : Bytes) where
  pub read_unsound : sound sha256 book ≡ false → (0 ≡ length (read_part sha256 book buffer)) ×
      (buffer ≡ read_buffer sha256 book buffer)
  unfolding read_part read_buffer log_size
  read_unsound e = unsound_reads (sound sha256 book) (decode book) buffer e

  pub read_done : sound sha256 book ≡ true → (g : ℕ) → g ≡ (decode book).finalized → (count : ℕ) (after : Bytes) →
      count ≡ length (part_read (view (decode book)) g buffer) →
      after ≡ over_front (part_read (view (decode book)) g buffer) buffer →
      (count ≡ length (read_part sha256 book buffer)) × (after ≡ read_buffer sha256 book buffer)
  unfolding read_part read_buffer log_size
  read_done e g f count after counted written =
      sound_reads (sound sha256 book) (decode book) buffer e g f count after counted written

module _ (book buffer after : Bytes) (count : ℕ) (counted : count ≡ length (read_part sha256 book buffer))
    (written : after ≡ read_buffer sha256 book buffer) where
  pub read_front : take count after ≡ read_part sha256 book buffer
  unfolding read_buffer
  read_front = part_front (read_part sha256 book buffer) buffer after count (counted, written)

  pub read_length : count ≡ length (take count after)
  unfolding read_buffer
  read_length = part_length (read_part sha256 book buffer) buffer after count (counted, written)
