-- What the calls of an observer answer fits its places too, and the header's functions give it back.
use Rattle.std.specs.Prelude.{ℕ, ◌≤◌, ◌≡◌, ◌||◌, cond, eqb}
use native.Mathlib.Omega.{arith}
use Rattle.std.proofs.Math.Path.{refl}
use Rattle.std.proofs.Math.Option.{Option, some, none}
use Rattle.protocol.specs.Bytes.{Bytes}
use Rattle.protocol.specs.Block.{maximum_heights}
use Rattle.protocol.specs.State.{Height, last}
use Rattle.protocol.specs.Sound.{view}
use Rattle.protocol.specs.Open.{Opening}
use Rattle.protocol.specs.Move.{new_finalized}
use Rattle.protocol.specs.Answer.{Answer, Outcome, Move, move_number, move_height}
use Rattle.protocol.specs.Open.{Opening}
use Rattle.protocol.proofs.Laws.SoundLaws.{most_heights_lem}
use Rattle.protocol.specs.Deliver.{read_rows, clash_rows, keep}
use Rattle.protocol.specs.Observer.{decode_observer, observer_state}
use Rattle.protocol.specs.ObserverSound.{observer_sound}
use Rattle.protocol.specs.ObserverCalls.{observer_open_rows, observer_open_call, observer_deliver_rows, observer_deliver_call}
use Rattle.protocol.specs.ObserverCalls.{observer_kept, observer_move_rows, observer_move_call, observer_moved}
use Rattle.protocol.specs.ObserverCalls.{observer_log_size, observer_size_call}
use Rattle.protocol.proofs.Laws.TestsLaws.{cond-elim}
use Rattle.protocol.proofs.Laws.ParentLaws.{largest_finalized-is}
use Rattle.protocol.proofs.Laws.LogLaws.{log_few}
use Rattle.protocol.proofs.Laws.ObserverCodecLaws.{count_observed, last_observed}
use Rattle.protocol.proofs.Laws.ObserverSoundLaws.{sound_observer, certified_observer}
use Rattle.protocol.proofs.Laws.ObserverDeliverLaws.{observer_move_cases}
use Rattle.protocol.specs.Tests.{in_range}
use Rattle.answers.specs.MoveNumbers.{answer_numbers}
use Rattle.packing.specs.Packing.{packed_done, packed_delivery, packed_move, packed_size}
use Rattle.packing.specs.Packing.{answered_height, answered_size}
use Rattle.packing.specs.Unpacking.{Numbered, DoneRead, DeliveryRead, MoveRead, SizeRead}
use Rattle.packing.specs.Unpacking.{unpacked_frames, unpacked_finalize}
use Rattle.packing.proofs.Laws.NumberedLaws.{all_numbered, accepted_numbered, refused_numbered, outcome_numbered}
use Rattle.packing.proofs.Laws.ReadBackLaws.{done_read_back, delivery_read_back, move_read_back, size_read_back}

pub observer_open_read : (way : Opening) (book : Bytes) (n heights : ℕ) →
    DoneRead (packed_done (observer_open_call way book n heights).answer) (observer_open_call way book n heights).answer
unfolding observer_open_call observer_open_rows all_numbered in_range
observer_open_read way book n heights = done_read_back _ (outcome_numbered _ refl book _ (accepted_numbered _))

-- how many frames the header's function tells, by the move's number
abbrev frames_of : Answer Move → ℕ
frames_of a =
    cond (eqb (answer_numbers a).move 0 || eqb (answer_numbers a).move 2) 0
    (cond (eqb (unpacked_finalize (packed_move a)) 0) 1 2)

module _ (digest : Bytes → Bytes) (book : Bytes) where
  kept_numbered : (frame : Bytes) (y : Option Height) → Numbered (observer_kept book frame y).answer
  unfolding observer_kept
  kept_numbered frame none = accepted_numbered _
  kept_numbered frame (some y) = accepted_numbered _

  pub observer_deliver_read : (frame : Bytes) →
      DeliveryRead (packed_delivery (observer_deliver_call digest book frame).answer)
      (observer_deliver_call digest book frame).answer
  unfolding observer_deliver_call observer_deliver_rows read_rows clash_rows all_numbered in_range
  observer_deliver_read frame = delivery_read_back _
      (outcome_numbered _ refl book _ (kept_numbered frame (keep digest (observer_state book) frame)))

  -- ---- Move: it outputs a height of the book, or is idle and names 0
  pub observer_move_low : answered_height (observer_move_call digest book).answer ≤ maximum_heights
  unfolding move_height new_finalized
  observer_move_low = observer_move_cases digest book
      (λ (o : Outcome Move). answered_height o.answer ≤ maximum_heights)
      (λ _. omega arith)
      (λ _ _. omega arith)
      (λ was_sound _. omega (
        arith,
        (largest_finalized-is digest (view (observer_state book)) (last (observer_state book))).within,
        last_observed book,
        count_observed book,
        (sound_observer digest book was_sound).last_most,
        most_heights_lem (decode_observer book).edition,
      ))

  pub observer_move_read :
      MoveRead (packed_move (observer_move_call digest book).answer) (observer_move_call digest book).answer
  observer_move_read = move_read_back _ numbered observer_move_low
    where
      numbered : Numbered (observer_move_call digest book).answer
      numbered = unfold observer_move_call observer_move_rows observer_moved all_numbered in_range in
          outcome_numbered _ refl book _ (accepted_numbered _)

  -- it writes no frame, and the header's functions say so
  pub observer_frames_read : unpacked_frames (packed_move (observer_move_call digest book).answer) ≡ 0
  unfolding unpacked_frames
  observer_frames_read = rw observer_move_read.move none_written
    where
      none_written : frames_of (observer_move_call digest book).answer ≡ 0
      none_written = unfold answer_numbers move_number in
          observer_move_cases digest book (λ (o : Outcome Move). frames_of o.answer ≡ 0) (λ _. refl) (λ _ _. refl)
          (λ _ _. refl)

  -- ---- Register size: 16 bytes for each of at most 8,000 entries
  pub observer_size_low : answered_size (observer_size_call digest book) ≤ 128000
  unfolding observer_size_call observer_log_size
  observer_size_low =
      cond-elim (λ (a : Answer ℕ). answered_size a ≤ 128000) (observer_sound digest book)
      (λ e. omega (arith, log_few digest (observer_state book) (certified_observer (sound_observer digest book e))))
      (λ _. omega arith)

  pub observer_size_read : SizeRead (packed_size (observer_size_call digest book)) (observer_size_call digest book)
  unfolding observer_size_call
  observer_size_read = size_read_back _
      (cond-elim Numbered (observer_sound digest book)
      (λ _. accepted_numbered _)
      (λ _. refused_numbered 1 (omega arith, omega arith)))
