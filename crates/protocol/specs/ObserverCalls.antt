-- The calls of an observer: Open, Deliver of certificates, Move, which outputs, Register size and Read.
use Rattle.std.specs.Prelude.{ℕ, ◌*◌, ◌&&◌, cond, List, [], ◌∷◌, ◌++◌, length, replicate, eqb, leb}
use Rattle.std.proofs.Math.Option.{Option, some, none}
use Rattle.protocol.specs.Bytes.{Bytes, zeros, join, over_front}
use Rattle.protocol.specs.Tests.{all_of, in_range, Row, first_refusal}
use Rattle.protocol.specs.Block.{entry_size}
use Rattle.protocol.specs.Frame.{kind, frame_height, frame_well_formed, is_certificate}
use Rattle.protocol.specs.State.{State, Height, with_height, maximum_replicas, most_heights, padded}
use Rattle.protocol.specs.Open.{Opening, opened_edition, opened_weights, weights_in_range}
use Rattle.protocol.specs.Sound.{log}
use Rattle.protocol.specs.Answer.{Answer, Outcome, Done, Delivery, Move, done, known, fresh, refused, accepted}
use Rattle.protocol.specs.Answer.{unless_refused}
use Rattle.protocol.specs.Deliver.{read_rows, clash_rows, keep}
use Rattle.protocol.specs.Move.{Step, first_step, idle_step, output_applies, output_step}
use Rattle.protocol.specs.Observer.{Observer, ObservedHeight, observed, observer_state, encode_observer}
use Rattle.protocol.specs.Observer.{observer_book_size}
use Rattle.protocol.specs.ObserverSound.{observer_sound}

-- ---- Open
unfoldable pub new_observed_height : ObservedHeight
new_observed_height = record {
  status = 0;
  certificate_mask = 0;
  dummy_mask = 0;
  finalize_mask = 0;
  notarized = zeros 176;
}

unfoldable pub new_observer : Opening → ℕ → ℕ → Observer
new_observer way n heights = record {
  edition = opened_edition way;
  n = n;
  weights = padded (opened_weights n way);
  finalized = 0;
  heights = replicate heights new_observed_height;
}

unfoldable pub observer_open_rows : Opening → Bytes → ℕ → ℕ → List Row
observer_open_rows way book n heights = (
  2,
  all_of
      (in_range 1 maximum_replicas n ∷ in_range 1 (most_heights (opened_edition way)) heights ∷ weights_in_range n way ∷ []),
) ∷
    (1, eqb (length book) (observer_book_size heights)) ∷ []

unfoldable pub observer_open_call : Opening → Bytes → ℕ → ℕ → Outcome Done
observer_open_call way book n heights =
    unless_refused (first_refusal (observer_open_rows way book n heights)) book
    (record { answer = accepted done; book = encode_observer (new_observer way n heights) })

-- ---- Deliver
-- the observer's book after a certificate: what document 01's rule keeps of it at its height, if anything
unfoldable pub observer_kept : Bytes → Bytes → Option Height → Outcome Delivery
observer_kept book frame none = record { answer = accepted known; book = book }
observer_kept book frame (some x) = record {
  answer = accepted fresh;
  book = encode_observer (observed (with_height (observer_state book) (frame_height frame) x));
}

-- ---- Register size
-- the length of the log in bytes
unfoldable pub observer_log_size : Bytes → ℕ
observer_log_size book = entry_size * length (log (observer_state book))

module _ (digest : Bytes → Bytes) where
  -- a frame of kinds 1 to 4 is refused with 16; a certificate meets document 01's rows, of which 4 has passed by then,
  -- and 7 and 8 ask nothing of it
  unfoldable pub observer_deliver_rows : Bytes → Bytes → List Row
  observer_deliver_rows book frame =
      let s : State = observer_state book in
      (1, observer_sound digest book) ∷
      (4, frame_well_formed frame) ∷
      (16, is_certificate (kind frame)) ∷ (read_rows s frame ++ clash_rows s frame)

  unfoldable pub observer_deliver_call : Bytes → Bytes → Outcome Delivery
  observer_deliver_call book frame =
      unless_refused (first_refusal (observer_deliver_rows book frame)) book
      (observer_kept book frame (keep digest (observer_state book) frame))

  -- ---- Move: of the five moves the second alone
  unfoldable pub observer_step : State → Step
  observer_step s = first_step ((output_applies digest s, output_step digest s) ∷ []) (idle_step s)

  unfoldable pub observer_moved : Step → Outcome Move
  observer_moved st = record { answer = accepted st.move; book = encode_observer (observed st.after) }

  unfoldable pub observer_move_rows : Bytes → List Row
  observer_move_rows book = (1, observer_sound digest book) ∷ []

  unfoldable pub observer_move_call : Bytes → Outcome Move
  observer_move_call book =
      unless_refused (first_refusal (observer_move_rows book)) book (observer_moved (observer_step (observer_state book)))

  -- ---- Register size and Read
  unfoldable pub observer_size_call : Bytes → Answer ℕ
  observer_size_call book = cond (observer_sound digest book) (accepted (observer_log_size book)) (refused 1)

  -- the part that a reading returns: the entries of the log, or the empty part
  unfoldable pub observer_read_part : Bytes → Bytes → Bytes
  observer_read_part book buffer =
      cond (observer_sound digest book && leb (observer_log_size book) (length buffer))
      (join (log (observer_state book))) []

  -- the lent buffer after a reading
  unfoldable pub observer_read_buffer : Bytes → Bytes → Bytes
  observer_read_buffer book buffer = over_front (observer_read_part book buffer) buffer
