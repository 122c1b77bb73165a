-- Written by tests/restated --write: what docs/statements has of
-- crates/protocol/specs/ObserverCalls.antt.
use Rattle.std.specs.Prelude.{ℕ, ◌*◌, ◌&&◌, cond, List, [], ◌∷◌, ◌++◌, length, replicate, eqb, leb}
use Rattle.std.proofs.Math.Option.{Option, some, none}
use package.Rattle.protocol.specs.Bytes.{Bytes, zeros, join, over_front}
use package.Rattle.protocol.specs.Tests.{all_of, in_range, Row, first_refusal}
use package.Rattle.protocol.specs.Block.{entry_size}
use package.Rattle.protocol.specs.Frame.{kind, frame_height, frame_well_formed, is_certificate}
use package.Rattle.protocol.specs.State.{State, Height, with_height, maximum_replicas, most_heights, padded}
use package.Rattle.protocol.specs.Open.{Opening, opened_edition, opened_weights, weights_in_range}
use package.Rattle.protocol.specs.Sound.{log}
use package.Rattle.protocol.specs.Answer.{Answer, Outcome, Done, Delivery, Move, done, known, fresh, refused, accepted}
use package.Rattle.protocol.specs.Answer.{unless_refused}
use package.Rattle.protocol.specs.Deliver.{read_rows, clash_rows, keep}
use package.Rattle.protocol.specs.Move.{Step, first_step, idle_step, output_applies, output_step}
use package.Rattle.protocol.specs.Observer.{Observer, ObservedHeight, observed, observer_state, encode_observer}
use package.Rattle.protocol.specs.Observer.{observer_book_size}
use package.Rattle.protocol.specs.ObserverSound.{observer_sound}
use package.Rattle.protocol.specs.ObserverCalls.{new_observed_height, new_observer, observer_open_rows, observer_kept, observer_log_size}
use mathlib.Core.Path.{◌≡◌ as ◌is-kept◌, refl as by-text}
use package.Rattle.protocol.specs.ObserverCalls as page

new_observed_height-kept : ObservedHeight
new_observed_height-kept = record {
  status = 0;
  certificate_mask = 0;
  dummy_mask = 0;
  finalize_mask = 0;
  notarized = zeros 176;
}

same-new_observed_height : new_observed_height-kept is-kept page.new_observed_height
unfolding new_observed_height-kept page.new_observed_height
same-new_observed_height = by-text

new_observer-kept : Opening → ℕ → ℕ → Observer
new_observer-kept way n heights = record {
  edition = opened_edition way;
  n = n;
  weights = padded (opened_weights n way);
  finalized = 0;
  heights = replicate heights new_observed_height;
}

same-new_observer : new_observer-kept is-kept page.new_observer
unfolding new_observer-kept page.new_observer
same-new_observer = by-text

observer_open_rows-kept : Opening → Bytes → ℕ → ℕ → List Row
observer_open_rows-kept way book n heights = (
  2,
  all_of
      (in_range 1 maximum_replicas n ∷ in_range 1 (most_heights (opened_edition way)) heights ∷ weights_in_range n way ∷ []),
) ∷
    (1, eqb (length book) (observer_book_size heights)) ∷ []

same-observer_open_rows : observer_open_rows-kept is-kept page.observer_open_rows
unfolding observer_open_rows-kept page.observer_open_rows
same-observer_open_rows = by-text

observer_open_call-kept : Opening → Bytes → ℕ → ℕ → Outcome Done
observer_open_call-kept way book n heights =
    unless_refused (first_refusal (observer_open_rows way book n heights)) book
    (record { answer = accepted done; book = encode_observer (new_observer way n heights) })

same-observer_open_call : observer_open_call-kept is-kept page.observer_open_call
unfolding observer_open_call-kept page.observer_open_call
same-observer_open_call = by-text

observer_kept-kept : Bytes → Bytes → Option Height → Outcome Delivery
observer_kept-kept book frame none = record { answer = accepted known; book = book }
observer_kept-kept book frame (some x) = record {
  answer = accepted fresh;
  book = encode_observer (observed (with_height (observer_state book) (frame_height frame) x));
}

same-observer_kept : observer_kept-kept is-kept page.observer_kept
unfolding observer_kept-kept page.observer_kept
same-observer_kept = by-text

observer_log_size-kept : Bytes → ℕ
observer_log_size-kept book = entry_size * length (log (observer_state book))

same-observer_log_size : observer_log_size-kept is-kept page.observer_log_size
unfolding observer_log_size-kept page.observer_log_size
same-observer_log_size = by-text

module _ (digest : Bytes → Bytes) where
  abbrev observer_deliver_rows : Bytes → Bytes → List Row
  observer_deliver_rows = page.observer_deliver_rows digest

  abbrev observer_step : State → Step
  observer_step = page.observer_step digest

  abbrev observer_moved : Step → Outcome Move
  observer_moved = page.observer_moved digest

  abbrev observer_move_rows : Bytes → List Row
  observer_move_rows = page.observer_move_rows digest

  abbrev observer_read_part : Bytes → Bytes → Bytes
  observer_read_part = page.observer_read_part digest

  observer_deliver_rows-kept : Bytes → Bytes → List Row
  observer_deliver_rows-kept book frame =
      let s : State = observer_state book in
      (1, observer_sound digest book) ∷
      (4, frame_well_formed frame) ∷
      (16, is_certificate (kind frame)) ∷ (read_rows s frame ++ clash_rows s frame)

  same-observer_deliver_rows : observer_deliver_rows-kept is-kept page.observer_deliver_rows digest
  unfolding observer_deliver_rows-kept page.observer_deliver_rows
  same-observer_deliver_rows = by-text

  observer_deliver_call-kept : Bytes → Bytes → Outcome Delivery
  observer_deliver_call-kept book frame =
      unless_refused (first_refusal (observer_deliver_rows book frame)) book
      (observer_kept book frame (keep digest (observer_state book) frame))

  same-observer_deliver_call : observer_deliver_call-kept is-kept page.observer_deliver_call digest
  unfolding observer_deliver_call-kept page.observer_deliver_call
  same-observer_deliver_call = by-text

  observer_step-kept : State → Step
  observer_step-kept s = first_step ((output_applies digest s, output_step digest s) ∷ []) (idle_step s)

  same-observer_step : observer_step-kept is-kept page.observer_step digest
  unfolding observer_step-kept page.observer_step
  same-observer_step = by-text

  observer_moved-kept : Step → Outcome Move
  observer_moved-kept st = record { answer = accepted st.move; book = encode_observer (observed st.after) }

  same-observer_moved : observer_moved-kept is-kept page.observer_moved digest
  unfolding observer_moved-kept page.observer_moved
  same-observer_moved = by-text

  observer_move_rows-kept : Bytes → List Row
  observer_move_rows-kept book = (1, observer_sound digest book) ∷ []

  same-observer_move_rows : observer_move_rows-kept is-kept page.observer_move_rows digest
  unfolding observer_move_rows-kept page.observer_move_rows
  same-observer_move_rows = by-text

  observer_move_call-kept : Bytes → Outcome Move
  observer_move_call-kept book =
      unless_refused (first_refusal (observer_move_rows book)) book (observer_moved (observer_step (observer_state book)))

  same-observer_move_call : observer_move_call-kept is-kept page.observer_move_call digest
  unfolding observer_move_call-kept page.observer_move_call
  same-observer_move_call = by-text

  observer_size_call-kept : Bytes → Answer ℕ
  observer_size_call-kept book = cond (observer_sound digest book) (accepted (observer_log_size book)) (refused 1)

  same-observer_size_call : observer_size_call-kept is-kept page.observer_size_call digest
  unfolding observer_size_call-kept page.observer_size_call
  same-observer_size_call = by-text

  observer_read_part-kept : Bytes → Bytes → Bytes
  observer_read_part-kept book buffer =
      cond (observer_sound digest book && leb (observer_log_size book) (length buffer))
      (join (log (observer_state book))) []

  same-observer_read_part : observer_read_part-kept is-kept page.observer_read_part digest
  unfolding observer_read_part-kept page.observer_read_part
  same-observer_read_part = by-text

  observer_read_buffer-kept : Bytes → Bytes → Bytes
  observer_read_buffer-kept book buffer = over_front (observer_read_part book buffer) buffer

  same-observer_read_buffer : observer_read_buffer-kept is-kept page.observer_read_buffer digest
  unfolding observer_read_buffer-kept page.observer_read_buffer
  same-observer_read_buffer = by-text
