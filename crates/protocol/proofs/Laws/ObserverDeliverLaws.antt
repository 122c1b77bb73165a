-- Deliver of an observer: what a certificate that is not refused has passed, what it keeps, and the three ways in which
-- a delivery ends. Move of an observer: the three ways in which it ends.
use Rattle.std.specs.Prelude.{ℕ, ◌-◌, ◌≤◌, ◌≡◌, Bool, cond, eqb}
use Rattle.std.proofs.Common.{arith, sym}
use Rattle.std.proofs.Math.Path.{refl, subst}
use Rattle.std.proofs.Math.Bool.{true, false}
use Rattle.std.proofs.Math.Option.{Option, some, none}
use Rattle.protocol.specs.SoundState.{ShapedHeight, Shaped}
use Rattle.protocol.specs.ReadFrame.{ReadFrame}
use Rattle.protocol.specs.Bytes.{Bytes}
use Rattle.protocol.specs.Tests.{first_refusal}
use Rattle.protocol.specs.Frame.{kind, frame_height, frame_block, is_certificate, signer_mask}
use Rattle.protocol.specs.Mask.{union}
use Rattle.protocol.specs.State.{State, Height, at, last, with_height, is_notarized}
use Rattle.protocol.specs.Answer.{Outcome, Delivery, Move, refused, accepted, known, fresh, idle, output}
use Rattle.protocol.specs.Answer.{unless_refused}
use Rattle.protocol.specs.Deliver.{read_rows, clash_rows, keep, keep_block_certificate, keep_dummy_certificate}
use Rattle.protocol.specs.Deliver.{keep_finalize_certificate}
use Rattle.protocol.specs.Move.{new_finalized, output_applies, output_step, first_step, idle_step}
use Rattle.protocol.specs.Observer.{Observer, as_replica, as_replica_height, observed, observed_height}
use Rattle.protocol.specs.Observer.{observer_state, encode_observer, decode_observer}
use Rattle.protocol.specs.ObserverSound.{observer_sound}
use Rattle.protocol.specs.ObserverCalls.{observer_deliver_rows, observer_deliver_call, observer_kept, observer_move_rows}
use Rattle.protocol.specs.ObserverCalls.{observer_move_call, observer_moved, observer_step, new_observed_height}
use Rattle.protocol.proofs.Laws.ChangeLaws.{shaped_masks, shaped_notarized}
use Rattle.protocol.proofs.Laws.RowLaws.{row_passes, split_rows, in_range_lem}
use Rattle.protocol.proofs.Laws.DeliverLaws.{Agrees, OnSome, unless_known, rows_read, clash_facts, keep_cases}
use Rattle.protocol.proofs.Laws.DeliverLaws.{block_size_lem}
use Rattle.protocol.proofs.Laws.PlaceLaws.{shaped_at, shaped_with, suc_pred}
use Rattle.protocol.proofs.Laws.ObserverStateLaws.{ObservingHeight, observing_as, observing_with, observing_masks}
use Rattle.protocol.proofs.Laws.ObserverStateLaws.{observed_as}
use Rattle.protocol.proofs.Laws.ObserverStateLaws.{observing_notarized, last_as, at_as}
use Rattle.protocol.proofs.Laws.ObserverStateLaws.{state_encode_observer}

-- ---- the rows
-- what a delivery that is not refused has tested
pub record ObserverAccepts (digest : Bytes → Bytes) (book frame : Bytes) : Type 0 where
  pub was_sound : observer_sound digest book ≡ true
  pub certificate : 5 ≤ kind frame
  pub passes : first_refusal (read_rows (observer_state book) frame) ≡ none
  pub read : ReadFrame (observer_state book) frame
  pub agrees : Agrees (observer_state book) frame

pub certificate_high : (k : ℕ) → is_certificate k ≡ true → 5 ≤ k
unfolding is_certificate
certificate_high k e = (in_range_lem 5 7 k e).0

pub observer_accepts : (digest : Bytes → Bytes) (book frame : Bytes) →
    first_refusal (observer_deliver_rows digest book frame) ≡ none → ObserverAccepts digest book frame
unfolding observer_deliver_rows
observer_accepts digest book frame e =
    let (is_sound_lem, formed-on) = row_passes _ _ e in
    let (formed, certificate-on) = row_passes _ _ formed-on in
    let (certificate, rest) = row_passes _ _ certificate-on in
    let (passes, clash) = split_rows (read_rows (observer_state book) frame) (clash_rows (observer_state book) frame)
    rest in
    record {
      was_sound = is_sound_lem;
      certificate = certificate_high (kind frame) certificate;
      passes = passes;
      read = rows_read (observer_state book) frame passes;
      agrees = clash_facts (observer_state book) frame clash;
    }

-- ---- what is kept has nothing but what an observer keeps, and the right sizes
pub observing_at : (o : Observer) (h : ℕ) → 1 ≤ h → h ≤ last (as_replica o) → ObservingHeight (at (as_replica o) h)
observing_at o h low high =
    let count = last_as o in
    subst (λ (j : ℕ). ObservingHeight (at (as_replica o) j)) (suc_pred h low)
    (rw (at_as o (h - 1) new_observed_height (omega arith)) (unfold as_replica_height in unfold observed_height in refl))

module _ (digest : Bytes → Bytes) (o : Observer) (frame : Bytes) (shaped : Shaped (as_replica o))
    (certificate : 5 ≤ kind frame) (read : ReadFrame (as_replica o) frame) where
  abbrev s : State
  s = as_replica o

  abbrev h : ℕ
  h = frame_height frame

  abbrev x : Height
  x = at s h

  -- what an observer can keep
  abbrev Fits : Height → Type 0
  Fits y = ObservingHeight y × ShapedHeight y

  observing : ObservingHeight x
  observing = observing_at o h read.low read.high

  shaped_here : ShapedHeight x
  shaped_here =
      let low = read.low in
      let high = read.high in
      subst (λ (j : ℕ). ShapedHeight (at s j)) (suc_pred h low) (shaped_at s (h - 1) shaped (omega arith))

  never : {A : Type 0} (k : ℕ) → k ≤ 4 → kind frame ≡ k → A
  never k few is = absurd (omega arith)

  pub certificate_kept : OnSome (λ y. ObservingHeight y × ShapedHeight y) (keep digest s frame)
  unfolding keep_block_certificate keep_dummy_certificate keep_finalize_certificate
  certificate_kept = keep_cases digest s frame read (λ _. OnSome Fits)
      (never 1 (omega arith)) (never 2 (omega arith)) (never 3 (omega arith)) (never 4 (omega arith))
      (λ _. unless_known Fits (is_notarized x) (λ _. (
        observing_notarized x observing (signer_mask frame) (frame_block frame),
        shaped_notarized x (signer_mask frame) (frame_block frame) (block_size_lem read) shaped_here,
      )))
      (λ _. unless_known Fits (eqb (union s.n x.dummy_mask (signer_mask frame)) x.dummy_mask) (λ _. (
        observing_masks x observing _ _,
        shaped_masks x _ _ shaped_here,
      )))
      (λ _. unless_known Fits (eqb (union s.n x.finalize_mask (signer_mask frame)) x.finalize_mask) (λ _. (
        observing_masks x observing _ _,
        shaped_masks x _ _ shaped_here,
      )))

  -- the state that is read back from the book after it
  pub certificate_state : (y : Height) → keep digest s frame ≡ some y →
      observer_state (encode_observer (observed (with_height s h y))) ≡ with_height s h y
  certificate_state y e =
      let (fits, sized) = subst (OnSome Fits) e certificate_kept in
      state_encode_observer (with_height s h y) (observing_with s (observing_as o) h y fits)
      (subst (λ (j : ℕ). Shaped (with_height s j y)) (suc_pred h read.low) (shaped_with s (h - 1) y shaped sized))

-- ---- the calls
module _ (digest : Bytes → Bytes) (book : Bytes) where
  -- a delivery is refused, or the certificate is known, and the book stays; or it is fresh, and one height changes
  pub observer_deliver_cases : (frame : Bytes) (P : Outcome Delivery → Type 0) →
      ((number : ℕ) → first_refusal (observer_deliver_rows digest book frame) ≡ some number →
      P (record { answer = refused number; book = book })) →
      (ObserverAccepts digest book frame → keep digest (observer_state book) frame ≡ none →
      P (record { answer = accepted known; book = book })) →
      ((y : Height) → ObserverAccepts digest book frame → keep digest (observer_state book) frame ≡ some y →
      P (record {
        answer = accepted fresh;
        book = encode_observer (observed (with_height (observer_state book) (frame_height frame) y));
      })) →
      P (observer_deliver_call digest book frame)
  unfolding observer_deliver_call unless_refused observer_kept
  observer_deliver_cases frame P refusal same new =
      go (first_refusal (observer_deliver_rows digest book frame)) refl (keep digest (observer_state book) frame) refl
    where
      go : (refusal : Option ℕ) → first_refusal (observer_deliver_rows digest book frame) ≡ refusal →
          (y : Option Height) → keep digest (observer_state book) frame ≡ y →
          P (unless_refused refusal book (observer_kept book frame y))
      go (some number) e y k = refusal number e
      go none e none k = same (observer_accepts digest book frame e) k
      go none e (some y) k = new y (observer_accepts digest book frame e) k

  -- a move is refused, or idle, or outputs
  pub observer_move_cases : (P : Outcome Move → Type 0) →
      (observer_sound digest book ≡ false → P (record { answer = refused 1; book = book })) →
      (observer_sound digest book ≡ true → output_applies digest (observer_state book) ≡ false →
      P (record { answer = accepted idle; book = encode_observer (decode_observer book) })) →
      (observer_sound digest book ≡ true → output_applies digest (observer_state book) ≡ true →
      P (record {
        answer = accepted (output (new_finalized digest (observer_state book)));
        book = encode_observer (observed (output_step digest (observer_state book)).after);
      })) →
      P (observer_move_call digest book)
  unfolding observer_move_call observer_move_rows observer_moved observer_step unless_refused first_refusal first_step idle_step
      output_step
  observer_move_cases P refusal rests outputs =
      go (observer_sound digest book) refl (output_applies digest (observer_state book)) refl
    where
      go : (is_sound_lem : Bool) → observer_sound digest book ≡ is_sound_lem → (applies : Bool) →
          output_applies digest (observer_state book) ≡ applies →
          P (unless_refused (cond is_sound_lem none (some 1)) book
          (observer_moved digest
          (cond applies (output_step digest (observer_state book)) (idle_step (observer_state book)))))
      go false e applies a = refusal e
      go true e false a =
          subst (λ (o : Observer). P (record { answer = accepted idle; book = encode_observer o }))
          (sym (observed_as (decode_observer book))) (rests e a)
      go true e true a = outputs e a
