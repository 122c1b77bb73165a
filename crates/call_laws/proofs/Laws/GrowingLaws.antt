-- As frames are delivered and moves made, what a sound book shows only grows.
use Rattle.std.specs.Prelude.{◌≡◌, true}
use Rattle.std.proofs.Math.Path.{refl}
use Rattle.protocol.specs.SoundState.{SoundState}
use Rattle.protocol.specs.Bytes.{Bytes}
use Rattle.protocol.specs.Answer.{Outcome, Delivery}
use Rattle.protocol.specs.Frame.{frame_height}
use Rattle.protocol.specs.State.{State, decode, with_head, with_height, with_timer_fired}
use Rattle.protocol.proofs.Laws.StateLaws.{decode_encode}
use Rattle.protocol.specs.Sound.{view, sound}
use Rattle.protocol.proofs.Laws.SoundLaws.{sound_decode}
use Rattle.protocol.specs.Deliver.{deliver_call}
use Rattle.protocol.proofs.Laws.DeliverLaws.{deliver_cases}
use Rattle.protocol.specs.Move.{step}
use Rattle.protocol.proofs.Laws.MoveLaws.{step_body}
use Rattle.call_laws.specs.Grows.{Grows}
use Rattle.call_laws.proofs.Laws.GrowsLaws.{same_grows}
use Rattle.call_laws.proofs.Laws.DeliverSoundLaws.{keep_grows, keep_sound}
use Rattle.call_laws.proofs.Laws.MoveSoundLaws.{timer_sound}

module _ (digest : Bytes → Bytes) where
  pub deliver_grows : (book frame : Bytes) → sound digest book ≡ true →
      Grows (view (decode book)) (view (decode (deliver_call digest book frame).book))
  deliver_grows book frame was =
      deliver_cases digest book frame (λ (o : Outcome Delivery). Grows (view s) (view (decode o.book)))
      (λ _ _. same) (λ _ _ _. same)
      (λ y accepts _ e.
      rw (decode_encode (with_height s (frame_height frame) y)
      (keep_sound digest s state frame accepts.read y e).shaped)
      (keep_grows digest s state frame accepts.read y e))
      (λ _ _ clear.
      rw (decode_encode (with_timer_fired s) (timer_sound digest s state clear).shaped)
      (unfold with_timer_fired with_head in same_grows s (with_timer_fired s) state.shaped
      state.n_high refl refl refl))
    where
      s : State
      s = decode book

      state : SoundState digest s
      state = sound_decode digest book was

      same : Grows (view s) (view s)
      same = same_grows s s state.shaped state.n_high refl refl refl

  pub step_grows : (s : State) → SoundState digest s → Grows (view s) (view (step digest s).after)
  step_grows s state =
      let body = step_body digest s in
      same_grows s (step digest s).after state.shaped state.n_high body.same_n body.same_weights
      body.same_heights
