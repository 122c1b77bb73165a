-- The state that is read back from an observer's book after a fresh certificate, and after an output.
use Rattle.std.specs.Prelude.{ℕ, ◌≡◌, true}
use Rattle.std.proofs.Math.Option.{some}
use Rattle.protocol.specs.SoundState.{Shaped}
use Rattle.protocol.specs.Bytes.{Bytes}
use Rattle.protocol.specs.Frame.{frame_height}
use Rattle.protocol.specs.State.{State, Height, with_head, with_height}
use Rattle.protocol.specs.Deliver.{keep}
use Rattle.protocol.specs.Observer.{observed, observer_state, encode_observer, decode_observer}
use Rattle.protocol.specs.ObserverSound.{observer_sound}
use Rattle.protocol.proofs.Laws.ObserverStateLaws.{observing_as, observing_finalized, state_encode_observer}
use Rattle.protocol.proofs.Laws.ObserverCodecLaws.{observer_state_shaped}
use Rattle.protocol.proofs.Laws.ObserverSoundLaws.{exact_observer}
use Rattle.protocol.proofs.Laws.ObserverDeliverLaws.{ObserverAccepts, certificate_state}

module _ (digest : Bytes → Bytes) (book : Bytes) where
  -- the state that a fresh certificate leaves
  pub observer_delivered : (frame : Bytes) (y : Height) → ObserverAccepts digest book frame →
      keep digest (observer_state book) frame ≡ some y →
      observer_state (encode_observer (observed (with_height (observer_state book) (frame_height frame) y))) ≡
      with_height (observer_state book) (frame_height frame) y
  observer_delivered frame y accepts e =
      certificate_state digest (decode_observer book) frame
      (observer_state_shaped book (exact_observer digest book accepts.was_sound)) accepts.certificate
      accepts.read y e

  -- the state after the output of height `g`
  pub observer_output : observer_sound digest book ≡ true → (g : ℕ) →
      let s : State = observer_state book in
      let after : State = with_head s s.flags s.current g in
      observer_state (encode_observer (observed after)) ≡ after
  observer_output was_sound g =
      let s : State = observer_state book in
      let shaped : Shaped s = observer_state_shaped book (exact_observer digest book was_sound) in
      state_encode_observer (with_head s s.flags s.current g)
      (observing_finalized s (observing_as (decode_observer book)) g)
      (unfold with_head in record {
        weighed = shaped.weighed;
        pool_size_lem = shaped.pool_size_lem;
        heights = shaped.heights;
      })
