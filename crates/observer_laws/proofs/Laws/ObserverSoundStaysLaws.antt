-- Call by call: a sound observer's book is left sound.
use Rattle.std.specs.Prelude.{ℕ, zero, suc, ◌≤◌, ◌≡◌, ◌⊎◌, true, false, eqb}
use Rattle.std.proofs.Common.{arith, sym, subst, ◌∙◌, inl, inr, true≢false, le-leb}
use Rattle.std.proofs.Math.Option.{some}
use Rattle.protocol.specs.SoundState.{SoundState}
use Rattle.protocol.specs.SoundObserver.{SoundObserver}
use Rattle.protocol.specs.ReadFrame.{ReadFrame}
use Rattle.protocol.specs.Bytes.{Bytes}
use Rattle.protocol.specs.Mask.{union}
use Rattle.protocol.specs.Frame.{frame_height, frame_block, signer_mask}
use Rattle.protocol.specs.State.{State, Height, at, last, with_head, with_height, is_notarized}
use Rattle.protocol.specs.Sound.{view}
use Rattle.protocol.specs.Answer.{Outcome, Delivery, Move}
use Rattle.protocol.specs.Deliver.{read_rows, keep, keep_block_certificate, keep_dummy_certificate, keep_finalize_certificate}
use Rattle.protocol.specs.Deliver.{with_notarized, with_masks}
use Rattle.protocol.specs.Move.{new_finalized, output_step}
use Rattle.protocol.specs.Observer.{observed, observer_state, encode_observer, decode_observer}
use Rattle.protocol.specs.ObserverSound.{observer_sound}
use Rattle.protocol.specs.ObserverCalls.{observer_deliver_call, observer_move_call}
use Rattle.protocol.proofs.Laws.DeliverLaws.{OnSome, unless_known, rows_read}
use Rattle.protocol.proofs.Laws.PlaceLaws.{last_with}
use Rattle.protocol.proofs.Laws.ObserverStateLaws.{Observing, ObservingHeight, observing_as, observing_with}
use Rattle.protocol.proofs.Laws.ObserverStateLaws.{observing_finalized, last_as}
use Rattle.protocol.proofs.Laws.ObserverSoundLaws.{sound_observer, observer_sound_encode}
use Rattle.protocol.proofs.Laws.ObserverDeliverLaws.{ObserverAccepts, certificate_kept, observer_deliver_cases}
use Rattle.protocol.proofs.Laws.ObserverDeliverLaws.{observer_move_cases}
use Rattle.call_laws.proofs.Laws.DeliverSoundLaws.{keep_sound}
use Rattle.call_laws.proofs.Laws.MoveSoundLaws.{output_sound}
use Rattle.call_laws.proofs.Laws.HeightSoundLaws.{each_height}
use Rattle.observer_laws.proofs.Laws.CertificateLaws.{certificate_cases}
use Rattle.observer_laws.proofs.Laws.AwakeLaws.{awake, HoldsNone, awake_sound, sound_observed}

-- a status of an observer's height
abbrev Status : Height → Type 0
Status x = (x.status ≡ 0) ⊎ (x.status ≡ 2)

-- a block that is newly notarized
status_notarized : (x : Height) (mask : ℕ) (block : Bytes) → Status x → is_notarized x ≡ false →
    Status (with_notarized x mask block)
unfolding with_notarized is_notarized
status_notarized x mask block (inl e) free = inr (omega arith)
status_notarized x mask block (inr e) free = absurd (true≢false (sym (le-leb 2 x.status (omega arith)) ∙ free))

module _ (digest : Bytes → Bytes) where
  abbrev Sound : Bytes → Type 0
  Sound book = observer_sound digest book ≡ true

  module _ (book : Bytes) (was : Sound book) where
    abbrev s : State
    s = observer_state book

    facts : SoundObserver digest (decode_observer book)
    facts = sound_observer digest book was

    pub state : SoundState digest (awake s)
    state = awake_sound digest (decode_observer book) facts

    pub holds_none : HoldsNone s
    holds_none h low high = facts.holds_none h low (rw (last_as (decode_observer book)) at high)

    -- a state that an observer can have is the state of a sound book
    encoded : (t : State) → Observing t → SoundState digest (awake t) → HoldsNone t →
        Sound (encode_observer (observed t))
    encoded t e is none_held =
        observer_sound_encode digest (observed t) (sound_observed digest t e is none_held)

    module _ (frame : Bytes) (accepts : ObserverAccepts digest book frame) where
      abbrev h : ℕ
      h = frame_height frame

      pub read_awake : ReadFrame (awake s) frame
      unfolding awake with_head read_rows at last view
      read_awake = rows_read (awake s) frame accepts.passes

      here : Status (at s h)
      here = holds_none h accepts.read.low accepts.read.high

      kept_status : OnSome Status (keep digest s frame)
      unfolding keep_block_certificate keep_dummy_certificate keep_finalize_certificate
      kept_status =
          let x : Height = at s h in
          certificate_cases digest s frame accepts.certificate accepts.read (λ _. OnSome Status)
          (λ _. unless_known Status (is_notarized x) (λ free.
          status_notarized x (signer_mask frame) (frame_block frame) here free))
          (λ _. unless_known Status (eqb (union s.n x.dummy_mask (signer_mask frame)) x.dummy_mask)
          (λ _. unfold with_masks in here))
          (λ _. unless_known Status (eqb (union s.n x.finalize_mask (signer_mask frame)) x.finalize_mask)
          (λ _. unfold with_masks in here))

      module _ (y : Height) (e : keep digest s frame ≡ some y) where
        kept_sound : SoundState digest (awake (with_height s h y))
        unfolding awake with_head with_height
        kept_sound = keep_sound digest (awake s) state frame read_awake y (unfold keep at view in e)

        kept_none : HoldsNone (with_height s h y)
        kept_none = go h accepts.read.low accepts.read.high
          where
            go : (k : ℕ) → 1 ≤ k → k ≤ last s → HoldsNone (with_height s k y)
            go zero low high = absurd (omega arith)
            go (suc i) low high = λ j l m. each_height s i high y (λ (k : ℕ) (x : Height). k ≤ last s → Status x)
                (λ _. subst (OnSome Status) e kept_status) holds_none j l (rw (last_with s i y) at m)

        kept_observing : Observing (with_height s h y)
        kept_observing =
            let (fits, sized) = subst (OnSome (λ z. ObservingHeight z × _)) e
            (certificate_kept digest (decode_observer book) frame facts.shaped accepts.certificate
            accepts.read) in
            observing_with s (observing_as (decode_observer book)) h y fits

        pub delivered : Sound (encode_observer (observed (with_height s h y)))
        delivered = encoded (with_height s h y) kept_observing kept_sound kept_none

    pub observer_deliver_stays : (frame : Bytes) → Sound (observer_deliver_call digest book frame).book
    observer_deliver_stays frame = observer_deliver_cases digest book frame (λ (o : Outcome Delivery). Sound o.book)
        (λ _ _. was) (λ _ _. was) (λ y accepts e. delivered frame accepts y e)

    moved : Sound (encode_observer (observed (output_step digest s).after))
    unfolding output_step
    moved = encoded (with_head s s.flags s.current (new_finalized digest s))
        (observing_finalized s (observing_as (decode_observer book)) (new_finalized digest s))
        (unfold awake with_head new_finalized view at last in output_sound digest (awake s) state)
        (unfold with_head at last in holds_none)

    pub observer_move_stays : Sound (observer_move_call digest book).book
    observer_move_stays = observer_move_cases digest book (λ (o : Outcome Move). Sound o.book)
        (λ _. was) (λ _ _. observer_sound_encode digest (decode_observer book) facts) (λ _ _. moved)
