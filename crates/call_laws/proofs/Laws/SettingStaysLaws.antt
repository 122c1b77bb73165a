-- Call by call: only an opening that is not refused changes what an opening settles.
use Rattle.std.specs.Prelude.{ℕ, ◌-◌, ◌≡◌, refl, true, false}
use Rattle.std.proofs.Common.{sym, ap, ◌∙◌, length-set}
use Rattle.std.proofs.Math.Path.{subst}
use mathlib.Core.List.{List, [], ◌∷◌, ◌++◌}
use Rattle.std.proofs.Math.Option.{Option, some, none}
use Rattle.protocol.specs.SoundState.{SoundState, Shaped}
use Rattle.protocol.specs.Bytes.{Bytes}
use Rattle.protocol.specs.Tests.{first_refusal}
use Rattle.protocol.specs.Frame.{frame_height}
use Rattle.protocol.specs.State.{State, Height, last, encode, decode, with_head, with_height, with_timer_fired, flag}
use Rattle.protocol.specs.Sound.{sound}
use Rattle.protocol.specs.Answer.{Outcome, Delivery, accepted, done}
use Rattle.protocol.specs.Deliver.{deliver_call, deliver_all}
use Rattle.protocol.specs.Packet.{packet_frames, packet_rows, packet_call}
use Rattle.protocol.specs.Move.{step, moved, unless_move_refused, move_rows, move_call}
use Rattle.protocol.specs.Signal.{signal_rows, signal_call}
use Rattle.protocol.specs.Submit.{with_pending, still_pending, submit_rows, submit_call}
use Rattle.protocol.specs.Call.{Call, opening, delivery, packet_delivery, moving, signalling, submitting, sizing}
use Rattle.protocol.specs.Call.{reading, fetching, Effect, effect, book_after}
use Rattle.protocol.proofs.Laws.TestedLaws.{signal_tested, submit_tested}
use Rattle.protocol.proofs.Laws.CallLaws.{opens_nothing, refused_does_nothing}
use Rattle.protocol.proofs.Laws.DeliverLaws.{deliver_cases}
use Rattle.protocol.proofs.Laws.MoveLaws.{head_only}
use Rattle.protocol.proofs.Laws.SoundLaws.{sound_decode}
use Rattle.protocol.proofs.Laws.StateLaws.{decode_encode}
use Rattle.call_laws.specs.SettingStays.{SettingStays}
use Rattle.call_laws.proofs.Laws.DeliverSoundLaws.{keep_sound}
use Rattle.call_laws.proofs.Laws.MoveSoundLaws.{step_sound, timer_sound}
use Rattle.call_laws.proofs.Laws.SubmitSoundLaws.{submit_sound}
use Rattle.call_laws.proofs.Laws.SoundStaysLaws.{unless_refused_lem, deliver_stays}

pub stays : (s : State) → SettingStays s s
stays s = record { same_edition = refl; same_n = refl; same_weights = refl; same_own = refl; same_last = refl }

stays_over : {s t u : State} → SettingStays s t → SettingStays t u → SettingStays s u
stays_over first second = record {
  same_edition = second.same_edition ∙ first.same_edition;
  same_n = second.same_n ∙ first.same_n;
  same_weights = second.same_weights ∙ first.same_weights;
  same_own = second.same_own ∙ first.same_own;
  same_last = second.same_last ∙ first.same_last;
}

-- the state that is written is read back
written_stays : (s t : State) → Shaped t → SettingStays s t → SettingStays s (decode (encode t))
written_stays s t shaped same = subst (SettingStays s) (sym (decode_encode t shaped)) same

pub head_stays : (s : State) (flags current finalized : ℕ) → SettingStays s (with_head s flags current finalized)
unfolding with_head last
head_stays s flags current finalized =
    record { same_edition = refl; same_n = refl; same_weights = refl; same_own = refl; same_last = refl }

pub height_stays : (s : State) (h : ℕ) (x : Height) → SettingStays s (with_height s h x)
unfolding with_height last
height_stays s h x = record {
  same_edition = refl;
  same_n = refl;
  same_weights = refl;
  same_own = refl;
  same_last = length-set s.heights (h - 1) x;
}

pending_stays : (s : State) (entries : List Bytes) → SettingStays s (with_pending s entries)
unfolding with_pending last
pending_stays s entries =
    record { same_edition = refl; same_n = refl; same_weights = refl; same_own = refl; same_last = refl }

module _ (digest : Bytes → Bytes) where
  module _ (book : Bytes) (was : sound digest book ≡ true) where
    abbrev s : State
    s = decode book

    state : SoundState digest s
    state = sound_decode digest book was

    abbrev Stays : Bytes → Type 0
    Stays after = SettingStays s (decode after)

    fired : flag 1 s ≡ false → Stays (encode (with_timer_fired s))
    fired clear =
        written_stays s (with_timer_fired s) (timer_sound digest s state clear).shaped
        (unfold with_timer_fired in head_stays s _ _ _)

    delivery_stays : (frame : Bytes) → Stays (deliver_call digest book frame).book
    delivery_stays frame = deliver_cases digest book frame (λ (o : Outcome Delivery). Stays o.book)
        (λ _ _. stays s) (λ _ _ _. stays s)
        (λ y accepts _ e.
        written_stays s (with_height s (frame_height frame) y)
        (keep_sound digest s state frame accepts.read y e).shaped (height_stays s (frame_height frame) y))
        (λ _ _ clear. fired clear)

    move_stays : (reply : Bytes) → Stays (move_call digest book reply).book
    unfolding move_call
    move_stays reply = go (first_refusal (move_rows digest book reply))
      where
        after : Stays (encode (step digest s).after)
        after =
            let (flags, current, finalized, e) = head_only digest s in
            written_stays s (step digest s).after (step_sound digest s state).shaped
            (subst (SettingStays s) (sym e) (head_stays s flags current finalized))

        go : (r : Option ℕ) → Stays (unless_move_refused r book reply (step digest s)).book
        go none = unfold unless_move_refused moved in after
        go (some number) = unfold unless_move_refused in stays s

    signal_stays : (h : ℕ) → Stays (signal_call digest book h).book
    unfolding signal_call
    signal_stays h = unless_refused_lem Stays (signal_rows digest book h) book
        (record { answer = accepted done; book = encode (with_timer_fired s) }) (stays s)
        (λ passes. fired (signal_tested digest book h passes).not_fired)

    submit_stays : (entry : Bytes) → Stays (submit_call digest book entry).book
    unfolding submit_call
    submit_stays entry = unless_refused_lem Stays (submit_rows digest book entry) book
        (record { answer = accepted done; book = encode (with_pending s (still_pending s ++ (entry ∷ []))) }) (stays s)
        (λ passes.
        let tested = submit_tested digest book entry passes in
        written_stays s (with_pending s (still_pending s ++ (entry ∷ [])))
        (submit_sound digest s state entry tested.size tested.room).shaped
        (pending_stays s (still_pending s ++ (entry ∷ []))))

  frames_stay : (book : Bytes) → sound digest book ≡ true → (frames : List Bytes) →
      SettingStays (decode book) (decode (deliver_all digest book frames))
  unfolding deliver_all
  frames_stay book was [] = stays (decode book)
  frames_stay book was (frame ∷ frames) =
      stays_over (delivery_stays book was frame)
      (frames_stay (deliver_call digest book frame).book (deliver_stays digest book was frame) frames)

  packet_stays : (book : Bytes) → sound digest book ≡ true → (packet : Bytes) →
      SettingStays (decode book) (decode (packet_call digest book packet).book)
  unfolding packet_call
  packet_stays book was packet =
      unless_refused_lem (λ (after : Bytes). SettingStays (decode book) (decode after)) (packet_rows digest book packet) book _
      (stays (decode book)) (λ _. frames_stay book was (packet_frames packet))

  pub setting_stays : (book : Bytes) (call : Call) → sound digest book ≡ true → (effect digest book call).opens ≡ none →
      SettingStays (decode book) (decode (book_after digest book call))
  unfolding effect
  setting_stays book (opening way n own heights leaders) was nothing =
      subst (λ (after : Bytes). SettingStays (decode book) (decode after))
      (sym (ap (λ (e : Effect). e.book) (refused_does_nothing digest book (opening way n own heights leaders)
      (opens_nothing digest book way n own heights leaders nothing)))) (stays (decode book))
  setting_stays book (delivery frame) was nothing = delivery_stays book was frame
  setting_stays book (packet_delivery packet) was nothing = packet_stays book was packet
  setting_stays book (moving reply) was nothing = move_stays book was reply
  setting_stays book (signalling h) was nothing = signal_stays book was h
  setting_stays book (submitting entry) was nothing = submit_stays book was entry
  setting_stays book sizing was nothing = stays (decode book)
  setting_stays book (reading buffer) was nothing = stays (decode book)
  setting_stays book (fetching k h reply) was nothing = stays (decode book)
