-- Call by call: a sound book is left sound.
use Rattle.std.specs.Prelude.{ℕ, true, false}
use Rattle.std.proofs.Common.{arith}
use Rattle.std.proofs.Math.Path.{◌≡◌, refl}
use mathlib.Core.List.{List, [], ◌∷◌, ◌++◌}
use Rattle.std.proofs.Math.Option.{Option, some, none}
use Rattle.protocol.specs.SoundState.{SoundState}
use Rattle.protocol.specs.Bytes.{Bytes}
use Rattle.protocol.specs.Tests.{Row, first_refusal}
use Rattle.protocol.specs.Frame.{frame_height}
use Rattle.protocol.specs.State.{State, encode, decode, with_height, flag, with_timer_fired}
use Rattle.protocol.specs.Sound.{sound}
use Rattle.protocol.specs.Answer.{Answer, refused, accepted, Outcome, Delivery, Done, done, unless_refused}
use Rattle.protocol.specs.Open.{Opening, new_state, open_rows, open_call}
use Rattle.protocol.specs.Deliver.{deliver_call, deliver_all}
use Rattle.protocol.specs.Packet.{packet_frames, packet_rows, packet_call}
use Rattle.protocol.specs.Move.{step, moved, unless_move_refused, move_rows, move_call}
use Rattle.protocol.specs.Signal.{signal_rows, signal_call}
use Rattle.protocol.specs.Submit.{with_pending, still_pending, submit_rows, submit_call}
use Rattle.protocol.proofs.Laws.TestedLaws.{open_tested, signal_tested, submit_tested}
use Rattle.protocol.proofs.Laws.DeliverLaws.{deliver_cases}
use Rattle.protocol.proofs.Laws.SoundLaws.{sound_decode, sound_encode}
use Rattle.call_laws.proofs.Laws.OpenSoundLaws.{open_sound}
use Rattle.call_laws.proofs.Laws.DeliverSoundLaws.{keep_sound}
use Rattle.call_laws.proofs.Laws.MoveSoundLaws.{step_sound, timer_sound}
use Rattle.call_laws.proofs.Laws.SubmitSoundLaws.{submit_sound}

-- to prove something of the book after a call, prove it of the old book and of the new one where no row refuses
pub unless_refused_lem : {A : Type 0} (P : Bytes → Type 0) (rows : List Row) (book : Bytes) (outcome : Outcome A) →
    P book → (first_refusal rows ≡ none → P outcome.book) → P (unless_refused (first_refusal rows) book outcome).book
unless_refused_lem P rows book outcome old new = go (first_refusal rows) new
  where
    go : (r : Option ℕ) → (r ≡ none → P outcome.book) → P (unless_refused r book outcome).book
    go none f = unfold unless_refused in f refl
    go (some number) f = unfold unless_refused in old

module _ (digest : Bytes → Bytes) where
  abbrev Sound : Bytes → Type 0
  Sound book = sound digest book ≡ true

  module _ (book : Bytes) (was : Sound book) where
    abbrev s : State
    s = decode book

    state : SoundState digest s
    state = sound_decode digest book was

    fired : flag 1 s ≡ false → Sound (encode (with_timer_fired s))
    fired clear = sound_encode digest (with_timer_fired s) (timer_sound digest s state clear)

    pub deliver_stays : (frame : Bytes) → Sound (deliver_call digest book frame).book
    deliver_stays frame = deliver_cases digest book frame (λ (o : Outcome Delivery). Sound o.book)
        (λ _ _. was) (λ _ _ _. was)
        (λ y accepts _ e.
        sound_encode digest (with_height s (frame_height frame) y) (keep_sound digest s state frame accepts.read y e))
        (λ _ _ clear. fired clear)

    pub move_stays : (reply : Bytes) → Sound (move_call digest book reply).book
    unfolding move_call
    move_stays reply = go (first_refusal (move_rows digest book reply))
      where
        go : (r : Option ℕ) → Sound (unless_move_refused r book reply (step digest s)).book
        go none = unfold unless_move_refused moved in
            sound_encode digest (step digest s).after (step_sound digest s state)
        go (some number) = unfold unless_move_refused in was

    pub signal_stays : (h : ℕ) → Sound (signal_call digest book h).book
    unfolding signal_call
    signal_stays h = unless_refused_lem Sound (signal_rows digest book h) book
        (record { answer = accepted done; book = encode (with_timer_fired s) }) was
        (λ passes. fired (signal_tested digest book h passes).not_fired)

    abbrev submitted : Bytes → Bytes
    submitted entry = encode (with_pending s (still_pending s ++ (entry ∷ [])))

    appended : (entry : Bytes) → first_refusal (submit_rows digest book entry) ≡ none → Sound (submitted entry)
    appended entry passes =
        let tested = submit_tested digest book entry passes in
        sound_encode digest (with_pending s (still_pending s ++ (entry ∷ [])))
        (submit_sound digest s state entry tested.size tested.room)

    pub submit_stays : (entry : Bytes) → Sound (submit_call digest book entry).book
    unfolding submit_call
    submit_stays entry = unless_refused_lem Sound (submit_rows digest book entry) book
        (record { answer = accepted done; book = submitted entry }) was (appended entry)

  -- ---- a packet: frame by frame
  frames_stay : (book : Bytes) → Sound book → (frames : List Bytes) → Sound (deliver_all digest book frames)
  unfolding deliver_all
  frames_stay book was [] = was
  frames_stay book was (frame ∷ frames) =
      frames_stay (deliver_call digest book frame).book (deliver_stays book was frame) frames

  pub packet_stays : (book : Bytes) → Sound book → (packet : Bytes) → Sound (packet_call digest book packet).book
  unfolding packet_call
  packet_stays book was packet = unless_refused_lem Sound (packet_rows digest book packet) book _ was
      (λ _. frames_stay book was (packet_frames packet))

  -- ---- Open, over any bytes
  module _ (way : Opening) (book : Bytes) (n own heights : ℕ) (leaders : Bytes) where
    made : first_refusal (open_rows way book n own heights leaders) ≡ none → Sound (encode (new_state way n own leaders))
    made passes = sound_encode digest (new_state way n own leaders)
        (open_sound digest way n own heights leaders (open_tested way n own heights leaders book passes).in_ranges_lem)

    pub open_stays : Sound book → Sound (open_call way book n own heights leaders).book
    unfolding open_call
    open_stays was = unless_refused_lem Sound (open_rows way book n own heights leaders) book
        (record { answer = accepted done; book = encode (new_state way n own leaders) }) was made

    pub open_made : (open_call way book n own heights leaders).answer ≡ accepted done →
        Sound (open_call way book n own heights leaders).book
    unfolding open_call
    open_made opened = go (first_refusal (open_rows way book n own heights leaders)) made opened
      where
        go : (r : Option ℕ) → (r ≡ none → Sound (encode (new_state way n own leaders))) →
            (unless_refused r book (record { answer = accepted done; book = encode (new_state way n own leaders) })
            ).answer ≡ accepted done →
            Sound (unless_refused r book (record { answer = accepted done; book = encode (new_state way n own leaders) })
            ).book
        go none f e = unfold unless_refused in f refl
        go (some number) f e = unfold unless_refused in
            let never : ◌≡◌ {A = Answer Done} (refused number) (accepted done) = e in
            let z : ◌≡◌ {A = ℕ} 0 1 = cc in
            absurd (omega arith)
