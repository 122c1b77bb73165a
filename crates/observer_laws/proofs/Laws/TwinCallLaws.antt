-- The book after calls shows what the certificates that they give leave of its state: nothing else changes what it
-- shows, and what is refused changes nothing.
use Rattle.std.specs.Prelude.{ℕ, ◌%◌, ◌≡◌, Bool, cond, length, eqb}
use Rattle.std.proofs.Math.Path.{refl, subst}
use Rattle.std.proofs.Common.{sym, ap, ◌∙◌, true≢false}
use Rattle.std.proofs.Math.Bool.{true, false}
use mathlib.Core.List.{List, [], ◌∷◌, ◌++◌, map, append_assoc, append-nil}
use Rattle.std.proofs.Math.Option.{Option, some, none}
use Rattle.protocol.specs.SoundState.{SoundState}
use Rattle.protocol.specs.Bytes.{Bytes}
use Rattle.protocol.specs.Every.{Every, none, one}
use Rattle.protocol.specs.Tests.{first_refusal}
use Rattle.protocol.specs.Frame.{kind, frame_size, is_certificate, frame_well_formed}
use Rattle.protocol.specs.State.{State, encode, decode, with_head, with_timer_fired}
use Rattle.protocol.specs.Sound.{sound, view}
use Rattle.protocol.specs.Answer.{Outcome, Counts, Delivery, Move, accepted, is_accepted, unless_refused}
use Rattle.protocol.specs.Deliver.{deliver_call, deliver_all}
use Rattle.protocol.specs.Packet.{packet_frames, count_all, accepted_of, packet_rows, packet_call}
use Rattle.protocol.specs.Move.{step, moved, unless_move_refused, move_rows, move_call, output_step, new_finalized}
use Rattle.protocol.specs.Signal.{signal_rows, signal_call}
use Rattle.protocol.specs.Submit.{with_pending, still_pending, submit_rows, submit_call}
use Rattle.protocol.specs.Call.{Call, opening, delivery, packet_delivery, moving, signalling, submitting, sizing}
use Rattle.protocol.specs.Call.{reading, fetching, Effect, effect, book_after, book_after_all}
use Rattle.protocol.specs.Observer.{as_replica, observed_height, observer_state, decode_observer, encode_observer}
use Rattle.protocol.specs.ObserverSound.{observer_sound}
use Rattle.protocol.specs.ObserverCalls.{observer_deliver_rows, observer_deliver_call, observer_move_call}
use Rattle.protocol.specs.ObserverCall.{ObserverCall, observer_opening, observer_delivery, observer_moving, observer_sizing}
use Rattle.protocol.specs.ObserverCall.{observer_reading, Observation, observation, observer_book_after_all}
use Rattle.protocol.proofs.Laws.CallLaws.{opens_nothing, refused_does_nothing}
use Rattle.protocol.proofs.Laws.ObserverOpensLaws.{observer_opens_nothing}
use Rattle.protocol.proofs.Laws.TestsLaws.{cond-elim}
use Rattle.protocol.proofs.Laws.StateLaws.{decode_encode}
use Rattle.protocol.proofs.Laws.SoundLaws.{sound_decode}
use Rattle.protocol.proofs.Laws.MoveLaws.{SameBody, step_body}
use Rattle.protocol.proofs.Laws.TestedLaws.{signal_tested, submit_tested}
use Rattle.protocol.proofs.Laws.ObserverStateLaws.{decode_encode_observer, as_shaped}
use Rattle.protocol.proofs.Laws.ObserverSoundLaws.{sound_observer}
use Rattle.protocol.proofs.Laws.ObserverDeliverLaws.{observer_move_cases}
use Rattle.protocol.proofs.Laws.ObserverAfterLaws.{observer_output}
use Rattle.call_laws.proofs.Laws.MoveSoundLaws.{step_sound, timer_sound}
use Rattle.call_laws.proofs.Laws.SubmitSoundLaws.{submit_sound}
use Rattle.call_laws.proofs.Laws.SoundStaysLaws.{unless_refused_lem, deliver_stays}
use Rattle.call_laws.proofs.Laws.SoundStays.{sound_stays}
use Rattle.observer_laws.specs.Twins.{given, all_given, given_to_observer, all_given_to_observer, IsCertificate}
use Rattle.observer_laws.specs.Twins.{certificates_of, effects, observations}
use Rattle.observer_laws.proofs.Laws.AlikeLaws.{Alike}
use Rattle.observer_laws.proofs.Laws.HearLaws.{alike_self, alike_over, hear, hear_all, hear_append, hear_all_alike}
use Rattle.observer_laws.proofs.Laws.TwinDeliverLaws.{deliver_hears, observer_hears_lem}
use Rattle.observer_laws.proofs.Laws.ObserverSoundStays.{observer_sound_stays}

-- ---- lists of frames
every_front : {A : Type 0} {P : A → Type 0} (xs ys : List A) → Every P (xs ++ ys) → Every P xs × Every P ys
every_front [] ys all = (none, all)
every_front (x ∷ xs) ys (one p all) = let (front, back) = every_front xs ys all in (one p front, back)

-- the frame alone, if it is a certificate
abbrev alone : Bytes → List Bytes
alone frame = cond (is_certificate (kind frame)) (frame ∷ []) []

pub are_certificates : (frames : List Bytes) → Every IsCertificate (certificates_of frames)
unfolding certificates_of
are_certificates [] = none
are_certificates (frame ∷ frames) =
    cond-elim (λ (front : List Bytes). Every IsCertificate (front ++ certificates_of frames))
    (is_certificate (kind frame)) (λ is. one is (are_certificates frames)) (λ _. are_certificates frames)

certificates_append : (xs ys : List Bytes) → certificates_of (xs ++ ys) ≡ certificates_of xs ++ certificates_of ys
unfolding certificates_of
certificates_append [] ys = refl
certificates_append (x ∷ xs) ys =
    ap (λ (rest : List Bytes). alone x ++ rest) (certificates_append xs ys) ∙
    sym (append_assoc (alone x) (certificates_of xs) (certificates_of ys))

pub body_alike : {s t : State} → SameBody s t → Alike s t
body_alike same =
    record {
      same_n = same.same_n;
      same_weights = same.same_weights;
      same_heights = ap (map observed_height) same.same_heights;
    }

module _ (digest : Bytes → Bytes) where
  -- certificates, and then those of more frames
  one_more : (s : State) {t u : State} (frames more : List Bytes) → Alike (hear_all digest s frames) t →
      Alike (hear_all digest t (certificates_of more)) u → Alike (hear_all digest s (frames ++ certificates_of more)) u
  one_more s {u = u} frames more first second =
      subst (λ (z : State). Alike z u) (sym (hear_append digest s frames (certificates_of more)))
      (alike_over (hear_all_alike digest first (certificates_of more) (are_certificates more)) second)

  -- ---- a replica
  -- what it shows after the certificates
  abbrev Shows : State → List Bytes → Bytes → Type 0
  Shows s frames book = Alike (hear_all digest s frames) (decode book)

  -- the frame, if it is delivered and not refused
  abbrev delivered_by : Bytes → Bytes → List Bytes
  delivered_by book frame = cond (is_accepted (deliver_call digest book frame).answer) (frame ∷ []) []

  -- a refused call leaves the book
  refused_same : (book : Bytes) (call : Call) → (effect digest book call).accepted ≡ false →
      book_after digest book call ≡ book
  refused_same book call e = ap (λ (x : Effect). x.book) (refused_does_nothing digest book call e)

  -- a frame that is no certificate, where only certificates are not refused
  other_refused : (book frame : Bytes) → is_certificate (kind frame) ≡ false →
      Every IsCertificate (delivered_by book frame) → (deliver_call digest book frame).book ≡ book
  unfolding effect
  other_refused book frame other = go (is_accepted (deliver_call digest book frame).answer)
      (refused_same book (delivery frame))
    where
      go : (unrefused : Bool) → (unrefused ≡ false → (deliver_call digest book frame).book ≡ book) →
          Every IsCertificate (cond unrefused (frame ∷ []) []) → (deliver_call digest book frame).book ≡ book
      go true same (one is are) = absurd (true≢false (sym is ∙ other))
      go false same are = same refl

  frame_shows : (book : Bytes) → sound digest book ≡ true → (frame : Bytes) →
      Every IsCertificate (delivered_by book frame) →
      Shows (decode book) (alone frame) (deliver_call digest book frame).book
  unfolding hear_all
  frame_shows book was frame are =
      cond-elim (λ (frames : List Bytes). Shows (decode book) frames (deliver_call digest book frame).book)
      (is_certificate (kind frame))
      (λ is. subst (Alike (hear digest (decode book) frame)) (sym (deliver_hears digest book frame is was))
      (alike_self (hear digest (decode book) frame)))
      (λ other. subst (λ (after : Bytes). Alike (decode book) (decode after)) (sym (other_refused book frame other are))
      (alike_self (decode book)))

  frames_show : (book : Bytes) → sound digest book ≡ true → (frames : List Bytes) →
      Every IsCertificate (accepted_of digest book frames) →
      Shows (decode book) (certificates_of frames) (deliver_all digest book frames)
  unfolding deliver_all accepted_of certificates_of hear_all
  frames_show book was [] are = alike_self (decode book)
  frames_show book was (frame ∷ frames) are =
      let next : Bytes = (deliver_call digest book frame).book in
      let (here, later) = every_front (delivered_by book frame) (accepted_of digest next frames) are in
      one_more (decode book) (alone frame) frames (frame_shows book was frame here)
      (frames_show next (deliver_stays digest book was frame) frames later)

  module _ (book : Bytes) (was : sound digest book ≡ true) where
    abbrev s : State
    s = decode book

    state : SoundState digest s
    state = sound_decode digest book was

    -- a book that shows what this one does
    abbrev Same : Bytes → Type 0
    Same after = Alike s (decode after)

    same_encoded : (t : State) → SoundState digest t → SameBody s t → Same (encode t)
    same_encoded t is same = subst (Alike s) (sym (decode_encode t is.shaped)) (body_alike same)

    move_same : (reply : Bytes) → Same (move_call digest book reply).book
    unfolding move_call
    move_same reply = go (first_refusal (move_rows digest book reply))
      where
        go : (refusal : Option ℕ) → Same (unless_move_refused refusal book reply (step digest s)).book
        go none = unfold unless_move_refused moved in
            same_encoded (step digest s).after (step_sound digest s state) (step_body digest s)
        go (some number) = unfold unless_move_refused in alike_self s

    signal_same : (h : ℕ) → Same (signal_call digest book h).book
    unfolding signal_call
    signal_same h = unless_refused_lem Same (signal_rows digest book h) book _ (alike_self s) (λ passes.
        same_encoded (with_timer_fired s) (timer_sound digest s state (signal_tested digest book h passes).not_fired)
        (unfold with_timer_fired with_head in record {
          same_n = refl;
          same_pool = refl;
          same_heights = refl;
          same_weights = refl;
          same_view = unfold view in refl;
          same_weighed = λ w. w;
        }))

    submit_same : (entry : Bytes) → Same (submit_call digest book entry).book
    unfolding submit_call
    submit_same entry = unless_refused_lem Same (submit_rows digest book entry) book _ (alike_self s) (λ passes.
        let tested = submit_tested digest book entry passes in
        subst (Alike s) (sym (decode_encode (with_pending s (still_pending s ++ (entry ∷ [])))
        (submit_sound digest s state entry tested.size tested.room).shaped))
        (unfold with_pending in record { same_n = refl; same_weights = refl; same_heights = refl }))

    packet_shows : (packet : Bytes) → Every IsCertificate (effect digest book (packet_delivery packet)).delivers →
        Shows s (certificates_of (given (packet_delivery packet))) (packet_call digest book packet).book
    unfolding effect given packet_call packet_rows first_refusal
    packet_shows packet = rw was (go (eqb (length packet % frame_size) 0))
      where
        frames : List Bytes
        frames = packet_frames packet

        after : Bool → Outcome Counts
        after whole = unless_refused (cond whole none (some 15)) book
            (record { answer = accepted (count_all digest book frames); book = deliver_all digest book frames })

        go : (whole : Bool) →
            Every IsCertificate (cond (is_accepted (after whole).answer) (accepted_of digest book frames) []) →
            Shows s (certificates_of (cond whole frames [])) (after whole).book
        go true are = unfold unless_refused is_accepted in frames_show book was frames are
        go false are = unfold unless_refused certificates_of hear_all in alike_self s

    call_shows : (call : Call) → (effect digest book call).opens ≡ none →
        Every IsCertificate (effect digest book call).delivers →
        Shows s (certificates_of (given call)) (book_after digest book call)
    unfolding effect given certificates_of hear_all
    call_shows (opening way n own heights leaders) no-opening are =
        subst (λ (after : Bytes). Alike s (decode after))
        (sym (refused_same book (opening way n own heights leaders) (opens_nothing digest book way n own heights leaders
        no-opening))) (alike_self s)
    call_shows (delivery frame) no-opening are =
        subst (λ (frames : List Bytes). Shows s frames (deliver_call digest book frame).book)
        (sym (append-nil (alone frame))) (frame_shows book was frame are)
    call_shows (packet_delivery packet) no-opening are = packet_shows packet are
    call_shows (moving reply) no-opening are = move_same reply
    call_shows (signalling h) no-opening are = signal_same h
    call_shows (submitting entry) no-opening are = submit_same entry
    call_shows sizing no-opening are = alike_self s
    call_shows (reading buffer) no-opening are = alike_self s
    call_shows (fetching k h reply) no-opening are = alike_self s

  pub calls_show : (book : Bytes) → sound digest book ≡ true → (calls : List Call) →
      Every (λ (e : Effect). e.opens ≡ none) (effects digest book calls) →
      Every (λ (e : Effect). Every IsCertificate e.delivers) (effects digest book calls) →
      Shows (decode book) (certificates_of (all_given calls)) (book_after_all digest book calls)
  unfolding book_after_all effects all_given certificates_of hear_all
  calls_show book was [] no-openings are = alike_self (decode book)
  calls_show book was (call ∷ calls) (one no-opening no-openings) (one here later) =
      subst
      (λ (frames : List Bytes). Shows (decode book) frames (book_after_all digest (book_after digest book call) calls))
      (sym (certificates_append (given call) (all_given calls)))
      (one_more (decode book) (certificates_of (given call)) (all_given calls) (call_shows book was call no-opening here)
      (calls_show (book_after digest book call) (sound_stays digest book call was) calls no-openings later))

  -- ---- an observer
  abbrev ObserverShows : State → List Bytes → Bytes → Type 0
  ObserverShows s frames book = Alike (hear_all digest s frames) (observer_state book)

  module _ (book : Bytes) (was : observer_sound digest book ≡ true) where
    abbrev t : State
    t = observer_state book

    pub state_back : observer_state (encode_observer (decode_observer book)) ≡ t
    state_back = ap as_replica (decode_encode_observer (decode_observer book)
        (as_shaped (decode_observer book) (sound_observer digest book was).shaped))

    pub observer_move_same : Alike t (observer_state (observer_move_call digest book).book)
    observer_move_same = observer_move_cases digest book (λ (o : Outcome Move). Alike t (observer_state o.book))
        (λ _. alike_self t)
        (λ _ _. subst (Alike t) (sym state_back) (alike_self t))
        (λ _ _. unfold output_step in
        subst (Alike t) (sym (observer_output digest book was (new_finalized digest t)))
        (unfold with_head in record { same_n = refl; same_weights = refl; same_heights = refl }))

    -- it refuses every frame that is no certificate
    observer_refuses : (frame : Bytes) → is_certificate (kind frame) ≡ false →
        (observer_deliver_call digest book frame).book ≡ book
    unfolding observer_deliver_call observer_deliver_rows first_refusal
    observer_refuses frame other = rw (was, other) (go (frame_well_formed frame) _)
      where
        go : (formed : Bool) (o : Outcome Delivery) →
            (unless_refused (cond formed (some 16) (some 4)) book o).book ≡ book
        go true o = unfold unless_refused in refl
        go false o = unfold unless_refused in refl

    observer_frame_shows : (frame : Bytes) →
        ObserverShows t (alone frame) (observer_deliver_call digest book frame).book
    unfolding hear_all
    observer_frame_shows frame =
        cond-elim (λ (frames : List Bytes). ObserverShows t frames (observer_deliver_call digest book frame).book)
        (is_certificate (kind frame))
        (λ is. subst (Alike (hear digest t frame)) (sym (observer_hears_lem digest book frame is was))
        (alike_self (hear digest t frame)))
        (λ other. subst (λ (after : Bytes). Alike t (observer_state after)) (sym (observer_refuses frame other))
        (alike_self t))

    observer_call_shows : (call : ObserverCall) → (observation digest book call).opens ≡ none →
        ObserverShows t (certificates_of (given_to_observer call)) (observation digest book call).book
    unfolding observation given_to_observer certificates_of hear_all
    observer_call_shows (observer_opening way n heights) no-opening =
        subst (λ (after : Bytes). Alike t (observer_state after))
        (sym (observer_opens_nothing digest book way n heights no-opening)) (alike_self t)
    observer_call_shows (observer_delivery frame) no-opening =
        subst (λ (frames : List Bytes). ObserverShows t frames (observer_deliver_call digest book frame).book)
        (sym (append-nil (alone frame))) (observer_frame_shows frame)
    observer_call_shows observer_moving no-opening = observer_move_same
    observer_call_shows observer_sizing no-opening = alike_self t
    observer_call_shows (observer_reading buffer) no-opening = alike_self t

  pub observer_calls_show : (book : Bytes) → observer_sound digest book ≡ true → (calls : List ObserverCall) →
      Every (λ (o : Observation). o.opens ≡ none) (observations digest book calls) →
      ObserverShows (observer_state book) (certificates_of (all_given_to_observer calls))
      (observer_book_after_all digest book calls)
  unfolding observer_book_after_all observations all_given_to_observer certificates_of hear_all
  observer_calls_show book was [] no-openings = alike_self (observer_state book)
  observer_calls_show book was (call ∷ calls) (one no-opening no-openings) =
      subst (λ (frames : List Bytes). ObserverShows (observer_state book) frames
      (observer_book_after_all digest (observation digest book call).book calls))
      (sym (certificates_append (given_to_observer call) (all_given_to_observer calls)))
      (one_more (observer_state book) (certificates_of (given_to_observer call)) (all_given_to_observer calls)
      (observer_call_shows book was call no-opening)
      (observer_calls_show (observation digest book call).book (observer_sound_stays digest book call was) calls
      no-openings))
