-- What each call does to heights whose votes are tallied.
use Prim.Native.Nat.{ℕ, zero, suc, ◌≤◌}
use Rattle.std.proofs.Common.{arith, ap, ◌∙◌, true≢false}
use Rattle.std.specs.Prelude.{◌≡◌, true, false, get_or}
use Rattle.std.proofs.Math.Path.{refl, sym, subst}
use mathlib.Core.List.{List, [], ◌∷◌, ◌++◌, map}
use Rattle.std.proofs.Math.Option.{Option, some, none}
use Rattle.protocol.specs.SoundState.{Shaped, SoundState}
use Rattle.protocol.specs.Bytes.{Bytes}
use Rattle.protocol.specs.Tests.{first_refusal}
use Rattle.protocol.specs.State.{State, Height, no_height, at, last, decode, encode, with_head, with_height}
use Rattle.protocol.specs.State.{with_timer_fired, holds_proposal}
use Rattle.protocol.specs.Frame.{frame_height}
use Rattle.protocol.specs.View.{View, quorum}
use Rattle.protocol.specs.Sound.{view, sound}
use Rattle.protocol.specs.Answer.{Outcome, accepted, Delivery, Done, done, unless_refused}
use Rattle.protocol.specs.Open.{Opening, new_height, new_state, open_rows, open_call}
use Rattle.protocol.specs.Deliver.{voters_for, deliver_call, deliver_all}
use Rattle.protocol.specs.Packet.{packet_frames, packet_rows, packet_call}
use Rattle.protocol.specs.Move.{step, moved, unless_move_refused, move_rows, move_call}
use Rattle.protocol.specs.Signal.{signal_rows, signal_call}
use Rattle.protocol.specs.Submit.{with_pending, still_pending, submit_rows, submit_call}
use Rattle.protocol.proofs.Laws.TestedLaws.{submit_tested}
use Rattle.protocol.proofs.Laws.CodecLaws.{at_suc}
use Rattle.protocol.proofs.Laws.StateLaws.{decode_encode}
use Rattle.protocol.proofs.Laws.NewStateLaws.{new_shaped}
use Rattle.protocol.proofs.Laws.MoveLaws.{HeadOnly, head_only}
use Rattle.protocol.proofs.Laws.DeliverLaws.{deliver_cases}
use Rattle.protocol.proofs.Laws.SoundLaws.{sound_decode}
use Rattle.call_laws.proofs.Laws.SoundStaysLaws.{unless_refused_lem, deliver_stays}
use Rattle.call_laws.proofs.Laws.MoveSoundLaws.{step_sound}
use Rattle.call_laws.proofs.Laws.SubmitSoundLaws.{submit_sound}
use Rattle.call_laws.proofs.Laws.GrowsLaws.{same_quorum, views_alike}
use Rattle.call_laws.specs.Grows.{SameReplicas}
use Rattle.call_laws.specs.Keeping.{Voted, Tallied, AllTallied, KeepsState}
use Rattle.call_laws.proofs.Laws.RefusalsLaws.{refused≢accepted}
use Rattle.call_laws.proofs.Laws.KeepsStateLaws.{fresh_keeps}
use Rattle.call_laws.proofs.Laws.HeightSoundLaws.{each_height}

module _ (digest : Bytes → Bytes) where
  -- tallies go by the replicas alone
  same_tally : (v v' : View) (x : Height) → SameReplicas v v' → Tallied digest v x → Tallied digest v' x
  unfolding Tallied Voted
  same_tally v v' x same all (held, enough) =
      let back : SameReplicas v' v = record { same_n = sym same.same_n; same_weights = sym same.same_weights } in
      let counted = same_quorum v' v (voters_for x (digest x.proposal) v'.n) back enough in
      all (held, subst (λ (k : ℕ). quorum v (voters_for x (digest x.proposal) k) ≡ true) same.same_n counted)

  -- a state with the same heights, the same n and the same weights
  same_heights : (s s' : State) → s'.n ≡ s.n → s'.weights ≡ s.weights → s'.heights ≡ s.heights →
      AllTallied digest s → AllTallied digest s'
  same_heights s s' e w e' all h low =
      let here : at s' h ≡ at s h = unfold at in rw e' in
      rw here (same_tally (view s) (view s') (at s h) (views_alike s s' e w) (all h low))

  none_held : (v : View) (x : Height) → holds_proposal x ≡ false → Tallied digest v x
  unfolding Tallied Voted
  none_held v x free (held, enough) = absurd (true≢false (sym held ∙ free))

  -- ---- a new state
  new_free : (leaders : Bytes) (i : ℕ) → holds_proposal (get_or (map new_height leaders) i no_height) ≡ false
  unfolding holds_proposal new_height no_height
  new_free [] i = refl
  new_free (x ∷ xs) zero = refl
  new_free (x ∷ xs) (suc i) = new_free xs i

  new_tallied : (way : Opening) (n own : ℕ) (leaders : Bytes) → AllTallied digest (new_state way n own leaders)
  new_tallied way n own leaders zero low = absurd (omega arith)
  new_tallied way n own leaders (suc i) low = none_held _ _ (rw at_suc (unfold new_state in new_free leaders i))

  -- ---- the calls
  module _ (way : Opening) (book : Bytes) (n own heights : ℕ) (leaders : Bytes) where
    opened : first_refusal (open_rows way book n own heights leaders) ≡ none →
        AllTallied digest (decode (encode (new_state way n own leaders)))
    opened passes = rw (decode_encode (new_state way n own leaders) (new_shaped way n own leaders))
        (new_tallied way n own leaders)

    pub open_keeps : AllTallied digest (decode book) →
        AllTallied digest (decode (open_call way book n own heights leaders).book)
    unfolding open_call
    open_keeps all = unless_refused_lem (λ (b : Bytes). AllTallied digest (decode b))
        (open_rows way book n own heights leaders)
        book
        (record { answer = accepted done; book = encode (new_state way n own leaders) }) all opened

    pub open_tallied : (open_call way book n own heights leaders).answer ≡ accepted done →
        AllTallied digest (decode (open_call way book n own heights leaders).book)
    unfolding open_call
    open_tallied = go (first_refusal (open_rows way book n own heights leaders)) refl
      where
        made : Option ℕ → Outcome Done
        made r = unless_refused r book (record { answer = accepted done; book = encode (new_state way n own leaders) })

        go : (r : Option ℕ) → first_refusal (open_rows way book n own heights leaders) ≡ r →
            (made r).answer ≡ accepted done →
            AllTallied digest (decode (made r).book)
        go none e accepts = unfold unless_refused in opened e
        go (some number) e accepts = absurd (refused≢accepted number done (unfold unless_refused in accepts))

  module _ (book : Bytes) (was : sound digest book ≡ true) (all : AllTallied digest (decode book)) where
    abbrev s : State
    s = decode book

    state : SoundState digest s
    state = sound_decode digest book was

    -- a state that goes back to bytes, with the heights and n of the old one
    rewritten : (s' : State) → Shaped s' → s'.n ≡ s.n → s'.weights ≡ s.weights → s'.heights ≡ s.heights →
        AllTallied digest (decode (encode s'))
    rewritten s' shaped e w e' = rw (decode_encode s' shaped) (same_heights s s' e w e' all)

    pub move_keeps : (reply : Bytes) → AllTallied digest (decode (move_call digest book reply).book)
    unfolding move_call
    move_keeps reply = go (first_refusal (move_rows digest book reply))
      where
        after : State
        after = (step digest s).after

        head : HeadOnly digest s (step digest s)
        head = head_only digest s

        go : (r : Option ℕ) → AllTallied digest (decode (unless_move_refused r book reply (step digest s)).book)
        go none = unfold unless_move_refused moved in rewritten after (step_sound digest s state).shaped
            (ap (λ (z : State). z.n) head.3 ∙ unfold with_head in refl)
            (ap (λ (z : State). z.weights) head.3 ∙ unfold with_head in refl)
            (ap (λ (z : State). z.heights) head.3 ∙ unfold with_head in refl)
        go (some number) = unfold unless_move_refused in all

    fired : AllTallied digest (decode (encode (with_timer_fired s)))
    unfolding with_timer_fired with_head
    fired = rewritten (with_timer_fired s)
        (record {
          weighed = state.shaped.weighed;
          pool_size_lem = state.shaped.pool_size_lem;
          heights = state.shaped.heights;
        }) refl
        refl refl

    pub signal_keeps : (h : ℕ) → AllTallied digest (decode (signal_call digest book h).book)
    unfolding signal_call
    signal_keeps h = unless_refused_lem (λ (b : Bytes). AllTallied digest (decode b)) (signal_rows digest book h) book
        (record { answer = accepted done; book = encode (with_timer_fired s) }) all
        (λ _. fired)

    submitted : (entry : Bytes) → first_refusal (submit_rows digest book entry) ≡ none →
        SoundState digest (with_pending s (still_pending s ++ (entry ∷ [])))
    submitted entry passes =
        let tested = submit_tested digest book entry passes in
        submit_sound digest s state entry tested.size tested.room

    pub submit_keeps : (entry : Bytes) → AllTallied digest (decode (submit_call digest book entry).book)
    unfolding submit_call
    submit_keeps entry = unless_refused_lem (λ (b : Bytes). AllTallied digest (decode b)) (submit_rows digest book entry)
        book
        (record { answer = accepted done; book = encode (with_pending s (still_pending s ++ (entry ∷ []))) }) all
        (λ passes. rewritten (with_pending s (still_pending s ++ (entry ∷ []))) (submitted entry passes).shaped
        (unfold with_pending in refl) (unfold with_pending in refl) (unfold with_pending in refl))

    -- one height gives way to another whose votes are tallied
    placed : (h : ℕ) (y : Height) → 1 ≤ h → h ≤ last s → Tallied digest (view s) y →
        AllTallied digest (with_height s h y)
    placed zero y low high new = λ _ _. absurd (omega arith)
    placed (suc i) y low high new = λ h from.
        same_tally (view s) (view (with_height s (suc i) y)) (at (with_height s (suc i) y) h)
        (views_alike s (with_height s (suc i) y) (unfold with_height in refl) (unfold with_height in refl))
        (each_height s i high y (λ (k : ℕ) (z : Height). Tallied digest (view s) z) new all h from)

    delivered : (frame : Bytes) (after : State) → KeepsState digest s after frame →
        1 ≤ frame_height frame → frame_height frame ≤ last s → AllTallied digest after
    delivered frame after keeps low high =
        let new = keeps.here.block.tallied (all (frame_height frame) low) in
        subst (AllTallied digest) (sym keeps.elsewhere)
        (placed (frame_height frame) (at after (frame_height frame)) low high new)

    pub deliver_keeps_tallies : (frame : Bytes) → AllTallied digest (decode (deliver_call digest book frame).book)
    deliver_keeps_tallies frame =
        deliver_cases digest book frame (λ (o : Outcome Delivery). AllTallied digest (decode o.book))
        (λ _ _. all) (λ _ _ _. all)
        (λ y accepts single e. delivered frame _ (fresh_keeps digest book frame accepts y single e) accepts.read.low
        accepts.read.high)
        (λ _ _ _. fired)

  -- ---- a packet: frame by frame
  frames_keep_tallies : (book : Bytes) → sound digest book ≡ true → AllTallied digest (decode book) →
      (frames : List Bytes) → AllTallied digest (decode (deliver_all digest book frames))
  unfolding deliver_all
  frames_keep_tallies book was all [] = all
  frames_keep_tallies book was all (frame ∷ frames) =
      frames_keep_tallies (deliver_call digest book frame).book (deliver_stays digest book was frame)
      (deliver_keeps_tallies book was all frame) frames

  pub packet_keeps_tallies : (book : Bytes) → sound digest book ≡ true → AllTallied digest (decode book) →
      (packet : Bytes) → AllTallied digest (decode (packet_call digest book packet).book)
  unfolding packet_call
  packet_keeps_tallies book was all packet =
      unless_refused_lem (λ (b : Bytes). AllTallied digest (decode b)) (packet_rows digest book packet) book _ all
      (λ _. frames_keep_tallies book was all (packet_frames packet))
