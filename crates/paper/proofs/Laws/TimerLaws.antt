-- Flag 1 goes up by a signal of the current height or a leader who equivocates, and comes down by a pass or an opening.
use Rattle.std.specs.Prelude.{ℕ, ◌+◌, ◌^◌, ◌≤◌, ◌≡◌, ◌⊎◌, ◌≢◌, Bool, length}
use native.Mathlib.Omega.{arith}
use Rattle.std.proofs.Math.Path.{refl}
use Rattle.std.proofs.Common.{sym, ap, subst, ◌∙◌}
use Rattle.std.proofs.Math.Logic.{inl, inr}
use Rattle.std.proofs.Math.Bool.{true, false, true≢false}
use mathlib.Core.List.{List, [], ◌∷◌}
use Rattle.std.proofs.Math.Option.{Option, some, none}
use borrow.Author.Tests.{eq-eqb, le-leb}
use Rattle.protocol.specs.Bytes.{Bytes}
use Rattle.protocol.specs.Tests.{Row, first_refusal}
use Rattle.protocol.specs.Answer.{Outcome, Delivery, Certificate, accepted, done, pass, move_number, unless_refused}
use Rattle.protocol.specs.State.{State, Height, at, last, flag, decode, encode, head_bytes, with_head, with_height}
use Rattle.protocol.specs.State.{with_timer_fired}
use Rattle.protocol.specs.Frame.{frame_height}
use Rattle.protocol.specs.Sound.{sound}
use Rattle.protocol.specs.Open.{Opening, new_state, open_rows, open_call}
use Rattle.protocol.specs.Deliver.{deliver_call, deliver_all, leader_equivocates, timer_fires}
use Rattle.protocol.proofs.Laws.DeliverLaws.{deliver_cases, proposal_fires}
use Rattle.protocol.proofs.Laws.RowLaws.{range_in}
use Rattle.protocol.proofs.Laws.SoundLaws.{sound_decode}
use Rattle.protocol.proofs.Laws.TestedLaws.{signal_tested, move_tested}
use Rattle.protocol.proofs.Laws.FlagLaws.{flag_set, flag_kept}
use Rattle.protocol.proofs.Laws.MoveLaws.{step_cases, dummy_vote_rows, propose_rows, block_vote_rows}
use Rattle.protocol.specs.Move.{move_rows, move_call, moved, unless_move_refused}
use Rattle.protocol.specs.Move.{Step, step, dummy_vote_step, output_step, pass_step, propose_step, block_vote_step, idle_step}
use Rattle.protocol.specs.Packet.{packet_frames, packet_rows, packet_call}
use Rattle.protocol.specs.Signal.{signal_rows, signal_call}
use Rattle.protocol.specs.Submit.{submit_rows, submit_call, with_pending}
use Rattle.protocol.specs.Call.{Call, opening, delivery, packet_delivery, moving, signalling, submitting, sizing}
use Rattle.protocol.specs.Call.{reading, fetching, effect, book_after}
use Rattle.call_laws.proofs.Laws.SoundStaysLaws.{unless_refused_lem, deliver_stays}
use Rattle.call_laws.specs.BookBytes.{opened_book}
use Rattle.call_laws.proofs.Laws.BookBytesLaws.{open_bytes}
use Rattle.call_laws.specs.Equivocating.{Equivocation}
use Rattle.call_laws.proofs.Laws.EquivocatingLaws.{equivocation, as_tested}
use Rattle.paper.specs.Timer.{EquivocationAmong, Fires, by_signal, by_equivocation}
use Rattle.paper.specs.Timer.{by_packet, Restarts, by_pass, by_opening, Timer}

-- flags go into a book and come back
flag_back : (k : ℕ) (s : State) → flag k (decode (encode s)) ≡ flag k s
unfolding flag decode encode head_bytes
flag_back k s = refl

flag_fired : (s : State) → flag 1 s ≡ false → flag 1 (with_timer_fired s) ≡ true
unfolding with_timer_fired
flag_fired s clear = flag_set s s.current s.finalized 0 clear

-- ---- a delivery
module _ (digest : Bytes → Bytes) (book frame : Bytes) where
  delivery_fires : flag 1 (decode book) ≡ false → flag 1 (decode (deliver_call digest book frame).book) ≡ true →
      Equivocation (decode book) frame
  delivery_fires clear =
      deliver_cases digest book frame (λ (o : Outcome Delivery). flag 1 (decode o.book) ≡ true →
      Equivocation (decode book) frame)
      (λ _ _ set. absurd (true≢false (sym set ∙ clear)))
      (λ _ _ _ set. absurd (true≢false (sym set ∙ clear)))
      (λ y _ _ _ set. absurd (true≢false (sym set ∙ flag_back 1 _ ∙ (unfold with_height flag in clear))))
      (λ accepts is _ _. equivocation digest book frame accepts is)

  pub equivocation_fires : sound digest book ≡ true → flag 1 (decode book) ≡ false → Equivocation (decode book) frame →
      flag 1 (decode (deliver_call digest book frame).book) ≡ true
  equivocation_fires was clear e =
      rw (proposal_fires digest book frame was e.proposed.read (as_tested digest book frame e))
      (unfold timer_fires in rw clear (flag_back 1 (with_timer_fired (decode book)) ∙ flag_fired (decode book) clear))

  -- what has fired stays so
  pub delivery_keeps_flag : flag 1 (decode book) ≡ true → flag 1 (decode (deliver_call digest book frame).book) ≡ true
  delivery_keeps_flag set =
      deliver_cases digest book frame (λ (o : Outcome Delivery). flag 1 (decode o.book) ≡ true)
      (λ _ _. set) (λ _ _ _. set) (λ y _ _ _. flag_back 1 _ ∙ (unfold with_height flag in set))
      (λ _ _ clear. absurd (true≢false (sym set ∙ clear)))

-- ---- frames that are delivered in order
pub set_or_clear : {A : Type 0} (b : Bool) → (b ≡ true → A) → (b ≡ false → A) → A
set_or_clear true set clear = set refl
set_or_clear false set clear = clear refl

module _ (digest : Bytes → Bytes) where
  pub frames_keep_flag : (book : Bytes) (frames : List Bytes) → flag 1 (decode book) ≡ true →
      flag 1 (decode (deliver_all digest book frames)) ≡ true
  unfolding deliver_all
  frames_keep_flag book [] set = set
  frames_keep_flag book (frame ∷ frames) set =
      frames_keep_flag (deliver_call digest book frame).book frames (delivery_keeps_flag digest book frame set)

  frames_fire : (book : Bytes) (frames : List Bytes) → flag 1 (decode book) ≡ false →
      flag 1 (decode (deliver_all digest book frames)) ≡ true → EquivocationAmong digest book frames
  unfolding deliver_all EquivocationAmong
  frames_fire book [] clear set = true≢false (sym set ∙ clear)
  frames_fire book (frame ∷ frames) clear set =
      let next : Bytes = (deliver_call digest book frame).book in
      set_or_clear (flag 1 (decode next)) (λ e. inl (delivery_fires digest book frame clear e))
      (λ still. inr (frames_fire next frames still set))

  among_fires : (book : Bytes) (frames : List Bytes) → sound digest book ≡ true → flag 1 (decode book) ≡ false →
      EquivocationAmong digest book frames → flag 1 (decode (deliver_all digest book frames)) ≡ true
  unfolding deliver_all EquivocationAmong
  among_fires book [] was clear e = absurd e
  among_fires book (frame ∷ frames) was clear (inl e) =
      frames_keep_flag _ frames (equivocation_fires digest book frame was clear e)
  among_fires book (frame ∷ frames) was clear (inr rest) =
      let next : Bytes = (deliver_call digest book frame).book in
      set_or_clear (flag 1 (decode next)) (frames_keep_flag next frames)
      (λ still. among_fires next frames (deliver_stays digest book was frame) still rest)

-- ---- a move: it passes and clears the flag, or it leaves it
module _ (digest : Bytes → Bytes) (s : State) where
  abbrev Passes : Step → Type 0
  Passes st = (certificate : Certificate) × (finalized : Bool) × (st.move ≡ pass s.current certificate finalized)

  abbrev Flagged : Step → Type 0
  Flagged st =
      (Passes st × (flag 1 st.after ≡ false)) ⊎
      ((move_number st.move ≢ 3) × (flag 1 st.after ≡ flag 1 s))

  step_flag : Flagged (step digest s)
  unfolding dummy_vote_step output_step pass_step propose_step block_vote_step idle_step move_number
  step_flag = step_cases digest s Flagged
      (λ e. inr (λ e. omega arith, kept 1 (dummy_vote_rows s e).not_yet (omega arith)))
      (λ _ _. inr (λ e. omega arith, unfold with_head flag in refl))
      (λ _ _ _. inl ((_, _, refl), unfold with_head flag in refl))
      (λ _ _ _ e. inr (λ e. omega arith, kept 3 (propose_rows digest s e).not_yet (omega arith)))
      (λ _ _ _ _ e. inr (λ e. omega arith, kept 2 (block_vote_rows digest s e).not_yet (omega arith)))
      (λ _ _ _ _ _. inr (λ e. omega arith, refl))
    where
      kept : (bit : ℕ) → flag (2 ^ bit) s ≡ false → 0 ≢ bit →
          flag 1 (with_head s (s.flags + 2 ^ bit) s.current s.finalized) ≡ flag 1 s
      kept bit clear other = flag_kept s s.current s.finalized bit clear 0 other

  pub step_raises : flag 1 s ≡ false → flag 1 (step digest s).after ≡ true → ⊥
  step_raises clear set = go step_flag
    where
      go : Flagged (step digest s) → ⊥
      go (inl (_, e)) = true≢false (sym set ∙ e)
      go (inr (_, e)) = true≢false (sym set ∙ e ∙ clear)

  step_lowers : flag 1 s ≡ true → flag 1 (step digest s).after ≡ false → Passes (step digest s)
  step_lowers set clear = go step_flag
    where
      go : Flagged (step digest s) → Passes (step digest s)
      go (inl (passes, _)) = passes
      go (inr (_, e)) = absurd (true≢false (sym set ∙ sym e ∙ clear))

  pass_clears : {certificate : Certificate} {finalized : Bool} →
      (step digest s).move ≡ pass s.current certificate finalized → flag 1 (step digest s).after ≡ false
  unfolding move_number
  pass_clears is = go step_flag
    where
      go : Flagged (step digest s) → flag 1 (step digest s).after ≡ false
      go (inl (_, e)) = e
      go (inr (other, _)) = absurd (other (ap move_number is))

-- ---- what a call of each kind must be to be among them
module _ (digest : Bytes → Bytes) (book : Bytes) where
  by_signal_lem : (h : ℕ) → Fires digest book (signalling h) → (h ≡ (decode book).current) × (h ≤ last (decode book))
  by_signal_lem h (by_signal j e l) = (e, l)

  by_equivocation_lem : (frame : Bytes) → Fires digest book (delivery frame) → Equivocation (decode book) frame
  by_equivocation_lem frame (by_equivocation f e) = e

  by_packet_lem : (packet : Bytes) → Fires digest book (packet_delivery packet) →
      (first_refusal (packet_rows digest book packet) ≡ none) × EquivocationAmong digest book (packet_frames packet)
  by_packet_lem packet (by_packet p e among) = (e, among)

  by_pass_lem : (reply : Bytes) → Restarts digest book (moving reply) →
      (448 ≤ length reply) × Passes digest (decode book) (step digest (decode book))
  by_pass_lem reply (by_pass r certificate finalized room is) = (room, (certificate, finalized, is))

  by_opening_lem : (way : Opening) (n own heights : ℕ) (leaders : Bytes) →
      Restarts digest book (opening way n own heights leaders) →
      (open_call way book n own heights leaders).answer ≡ accepted done
  by_opening_lem way n own heights leaders (by_opening w m o k l e) = e

-- ---- each call
module _ (digest : Bytes → Bytes) (book : Bytes) (was : sound digest book ≡ true) where
  abbrev s : State
  s = decode book

  abbrev after : Call → Bytes
  after call = book_after digest book call

  -- one that leaves the flag, and is none of those that move it
  leaves_flag : (call : Call) → (Fires digest book call → ⊥) → (Restarts digest book call → ⊥) →
      flag 1 (decode (after call)) ≡ flag 1 s → Timer digest book call
  leaves_flag call no-fire no-restart same = record {
    goes_up = λ clear. (λ set. absurd (true≢false (sym set ∙ same ∙ clear)), λ f. absurd (no-fire f));
    comes_down = λ set. (λ clear. absurd (true≢false (sym set ∙ sym same ∙ clear)), λ r. absurd (no-restart r));
  }

  -- one that only raises it
  raises_flag : (call : Call) → (flag 1 s ≡ false → flag 1 (decode (after call)) ≡ true → Fires digest book call) →
      (flag 1 s ≡ false → Fires digest book call → flag 1 (decode (after call)) ≡ true) →
      (flag 1 s ≡ true → flag 1 (decode (after call)) ≡ true) → (Restarts digest book call → ⊥) →
      Timer digest book call
  raises_flag call only so keeps no-restart = record {
    goes_up = λ clear. (only clear, so clear);
    comes_down = λ set. (λ clear. absurd (true≢false (sym (keeps set) ∙ clear)), λ r. absurd (no-restart r));
  }

  -- one that only clears it
  clears_flag : (call : Call) → (flag 1 s ≡ true → flag 1 (decode (after call)) ≡ false → Restarts digest book call) →
      (Restarts digest book call → flag 1 (decode (after call)) ≡ false) →
      (flag 1 s ≡ false → flag 1 (decode (after call)) ≡ true → ⊥) → (Fires digest book call → ⊥) →
      Timer digest book call
  clears_flag call only so keeps no-fire = record {
    goes_up = λ clear. (λ set. absurd (keeps clear set), λ f. absurd (no-fire f));
    comes_down = λ set. (only set, so);
  }

  -- a call that is not refused leaves what it does
  not_refused : {A : Type 0} {r : Option ℕ} (outcome : Outcome A) → r ≡ none → flag 1 (decode outcome.book) ≡ true →
      flag 1 (decode (unless_refused r book outcome).book) ≡ true
  not_refused outcome passes set =
      subst (λ (r : Option ℕ). flag 1 (decode (unless_refused r book outcome).book) ≡ true) (sym passes)
      (unfold unless_refused in set)

  delivery_timer : (frame : Bytes) → Timer digest book (delivery frame)
  unfolding effect
  delivery_timer frame = raises_flag (delivery frame)
      (λ clear set. by_equivocation frame (delivery_fires digest book frame clear set))
      (λ clear f. equivocation_fires digest book frame was clear (by_equivocation_lem digest book frame f))
      (delivery_keeps_flag digest book frame) (λ r. elim r [ ])

  packet_timer : (packet : Bytes) → Timer digest book (packet_delivery packet)
  unfolding effect packet_call
  packet_timer packet = raises_flag (packet_delivery packet)
      (λ clear. unless_refused_lem (λ (b : Bytes). flag 1 (decode b) ≡ true → Fires digest book (packet_delivery packet))
      rows book _ (λ set. absurd (true≢false (sym set ∙ clear)))
      (λ passes set. by_packet packet passes (frames_fire digest book frames clear set)))
      (λ clear f.
      let (passes, among) = by_packet_lem digest book packet f in
      not_refused _ passes (among_fires digest book frames was clear among))
      (λ set. unless_refused_lem (λ (b : Bytes). flag 1 (decode b) ≡ true) rows book _ set
      (λ _. frames_keep_flag digest book frames set))
      (λ r. elim r [ ])
    where
      rows : List Row
      rows = packet_rows digest book packet

      frames : List Bytes
      frames = packet_frames packet

  signal_passes : (h : ℕ) → flag 1 s ≡ false → h ≡ s.current → h ≤ last s →
      first_refusal (signal_rows digest book h) ≡ none
  unfolding signal_rows first_refusal
  signal_passes h clear e high =
      let low = (sound_decode digest book was).current_low in
      rw (was, range_in 1 (last s) h (omega arith) high, eq-eqb h s.current e, clear)

  signal_timer : (h : ℕ) → Timer digest book (signalling h)
  unfolding effect signal_call
  signal_timer h = raises_flag (signalling h)
      (λ clear. unless_refused_lem (λ (b : Bytes). flag 1 (decode b) ≡ true → Fires digest book (signalling h))
      (signal_rows digest book h) book _ (λ set. absurd (true≢false (sym set ∙ clear)))
      (λ passes _. let tested = signal_tested digest book h passes in by_signal h tested.is_current tested.high))
      (λ clear f.
      let (e, high) = by_signal_lem digest book h f in
      not_refused _ (signal_passes h clear e high) (flag_back 1 (with_timer_fired s) ∙ flag_fired s clear))
      (λ set. unless_refused_lem (λ (b : Bytes). flag 1 (decode b) ≡ true) (signal_rows digest book h) book _ set
      (λ passes. absurd (true≢false (sym set ∙ (signal_tested digest book h passes).not_fired))))
      (λ r. elim r [ ])

  -- a move is refused, or does the step
  move_cases : (P : Bytes → Type 0) (reply : Bytes) → P book →
      (448 ≤ length reply → P (encode (step digest s).after)) → P (move_call digest book reply).book
  unfolding move_call unless_move_refused moved
  move_cases P reply same does = go (first_refusal (move_rows digest book reply)) refl
    where
      go : (r : Option ℕ) → first_refusal (move_rows digest book reply) ≡ r →
          P (unless_move_refused r book reply (step digest s)).book
      go none passes = does (move_tested digest book reply passes).room
      go (some number) _ = same

  move_does : (reply : Bytes) → 448 ≤ length reply → (move_call digest book reply).book ≡ encode (step digest s).after
  unfolding move_call move_rows first_refusal unless_move_refused moved
  move_does reply room = rw (was, le-leb 448 (length reply) room)

  move_timer : (reply : Bytes) → Timer digest book (moving reply)
  unfolding effect
  move_timer reply = clears_flag (moving reply)
      (λ set. move_cases (λ (b : Bytes). flag 1 (decode b) ≡ false → Restarts digest book (moving reply)) reply
      (λ clear. absurd (true≢false (sym set ∙ clear)))
      (λ room clear.
      let (certificate, finalized, is) = step_lowers digest s set (sym (flag_back 1 _) ∙ clear) in
      by_pass reply certificate finalized room is))
      (λ r.
      let (room, (certificate, finalized, is)) = by_pass_lem digest book reply r in
      rw (move_does reply room) (flag_back 1 (step digest s).after ∙ pass_clears digest s is))
      (λ clear. move_cases (λ (b : Bytes). flag 1 (decode b) ≡ true → ⊥) reply (λ set. true≢false (sym set ∙ clear))
      (λ _ set. step_raises digest s clear (sym (flag_back 1 _) ∙ set)))
      (λ f. elim f [ ])

  opening_timer : (way : Opening) (n own heights : ℕ) (leaders : Bytes) →
      Timer digest book (opening way n own heights leaders)
  unfolding effect open_call
  opening_timer way n own heights leaders = clears_flag (opening way n own heights leaders)
      (λ set. unless_refused_lem (λ (b : Bytes). flag 1 (decode b) ≡ false →
      Restarts digest book (opening way n own heights leaders))
      rows book _ (λ clear. absurd (true≢false (sym set ∙ clear)))
      (λ passes _. by_opening way n own heights leaders (unfold open_call unless_refused in rw passes)))
      (λ r. rw (open_bytes way book n own heights leaders (by_opening_lem digest book way n own heights leaders r))
      (unfold opened_book decode flag in refl))
      (λ clear. unless_refused_lem (λ (b : Bytes). flag 1 (decode b) ≡ true → ⊥) rows book _
      (λ set. true≢false (sym set ∙ clear))
      (λ _ set. true≢false (sym set ∙ flag_back 1 (new_state way n own leaders) ∙ unfold new_state flag in refl)))
      (λ f. elim f [ ])
    where
      rows : List Row
      rows = open_rows way book n own heights leaders

  submitting_timer : (entry : Bytes) → Timer digest book (submitting entry)
  unfolding effect submit_call
  submitting_timer entry = leaves_flag (submitting entry) (λ f. elim f [ ]) (λ r. elim r [ ])
      (unless_refused_lem (λ (b : Bytes). flag 1 (decode b) ≡ flag 1 s) (submit_rows digest book entry) book _ refl
      (λ _. flag_back 1 _ ∙ unfold with_pending flag in refl))

  pub timer : (call : Call) → Timer digest book call
  unfolding effect
  timer (opening way n own heights leaders) = opening_timer way n own heights leaders
  timer (delivery frame) = delivery_timer frame
  timer (packet_delivery packet) = packet_timer packet
  timer (moving reply) = move_timer reply
  timer (signalling h) = signal_timer h
  timer (submitting entry) = submitting_timer entry
  timer sizing = leaves_flag sizing (λ f. elim f [ ]) (λ r. elim r [ ]) refl
  timer (reading buffer) = leaves_flag (reading buffer) (λ f. elim f [ ]) (λ r. elim r [ ]) refl
  timer (fetching k h reply) = leaves_flag (fetching k h reply) (λ f. elim f [ ]) (λ r. elim r [ ]) refl
