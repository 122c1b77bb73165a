-- After two blocks of the current height's leader the next move is the vote for the dummy block, with no signal.
use Rattle.std.specs.Prelude.{ℕ, zero, suc, ◌+◌, ◌-◌, ◌≤◌, ◌≡◌, refl, ◌⊎◌, Bool, false}
use Rattle.std.proofs.Common.{arith, ap, subst, ◌∙◌, inl, inr}
use Rattle.std.proofs.Math.Path.{sym}
use Rattle.std.proofs.Math.Bool.{true, or-true}
use Rattle.std.proofs.lemmas.Bool.{false≢true}
use mathlib.Core.List.{List, [], ◌∷◌, Memᴰ}
use Rattle.std.proofs.Math.Option.{none}
use Rattle.std.proofs.Math.ListN.{length-set}
use Rattle.protocol.specs.Bytes.{Bytes}
use Rattle.protocol.specs.Tests.{in_range}
use Rattle.protocol.specs.Answer.{Outcome, Delivery, Counts, accepted, vote_dummy}
use Rattle.protocol.specs.Frame.{kind, frame_height, frame_block, is_statement, dummy_vote}
use Rattle.protocol.specs.State.{State, Height, at, last, flag, decode, holds_proposal, with_head, with_height}
use Rattle.protocol.specs.State.{with_timer_fired}
use Rattle.protocol.specs.Sound.{sound}
use Rattle.protocol.specs.Deliver.{deliver_call, deliver_all, leader_equivocates, keep, read_rows}
use Rattle.protocol.specs.Packet.{packet_frames, packet_call}
use Rattle.protocol.specs.Move.{is_some}
use Rattle.protocol.proofs.Laws.DeliverLaws.{Accepts, rows_read, equivocates, deliver_cases, proposal_passes}
use Rattle.protocol.proofs.Laws.FlagLaws.{flag_set, flag_kept}
use Rattle.protocol.proofs.Laws.PacketLaws.{deliver_calls, packet_delivered}
use Rattle.protocol.proofs.Laws.SoundLaws.{sound_decode}
use Rattle.protocol.proofs.Laws.StateLaws.{decode_encode}
use Rattle.call_laws.specs.Keeping.{KeepsState}
use Rattle.call_laws.proofs.Laws.HeightSoundLaws.{each_height}
use Rattle.call_laws.proofs.Laws.KeepsStateLaws.{known_keeps, fresh_keeps}
use Rattle.call_laws.proofs.Laws.MoveSoundLaws.{timer_sound}
use Rattle.call_laws.proofs.Laws.SoundStaysLaws.{deliver_stays}
use Rattle.paper.specs.Steps.{Makes, MayVoteDummy, DummyBlocks}
use Rattle.call_laws.specs.Equivocating.{ProposedNow, Equivocation}
use Rattle.paper.specs.Timer.{TwoBlocks, VotesDummyNext}
use Rattle.paper.proofs.Laws.TimerLaws.{set_or_clear, delivery_keeps_flag, equivocation_fires}
use Rattle.paper.proofs.Laws.DummyBlocksLaws.{dummy_blocks}

-- ---- what a delivery leaves: of the head, and at the current height
pub record Stays (s t : State) : Type 0 where
  pub same_n : t.n ≡ s.n
  pub same_own : t.own ≡ s.own
  pub same_last : last t ≡ last s
  pub same_current : t.current ≡ s.current
  pub same_voted : flag 2 t ≡ flag 2 s
  pub fired : flag 1 s ≡ true → flag 1 t ≡ true
  pub leader : (at t s.current).leader ≡ (at s s.current).leader
  pub held : holds_proposal (at s s.current) ≡ true → holds_proposal (at t s.current) ≡ true
  pub proposal : holds_proposal (at s s.current) ≡ true →
      (at t s.current).proposal ≡ (at s s.current).proposal

same_stays : (s : State) → Stays s s
same_stays s = record {
  same_n = refl;
  same_own = refl;
  same_last = refl;
  same_current = refl;
  same_voted = refl;
  fired = λ e. e;
  leader = refl;
  held = λ e. e;
  proposal = λ _. refl;
}

stays_on : {s t u : State} → Stays s t → Stays t u → Stays s u
unfolding at
stays_on {s} {t} {u} a b = record {
  same_n = b.same_n ∙ a.same_n;
  same_own = b.same_own ∙ a.same_own;
  same_last = b.same_last ∙ a.same_last;
  same_current = b.same_current ∙ a.same_current;
  same_voted = b.same_voted ∙ a.same_voted;
  fired = λ e. b.fired (a.fired e);
  leader = (rw a.same_current at b.leader) ∙ a.leader;
  held = λ e. (rw a.same_current at b.held) (a.held e);
  proposal = λ e. (rw a.same_current at b.proposal) (a.held e) ∙ a.proposal e;
}

-- one height gives way to another with the same leader, which holds the proposal that was held
placed_stays : (s : State) (h : ℕ) (y : Height) → 1 ≤ s.current → 1 ≤ h → h ≤ last s →
    y.leader ≡ (at s h).leader → (holds_proposal (at s h) ≡ true → holds_proposal y ≡ true) →
    (holds_proposal (at s h) ≡ true → y.proposal ≡ (at s h).proposal) → Stays s (with_height s h y)
placed_stays s zero y running low high leads holds first = absurd (omega arith)
placed_stays s (suc i) y running low high leads holds first = record {
  same_n = unfold with_height in refl;
  same_own = unfold with_height in refl;
  same_last = unfold with_height last in length-set s.heights (suc i - 1) y;
  same_current = unfold with_height in refl;
  same_voted = unfold with_height flag in refl;
  fired = unfold with_height flag in λ e. e;
  leader = each_height s i high y (λ (k : ℕ) (z : Height). z.leader ≡ (at s k).leader) leads (λ _ _. refl)
      s.current running;
  held = each_height s i high y (λ (k : ℕ) (z : Height). holds_proposal (at s k) ≡ true → holds_proposal z ≡ true) holds
      (λ _ _ e. e) s.current running;
  proposal = each_height s i high y (λ (k : ℕ) (z : Height). holds_proposal (at s k) ≡ true →
      z.proposal ≡ (at s k).proposal) first (λ _ _ _. refl) s.current running;
}

fired_stays : (s : State) → flag 1 s ≡ false → Stays s (with_timer_fired s)
fired_stays s clear = record {
  same_n = unfold with_timer_fired with_head in refl;
  same_own = unfold with_timer_fired with_head in refl;
  same_last = unfold with_timer_fired with_head last in refl;
  same_current = unfold with_timer_fired with_head in refl;
  same_voted = unfold with_timer_fired in flag_kept s s.current s.finalized 0 clear 1 (omega arith);
  fired = λ _. unfold with_timer_fired in flag_set s s.current s.finalized 0 clear;
  leader = unfold with_timer_fired with_head at in refl;
  held = unfold with_timer_fired with_head at in λ e. e;
  proposal = unfold with_timer_fired with_head at in λ _. refl;
}

-- ---- a proposal for the current height
-- some proposal is held there, and the timer has fired unless it is of this block
pub record HoldsOrFired (t : State) (block : Bytes) : Type 0 where
  pub held : holds_proposal (at t t.current) ≡ true
  pub this : (flag 1 t ≡ true) ⊎ ((at t t.current).proposal ≡ block)

module _ {s t : State} (stays : Stays s t) where
  there : at t t.current ≡ at t s.current
  there = ap (at t) stays.same_current

  heard_stays : (block : Bytes) → HoldsOrFired s block → HoldsOrFired t block
  heard_stays block heard = record { held = rw there (stays.held heard.held); this = go heard.this }
    where
      go : (flag 1 s ≡ true) ⊎ ((at s s.current).proposal ≡ block) →
          (flag 1 t ≡ true) ⊎ ((at t t.current).proposal ≡ block)
      go (inl e) = inl (stays.fired e)
      go (inr e) = inr (ap (λ (x : Height). x.proposal) there ∙ stays.proposal heard.held ∙ e)

  -- a proposal that is read before is read after
  same_reading : (frame : Bytes) → kind frame ≡ 1 → frame_height frame ≡ s.current → read_rows t frame ≡ read_rows s frame
  unfolding read_rows is_statement in_range at last
  same_reading frame one here = rw (one, here, stays.same_n, stays.same_last, stays.leader)

  proposed_stays : (frame : Bytes) → ProposedNow s frame → ProposedNow t frame
  proposed_stays frame is = record {
    read = rw (same_reading frame is.proposes is.here) is.read;
    proposes = is.proposes;
    here = is.here ∙ sym stays.same_current;
    by_leader = is.by_leader ∙ sym stays.leader ∙ sym (ap (λ (x : Height). x.leader) there);
  }

-- ---- a delivery
module _ (digest : Bytes → Bytes) (book frame : Bytes) (was : sound digest book ≡ true) where
  abbrev s : State
  s = decode book

  running : 1 ≤ s.current
  running = (sound_decode digest book was).current_low

  kept_stays : (t : State) → Accepts digest book frame → KeepsState digest s t frame → Stays s t
  kept_stays t accepts keeps = rw keeps.elsewhere (placed_stays s (frame_height frame) (at t (frame_height frame))
      running accepts.read.low accepts.read.high keeps.here.leader
      (λ e. keeps.here.proposal.holds ∙ rw e) keeps.here.proposal.first_proposal)

  delivery_stays : Stays s (decode (deliver_call digest book frame).book)
  delivery_stays =
      deliver_cases digest book frame (λ (o : Outcome Delivery). Stays s (decode o.book))
      (λ _ _. same_stays s) (λ _ _ _. same_stays s)
      (λ y accepts single e. kept_stays _ accepts (fresh_keeps digest book frame accepts y single e))
      (λ _ _ clear.
      rw (decode_encode (with_timer_fired s) (timer_sound digest s (sound_decode digest book was) clear).shaped)
      (fired_stays s clear))

  -- its statement is kept, or the leader equivocates by it
  statement_heard : (t : State) → ProposedNow s frame → KeepsState digest s t frame → HoldsOrFired t (frame_block frame)
  statement_heard t is keeps = record {
    held = rw (here, keeps.here.proposal.holds, is.proposes) (or-true (holds_proposal (at s (frame_height frame))));
    this = inr (rw here (keeps.here.proposal.this_proposal is.proposes));
  }
    where
      here : at t t.current ≡ at t (frame_height frame)
      here = ap (at t) (ap (λ (z : State). z.current) keeps.elsewhere ∙ (unfold with_height in sym is.here))

  fired_heard : leader_equivocates s frame ≡ true → (t : State) → Stays s t → flag 1 t ≡ true →
      HoldsOrFired t (frame_block frame)
  fired_heard is t stays set =
      let e = equivocates s frame is in
      record { held = rw (there stays) (stays.held (rw e.here at e.held)); this = inl set }

  known_heard : ProposedNow s frame → Accepts digest book frame → (leader_equivocates s frame ≡ true → flag 1 s ≡ true) →
      keep digest s frame ≡ none → (b : Bool) → leader_equivocates s frame ≡ b → HoldsOrFired s (frame_block frame)
  known_heard is accepts fired e true equivocal = fired_heard equivocal s (same_stays s) (fired equivocal)
  known_heard is accepts fired e false single =
      statement_heard s is (known_keeps digest book frame accepts single e)

  proposal_heard : ProposedNow s frame → HoldsOrFired (decode (deliver_call digest book frame).book) (frame_block frame)
  unfolding is_some
  proposal_heard is =
      deliver_cases digest book frame (λ (o : Outcome Delivery). HoldsOrFired (decode o.book) (frame_block frame))
      (λ number e.
      let passes = proposal_passes digest book frame was is.read is.proposes is.here in
      absurd (false≢true (ap is_some (sym passes ∙ e))))
      (λ accepts fired e. known_heard is accepts fired e (leader_equivocates s frame) refl)
      (λ y accepts single e. statement_heard _ is (fresh_keeps digest book frame accepts y single e))
      (λ _ e clear.
      rw (decode_encode (with_timer_fired s) (timer_sound digest s (sound_decode digest book was) clear).shaped)
      (fired_heard e (with_timer_fired s) (fired_stays s clear)
      (unfold with_timer_fired in flag_set s s.current s.finalized 0 clear)))

-- ---- the move that follows
-- a height for which a proposal is read is one of the book's
proposed_running : (s : State) (frame : Bytes) → ProposedNow s frame → s.current ≤ last s
proposed_running s frame is = subst (λ (h : ℕ). h ≤ last s) is.here (rows_read s frame is.read).high

-- the timer has fired and the vote for the dummy block has not gone out: it is the next move
fired_votes : (digest : Bytes → Bytes) (book after : Bytes) → Stays (decode book) (decode after) →
    flag 1 (decode after) ≡ true → flag 2 (decode book) ≡ false → (decode book).current ≤ last (decode book) →
    VotesDummyNext digest book after
unfolding DummyBlocks
fired_votes digest book after stays fired free running =
    let same = stays.same_current in
    let same_last = stays.same_last in
    let may : MayVoteDummy digest t = (omega arith, fired, stays.same_voted ∙ free) in
    let (when, then) = dummy_blocks digest t in
    subst (λ (own : ℕ). Votes own (decode book).current) stays.same_own
    (subst (Votes t.own) same (then (when.1 may)))
  where
    t : State
    t = decode after

    Votes : ℕ → ℕ → Type 0
    Votes own c = Makes digest t (vote_dummy c) (dummy_vote own c ∷ []) (with_head t (t.flags + 2) c t.finalized)

-- ---- frames that are delivered in order
module _ (digest : Bytes → Bytes) where
  all_stay : (book : Bytes) (frames : List Bytes) → sound digest book ≡ true →
      Stays (decode book) (decode (deliver_all digest book frames))
  unfolding deliver_all
  all_stay book [] was = same_stays (decode book)
  all_stay book (frame ∷ frames) was =
      stays_on (delivery_stays digest book frame was)
      (all_stay (deliver_call digest book frame).book frames (deliver_stays digest book was frame))

  all_heard : (book : Bytes) (frames : List Bytes) (frame : Bytes) → sound digest book ≡ true →
      Memᴰ frame frames → ProposedNow (decode book) frame →
      HoldsOrFired (decode (deliver_all digest book frames)) (frame_block frame)
  unfolding deliver_all
  all_heard book [] frame was i is = elim i [ ]
  all_heard book (first ∷ frames) frame was (Memᴰ.head e) is =
      let next : Bytes = (deliver_call digest book first).book in
      let heard = proposal_heard digest book first was (rw e at is) in
      heard_stays (all_stay next frames (deliver_stays digest book was first)) (frame_block frame)
      (subst (λ (f : Bytes). HoldsOrFired (decode next) (frame_block f)) (sym e) heard)
  all_heard book (first ∷ frames) frame was (Memᴰ.tail i) is =
      all_heard (deliver_call digest book first).book frames frame (deliver_stays digest book was first) i
      (proposed_stays (delivery_stays digest book first was) frame is)

  module _ (book : Bytes) (frames : List Bytes) (was : sound digest book ≡ true)
      (two : TwoBlocks book frames) where
    abbrev t : State
    t = decode (deliver_all digest book frames)

    two_fire : flag 1 t ≡ true
    two_fire = go (all_heard book frames two.one was two.one_among two.one_proposed).this
        (all_heard book frames two.other was two.other_among two.other_proposed).this
      where
        Said : Bytes → Type 0
        Said block = (flag 1 t ≡ true) ⊎ ((at t t.current).proposal ≡ block)

        go : Said (frame_block two.one) → Said (frame_block two.other) → flag 1 t ≡ true
        go (inl e) other = e
        go (inr e) (inl e') = e'
        go (inr e) (inr e') = absurd (two.unlike (sym e ∙ e'))

    pub two_blocks : flag 2 (decode book) ≡ false → VotesDummyNext digest book (deliver_all digest book frames)
    two_blocks free =
        fired_votes digest book (deliver_all digest book frames) (all_stay book frames was) two_fire free
        (proposed_running (decode book) two.one two.one_proposed)

  -- the same where the frames come in one packet
  pub two_blocks_packet : (book packet : Bytes) (counts : Counts) → sound digest book ≡ true →
      (packet_call digest book packet).answer ≡ accepted counts → TwoBlocks book (packet_frames packet) →
      flag 2 (decode book) ≡ false → VotesDummyNext digest book (packet_call digest book packet).book
  two_blocks_packet book packet counts was e two free =
      subst (VotesDummyNext digest book)
      (deliver_calls digest book (packet_frames packet) ∙ sym (packet_delivered digest book packet counts e))
      (two_blocks book (packet_frames packet) was two free)

  -- one block is held, and the other one comes
  pub second_block : (book frame : Bytes) → sound digest book ≡ true → Equivocation (decode book) frame →
      flag 2 (decode book) ≡ false → VotesDummyNext digest book (deliver_call digest book frame).book
  second_block book frame was e free =
      fired_votes digest book (deliver_call digest book frame).book (delivery_stays digest book frame was)
      (set_or_clear (flag 1 (decode book)) (delivery_keeps_flag digest book frame)
      (λ clear. equivocation_fires digest book frame was clear e)) free
      (proposed_running (decode book) frame e.proposed)
