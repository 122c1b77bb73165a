-- Deliver: what is known of a frame that is read, of a leader who equivocates and of a frame that contradicts nothing,
-- what each kind keeps, and the four ways in which a delivery ends.
use Prim.Native.Nat.{ℕ, ◌≤◌, ◌<◌}
use Rattle.std.proofs.Common.{arith, sym, ◌∙◌}
use Rattle.std.proofs.Math.Decide.{ℕ_discrete}
use Rattle.std.specs.Prelude.{◌≡◌, ◌≢◌, ◌||◌, cond, length, eqb, ltb}
use Rattle.std.proofs.Math.Path.{refl, subst}
use Rattle.std.proofs.Math.Bool.{Bool, true, false, not, true≢false}
use mathlib.Core.List.{List, [], ◌∷◌}
use Rattle.std.proofs.Math.Option.{Option, some, none}
use Rattle.std.proofs.Math.ListN.{length-drop}
use borrow.Author.Tests.{eqb-true, eq-eqb, ltb-true, not-true}
use Rattle.protocol.specs.ReadFrame.{ReadFrame}
use Rattle.protocol.specs.Bytes.{Bytes, same}
use Rattle.protocol.specs.Tests.{all_of, in_range, implies, first_refusal}
use Rattle.protocol.specs.Frame.{kind, signer, frame_height, signer_mask, frame_digest, frame_block, frame_well_formed}
use Rattle.protocol.specs.Frame.{is_statement, is_proposal}
use Rattle.protocol.specs.Mask.{in_mask, below_bit}
use Rattle.protocol.specs.State.{State, Height, at, last, decode, encode, with_height, holds_proposal, is_notarized}
use Rattle.protocol.specs.State.{vote_of, flag, with_timer_fired}
use Rattle.protocol.specs.View.{View, quorum}
use Rattle.protocol.specs.Sound.{view, sound}
use Rattle.protocol.specs.Answer.{Outcome, Delivery, refused, accepted, known, fresh, unless_refused}
use Rattle.protocol.specs.Deliver.{read_rows, clash_rows, deliver_rows, keep_proposal, keep_block_vote, keep_dummy_vote}
use Rattle.protocol.specs.Deliver.{keep_finalize, keep_block_certificate, keep_dummy_certificate}
use Rattle.protocol.specs.Deliver.{keep_finalize_certificate, keep, kept, deliver_call, voters_for, notarize}
use Rattle.protocol.specs.Deliver.{with_notarized, second_proposal, leader_equivocates, timer_fires, heard}
use Rattle.protocol.proofs.Laws.BytesLaws.{length_part}
use Rattle.protocol.proofs.Laws.MaskLaws.{below_lt}
use Rattle.protocol.proofs.Laws.TestsLaws.{cond-elim, and_both}
use Rattle.protocol.proofs.Laws.RowLaws.{row_passes, by_rows, by_tested, split_rows, in_range_lem, range_in}
use Rattle.protocol.proofs.Laws.RowLaws.{pass_row, pass_rows, not_passed, true_and, implies_true, true_implies}
use Rattle.protocol.proofs.Laws.RowLaws.{same_eq, eq_same}
use Rattle.protocol.proofs.Laws.FormedLaws.{formed_frame}

-- ---- kinds
pub statement_kind : (k : ℕ) → 1 ≤ k → k ≤ 4 → is_statement k ≡ true
unfolding is_statement
statement_kind k low high = range_in 1 4 k low high

pub certificate_kind_lem : (k : ℕ) → 5 ≤ k → is_statement k ≡ false
unfolding is_statement
certificate_kind_lem k high = not_passed (in_range 1 4 k) (λ e. omega (arith, in_range_lem 1 4 k e))

pub formed_size : (frame : Bytes) → frame_well_formed frame ≡ true → length frame ≡ 224
formed_size frame formed = (formed_frame frame formed).size

-- ---- a frame that is read
module _ (s : State) (frame : Bytes) where
  -- refusal 5, by whether the frame is a statement
  abbrev Members : Bool → Type 0
  Members statement = cond statement (ltb (signer frame) s.n) (below_bit s.n (signer_mask frame)) ≡ true

  pub rows_read : first_refusal (read_rows s frame) ≡ none → ReadFrame s frame
  unfolding read_rows
  rows_read e =
      by_tested _ e λ formed height members leader enough.
      let is = formed_frame frame formed in
      let range = in_range_lem 1 (last s) (frame_height frame) height in
      record {
        size = is.size;
        kind_low = is.kind_low;
        kind_high = is.kind_high;
        block_formed = is.block_formed;
        low = range.0;
        high = range.1;
        signer_small = λ l. ltb-true _ _ (subst Members (statement_kind (kind frame) is.kind_low l) members);
        mask_small = λ l. below_lt _ _ (subst Members (certificate_kind_lem (kind frame) l) members);
        led = λ one. eqb-true _ _ (implies_true _ _ leader (rw one refl));
        enough = λ l. subst (λ (b : Bool). (b || quorum (view s) (signer_mask frame)) ≡ true)
            (certificate_kind_lem (kind frame) l) enough;
      }

module _ {s : State} {frame : Bytes} (read : ReadFrame s frame) where
  pub digest_size_lem : length (frame_digest frame) ≡ 32
  unfolding frame_digest
  digest_size_lem = length_part frame 16 32 (omega (arith, read.size))

  pub block_size_lem : length (frame_block frame) ≡ 176
  unfolding frame_block
  block_size_lem = rw length-drop (omega (arith, read.size))

  -- the signer of a vote for a block has a place for it
  pub signer_few : s.n ≤ 16 → kind frame ≡ 2 → signer frame < 16
  signer_few most two = omega (arith, read.signer_small (omega arith))

-- ---- a leader who equivocates
-- a frame is a proposal for the current height, which holds another one
pub record Equivocates (s : State) (frame : Bytes) : Type 0 where
  pub proposes : kind frame ≡ 1
  pub held : holds_proposal (at s (frame_height frame)) ≡ true
  pub unlike : (at s (frame_height frame)).proposal ≢ frame_block frame
  pub here : frame_height frame ≡ s.current

module _ (s : State) (frame : Bytes) where
  pub equivocates : leader_equivocates s frame ≡ true → Equivocates s frame
  unfolding leader_equivocates second_proposal
  equivocates e =
      let (second, here) = and_both _ _ e in
      by_rows _ second λ one held unlike. record {
        proposes = eqb-true _ _ one;
        held = held;
        unlike = λ is. true≢false (sym (eq_same _ _ is) ∙ not-true _ unlike);
        here = eqb-true _ _ here;
      }

  -- a proposal whose height holds another one
  pub second_proposal_lem : kind frame ≡ 1 → holds_proposal (at s (frame_height frame)) ≡ true →
      same (at s (frame_height frame)).proposal (frame_block frame) ≡ false → second_proposal s frame ≡ true
  unfolding second_proposal all_of
  second_proposal_lem one held unlike = rw (one, held, unlike)

  pub equivocal : Equivocates s frame → leader_equivocates s frame ≡ true
  unfolding leader_equivocates
  equivocal e =
      true_and _ _ (second_proposal_lem e.proposes e.held (not_passed _ (λ is. e.unlike (same_eq _ _ is))))
      (eq-eqb _ _ e.here)

  -- frames of other kinds fire no timer
  pub no_proposal : is_proposal (kind frame) ≡ false → leader_equivocates s frame ≡ false
  unfolding leader_equivocates second_proposal all_of
  no_proposal e = rw e

-- ---- a frame that contradicts nothing kept at its height, unless the leader of the current height equivocates by it
pub record Agrees (s : State) (frame : Bytes) : Type 0 where
  pub proposal : kind frame ≡ 1 → holds_proposal (at s (frame_height frame)) ≡ true →
      leader_equivocates s frame ≡ false → (at s (frame_height frame)).proposal ≡ frame_block frame
  pub vote : kind frame ≡ 2 → in_mask (at s (frame_height frame)).voter_mask (signer frame) ≡ true →
      vote_of (at s (frame_height frame)) (signer frame) ≡ frame_digest frame
  pub block : kind frame ≡ 5 → is_notarized (at s (frame_height frame)) ≡ true →
      (at s (frame_height frame)).notarized ≡ frame_block frame

-- a proposal that row 8 lets pass is the held one, if one is held and the leader does not equivocate by it
single_proposal : (s : State) (frame : Bytes) →
    implies (second_proposal s frame) (eqb (frame_height frame) s.current) ≡ true → kind frame ≡ 1 →
    holds_proposal (at s (frame_height frame)) ≡ true → leader_equivocates s frame ≡ false →
    (at s (frame_height frame)).proposal ≡ frame_block frame
unfolding leader_equivocates
single_proposal s frame passes one held single =
    go (same (at s (frame_height frame)).proposal (frame_block frame)) refl
  where
    go : (b : Bool) → same (at s (frame_height frame)).proposal (frame_block frame) ≡ b →
        (at s (frame_height frame)).proposal ≡ frame_block frame
    go true e = same_eq _ _ e
    go false e =
        let second = second_proposal_lem s frame one held e in
        absurd (true≢false (sym (true_and _ _ second (implies_true _ _ passes second)) ∙ single))

pub clash_facts : (s : State) (frame : Bytes) → first_refusal (clash_rows s frame) ≡ none → Agrees s frame
unfolding clash_rows implies
clash_facts s frame e =
    by_tested _ e λ proposals votes blocks. record {
      proposal = single_proposal s frame proposals;
      vote = λ two has. same_eq _ _ (rw (two, has) at votes);
      block = λ five has. same_eq _ _ (rw (five, has) at blocks);
    }

-- a proposal for the current height passes these rows
clash_passes : (s : State) (frame : Bytes) → kind frame ≡ 1 → frame_height frame ≡ s.current →
    first_refusal (clash_rows s frame) ≡ none
unfolding clash_rows first_refusal
clash_passes s frame one here = rw (
  true_implies (second_proposal s frame) (eqb (frame_height frame) s.current) (λ _. eq-eqb _ _ here),
  one,
) (unfold implies in refl)

-- ---- what each of the seven kinds keeps
-- a fact of what is kept, if something is
abbrev pub OnSome : {A : Type 0} → (A → Type 0) → Option A → Type 0
OnSome P none = Unit {0}
OnSome P (some a) = P a

-- nothing is kept where the frame is known
pub unless_known : {A : Type 0} (P : A → Type 0) (was : Bool) {y : A} → (was ≡ false → P y) →
    OnSome P (cond was none (some y))
unless_known P true new = tt
unless_known P false new = new refl

-- ---- a notarization by votes
-- what the rows of `notarize` say of a height
pub record Counted (digest : Bytes → Bytes) (v : View) (x : Height) : Type 0 where
  pub free : is_notarized x ≡ false
  pub held : holds_proposal x ≡ true
  pub enough : quorum v (voters_for x (digest x.proposal) v.n) ≡ true

module _ (digest : Bytes → Bytes) (v : View) (x : Height) where
  -- the held proposal is notarized, or the height stays, and then no quorum of votes for it is overlooked
  pub notarize_cases : (P : Height → Type 0) →
      (Counted digest v x → P (with_notarized x (voters_for x (digest x.proposal) v.n) x.proposal)) →
      ((holds_proposal x ≡ true → quorum v (voters_for x (digest x.proposal) v.n) ≡ true → is_notarized x ≡ true) →
      P x) → P (notarize digest v x)
  unfolding notarize
  notarize_cases P notarized stays =
      let rows : List Bool = not (is_notarized x) ∷ holds_proposal x ∷ quorum v voters ∷ [] in
      cond-elim P (all_of rows)
      (λ e. notarized (by_rows rows e λ free held enough.
      record { free = not-true _ free; held = held; enough = enough }))
      (λ e. stays (λ held enough. overlooked held enough e (is_notarized x) refl))
    where
      voters : ℕ
      voters = voters_for x (digest x.proposal) v.n

      overlooked : holds_proposal x ≡ true → quorum v voters ≡ true →
          all_of (not (is_notarized x) ∷ holds_proposal x ∷ quorum v voters ∷ []) ≡ false → (b : Bool) →
          is_notarized x ≡ b → is_notarized x ≡ true
      overlooked held enough e true f = f
      overlooked held enough e false f = unfold all_of in absurd (true≢false (rw (f, held, enough) at e))

module _ (digest : Bytes → Bytes) (s : State) (frame : Bytes) where
  abbrev x : Height
  x = at s (frame_height frame)

  pub keep_proposal_lem : kind frame ≡ 1 → keep digest s frame ≡ keep_proposal digest (view s) x frame
  unfolding keep
  keep_proposal_lem e = rw e

  pub keep_block_vote_lem : kind frame ≡ 2 → keep digest s frame ≡ keep_block_vote digest (view s) x frame
  unfolding keep
  keep_block_vote_lem e = rw e

  pub keep_dummy_vote_lem : kind frame ≡ 3 → keep digest s frame ≡ keep_dummy_vote x frame
  unfolding keep
  keep_dummy_vote_lem e = rw e

  pub keep_finalize_lem : kind frame ≡ 4 → keep digest s frame ≡ keep_finalize x frame
  unfolding keep
  keep_finalize_lem e = rw e

  pub keep_block_certificate_lem : kind frame ≡ 5 → keep digest s frame ≡ keep_block_certificate x frame
  unfolding keep
  keep_block_certificate_lem e = rw e

  pub keep_dummy_certificate_lem : kind frame ≡ 6 → keep digest s frame ≡ keep_dummy_certificate s.n x frame
  unfolding keep
  keep_dummy_certificate_lem e = rw e

  pub keep_finalize_certificate_lem : kind frame ≡ 7 → keep digest s frame ≡ keep_finalize_certificate s.n x frame
  unfolding keep
  keep_finalize_certificate_lem e = rw e

  -- what holds of the kept height for each kind holds of that which a frame that is read keeps
  pub keep_cases : ReadFrame s frame → (P : ℕ → Option Height → Type 0) →
      (kind frame ≡ 1 → P 1 (keep_proposal digest (view s) x frame)) →
      (kind frame ≡ 2 → P 2 (keep_block_vote digest (view s) x frame)) →
      (kind frame ≡ 3 → P 3 (keep_dummy_vote x frame)) → (kind frame ≡ 4 → P 4 (keep_finalize x frame)) →
      (kind frame ≡ 5 → P 5 (keep_block_certificate x frame)) →
      (kind frame ≡ 6 → P 6 (keep_dummy_certificate s.n x frame)) →
      (kind frame ≡ 7 → P 7 (keep_finalize_certificate s.n x frame)) → P (kind frame) (keep digest s frame)
  keep_cases read P p1 p2 p3 p4 p5 p6 p7 =
      seven (ℕ_discrete (kind frame) 1) (ℕ_discrete (kind frame) 2) (ℕ_discrete (kind frame) 3)
      (ℕ_discrete (kind frame) 4) (ℕ_discrete (kind frame) 5) (ℕ_discrete (kind frame) 6)
    where
      of : (k : ℕ) (o : Option Height) → kind frame ≡ k → keep digest s frame ≡ o → (kind frame ≡ k → P k o) →
          P (kind frame) (keep digest s frame)
      of k o is keeps p = rw keeps (subst (λ (z : ℕ). P z o) (sym is) (p is))

      seven : Dec (kind frame ≡ 1) → Dec (kind frame ≡ 2) → Dec (kind frame ≡ 3) → Dec (kind frame ≡ 4) →
          Dec (kind frame ≡ 5) → Dec (kind frame ≡ 6) → P (kind frame) (keep digest s frame)
      seven (yes e) b c d f g = of 1 _ e (keep_proposal_lem e) p1
      seven (no a) (yes e) c d f g = of 2 _ e (keep_block_vote_lem e) p2
      seven (no a) (no b) (yes e) d f g = of 3 _ e (keep_dummy_vote_lem e) p3
      seven (no a) (no b) (no c) (yes e) f g = of 4 _ e (keep_finalize_lem e) p4
      seven (no a) (no b) (no c) (no d) (yes e) g = of 5 _ e (keep_block_certificate_lem e) p5
      seven (no a) (no b) (no c) (no d) (no f) (yes e) = of 6 _ e (keep_dummy_certificate_lem e) p6
      seven (no a) (no b) (no c) (no d) (no f) (no g) =
          let low = read.kind_low in
          let high = read.kind_high in
          let e : kind frame ≡ 7 = omega arith in
          of 7 _ e (keep_finalize_certificate_lem e) p7

-- ---- the call
-- what a delivery that is not refused has tested
pub record Accepts (digest : Bytes → Bytes) (book frame : Bytes) : Type 0 where
  pub was_sound : sound digest book ≡ true
  pub passes : first_refusal (read_rows (decode book) frame) ≡ none
  pub read : ReadFrame (decode book) frame
  pub agrees : Agrees (decode book) frame

module _ (digest : Bytes → Bytes) (book frame : Bytes) where
  pub deliver_facts : first_refusal (deliver_rows digest book frame) ≡ none → Accepts digest book frame
  unfolding deliver_rows
  deliver_facts e =
      let (is_sound_lem, rest) = row_passes _ _ e in
      let (passes, clash) = split_rows (read_rows (decode book) frame) (clash_rows (decode book) frame) rest in
      record {
        was_sound = is_sound_lem;
        passes = passes;
        read = rows_read (decode book) frame passes;
        agrees = clash_facts (decode book) frame clash;
      }

  -- the outcome of a frame by which no leader equivocates
  pub heard_single : leader_equivocates (decode book) frame ≡ false →
      heard digest book frame ≡ kept digest book frame (keep digest (decode book) frame)
  unfolding heard
  heard_single e = rw e

  -- a proposal that is read over a sound book, for its current height, is not refused
  pub proposal_passes : sound digest book ≡ true → first_refusal (read_rows (decode book) frame) ≡ none →
      kind frame ≡ 1 → frame_height frame ≡ (decode book).current → first_refusal (deliver_rows digest book frame) ≡ none
  unfolding deliver_rows
  proposal_passes was_sound passes one here =
      pass_row _ _ was_sound ∙ pass_rows (read_rows (decode book) frame) _ passes ∙
      clash_passes (decode book) frame one here

  -- and the timer fires by it where the leader equivocates
  pub proposal_fires : sound digest book ≡ true → first_refusal (read_rows (decode book) frame) ≡ none →
      Equivocates (decode book) frame → deliver_call digest book frame ≡ timer_fires book
  unfolding deliver_call heard unless_refused
  proposal_fires was_sound passes e =
      rw (proposal_passes was_sound passes e.proposes e.here, equivocal (decode book) frame e)

  nothing_kept : Equivocates (decode book) frame → keep digest (decode book) frame ≡ none
  nothing_kept e =
      keep_proposal_lem digest (decode book) frame e.proposes ∙ (unfold keep_proposal in rw e.held)

  -- a delivery is refused, or the frame is known, and the book stays; or the frame is fresh, and one height changes or,
  -- where the leader of the current height equivocates, the timer fires
  pub deliver_cases : (P : Outcome Delivery → Type 0) →
      ((number : ℕ) → first_refusal (deliver_rows digest book frame) ≡ some number →
      P (record { answer = refused number; book = book })) →
      (Accepts digest book frame → (leader_equivocates (decode book) frame ≡ true → flag 1 (decode book) ≡ true) →
      keep digest (decode book) frame ≡ none → P (record { answer = accepted known; book = book })) →
      ((y : Height) → Accepts digest book frame → leader_equivocates (decode book) frame ≡ false →
      keep digest (decode book) frame ≡ some y →
      P (record { answer = accepted fresh; book = encode (with_height (decode book) (frame_height frame) y) })) →
      (Accepts digest book frame → leader_equivocates (decode book) frame ≡ true → flag 1 (decode book) ≡ false →
      P (record { answer = accepted fresh; book = encode (with_timer_fired (decode book)) })) →
      P (deliver_call digest book frame)
  unfolding deliver_call heard timer_fires unless_refused kept
  deliver_cases P refusal same new fired =
      go (first_refusal (deliver_rows digest book frame)) refl (leader_equivocates (decode book) frame) refl
      (flag 1 (decode book)) refl (keep digest (decode book) frame) refl
    where
      go : (r : Option ℕ) → first_refusal (deliver_rows digest book frame) ≡ r →
          (b : Bool) → leader_equivocates (decode book) frame ≡ b → (f : Bool) → flag 1 (decode book) ≡ f →
          (o : Option Height) → keep digest (decode book) frame ≡ o →
          P (unless_refused r book (cond b (cond f (record { answer = accepted known; book = book })
          (record { answer = accepted fresh; book = encode (with_timer_fired (decode book)) }))
          (kept digest book frame o)))
      go (some number) e b d f g o k = refusal number e
      go none e true d true g o k = same (deliver_facts e) (λ _. g) (nothing_kept (equivocates (decode book) frame d))
      go none e true d false g o k = fired (deliver_facts e) d g
      go none e false d f g none k = same (deliver_facts e) (λ is. absurd (true≢false (sym is ∙ d))) k
      go none e false d f g (some y) k = new y (deliver_facts e) d k

  -- a frame that passes all rows is accepted
  pub heard_accepted : (news : Delivery) × ((heard digest book frame).answer ≡ accepted news)
  unfolding heard timer_fires kept
  heard_accepted =
      cond-elim Accepted (leader_equivocates (decode book) frame)
      (λ _. cond-elim Accepted (flag 1 (decode book)) (λ _. (known, refl)) (λ _. (fresh, refl)))
      (λ _. go (keep digest (decode book) frame))
    where
      Accepted : Outcome Delivery → Type 0
      Accepted o = (news : Delivery) × (o.answer ≡ accepted news)

      go : (o : Option Height) → Accepted (kept digest book frame o)
      go none = (known, refl)
      go (some y) = (fresh, refl)
