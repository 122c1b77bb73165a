-- What the calls do to a book at its first height.
use Prim.Native.Nat.{ℕ, zero, suc, ◌+◌, ◌^◌, ◌≤◌, ◌<◌}
use Rattle.std.proofs.Common.{arith, sym, ◌∙◌, true≢false}
use Rattle.std.specs.Prelude.{◌≡◌, ◌≢◌, Bool, ◌&&◌, not, ◌++◌, map, length, eqb}
use Rattle.std.proofs.Math.Path.{refl}
use Rattle.std.proofs.Math.Bool.{true, false, and-true, and-false}
use Rattle.std.proofs.Math.Option.{some, none}
use borrow.Author.Tests.{lt-ltb, le-leb, lt-leb, eq-eqb, ne_eqb}
use Rattle.protocol.specs.Bytes.{Bytes, zeros, le16, word16, part, is_zero, all}
use Rattle.protocol.specs.Tests.{all_of, in_range, implies, first_refusal}
use Rattle.protocol.proofs.Laws.RowLaws.{range_in}
use Rattle.protocol.proofs.Laws.MoveLaws.{step_cases}
use Rattle.protocol.proofs.Laws.DeliverLaws.{no_proposal}
use Rattle.protocol.specs.State.{State, at, last, encode, holds_proposal, is_notarized, flag, with_head}
use Rattle.protocol.specs.State.{with_timer_fired, with_height}
use Rattle.protocol.specs.View.{quorum, is_dummy, linked, linked_within, is_finalized, largest_finalized, parent_of}
use Rattle.protocol.specs.Sound.{view}
use Rattle.protocol.specs.Open.{new_height}
use Rattle.protocol.specs.Deliver.{with_masks, read_rows, clash_rows, keep, kept, keep_dummy_vote}
use Rattle.protocol.specs.Deliver.{keep_finalize_certificate, second_proposal, deliver_rows, heard, deliver_call}
use Rattle.protocol.specs.Signal.{signal_rows, signal_call}
use Rattle.protocol.specs.Mask.{in_mask, union, below_bit}
use Rattle.protocol.specs.Frame.{kind, signer, frame_height, signer_mask, frame_digest, frame_block, is_statement}
use Rattle.protocol.specs.Frame.{is_certificate, carries_block, carries_digest, frame_well_formed, frame_of, dummy_vote}
use Rattle.protocol.specs.Frame.{is_proposal, finalize_certificate}
use Rattle.protocol.specs.Answer.{accepted, done, fresh, unless_refused}
use Rattle.protocol.specs.Move.{Step, first_step, is_some, is_running, idle_step, dummy_vote_applies, dummy_vote_step}
use Rattle.protocol.specs.Move.{moved, unless_move_refused, new_finalized, output_applies, pass_applies, pass_step}
use Rattle.protocol.specs.Move.{propose_applies, propose_step, block_vote_applies, block_vote_step, step, move_rows}
use Rattle.protocol.specs.Move.{move_call}
use Rattle.protocol.proofs.Laws.NewBookLaws.{Ranges, early, first_height, early_bare, early_back, early_sound}

-- ---- no block is notarized
module _ (digest : Bytes → Bytes) (s : State) (bare : (h : ℕ) → is_notarized (at s h) ≡ false) where
  pub unlinked : (i : ℕ) → linked digest (view s) (suc i) ≡ false
  unfolding linked linked_within view
  unlinked i = rw (ne_eqb (suc i) 0 (λ e. omega arith), bare (suc i))

  nothing_final : (h : ℕ) → largest_finalized digest (view s) h ≡ 0
  unfolding largest_finalized is_finalized
  nothing_final zero = refl
  nothing_final (suc h) = rw (unlinked h, nothing_final h)

  pub no_output : output_applies digest s ≡ false
  unfolding output_applies new_finalized
  no_output = rw (nothing_final (last s)) (lt-leb (suc s.finalized) 0 (omega arith))

  -- a move leaves the finalized height alone
  pub finalized_stays : (step digest s).after.finalized ≡ s.finalized
  unfolding dummy_vote_step pass_step propose_step block_vote_step idle_step with_head
  finalized_stays = step_cases digest s (λ (st : Step). st.after.finalized ≡ s.finalized)
      (λ _. refl) (λ _ applies. absurd (true≢false (sym applies ∙ no_output))) (λ _ _ _. refl) (λ _ _ _ _. refl)
      (λ _ _ _ _ _. refl) (λ _ _ _ _ _. refl)

-- ---- a book at its first height: its moves
module _ (edition n own flags dummy final leader : ℕ) (leaders : Bytes) (ranges : Ranges edition n own leader leaders)
    (flags-below : flags < 16) (dummy_below : dummy < 2 ^ n) (final-below : final < 2 ^ n) (digest : Bytes → Bytes)
  where
    abbrev E : State
    E = early edition n own flags dummy final leader leaders

    pub early_not_notarized : (h : ℕ) → is_notarized (at E h) ≡ false
    unfolding is_notarized
    early_not_notarized h = rw (early_bare edition n own flags dummy final leader leaders ranges flags-below dummy_below
        final-below h).nothing

    pub early_move : (reply : Bytes) → 448 ≤ length reply →
        move_call digest (encode E) reply ≡ moved reply (step digest E)
    unfolding move_call move_rows first_refusal unless_move_refused
    early_move reply room =
        rw (
          early_sound edition n own flags dummy final leader leaders ranges flags-below dummy_below final-below digest,
          early_back edition n own flags dummy final leader leaders ranges flags-below dummy_below final-below,
          le-leb 448 (length reply) room,
        )

    running : is_running E ≡ true
    unfolding is_running last
    running = le-leb 1 (suc (length (map new_height leaders))) (omega arith)

    pub voting : (b : Bool) → (flag 1 E && (not (flag 2 E) && true)) ≡ b → dummy_vote_applies E ≡ b
    unfolding dummy_vote_applies all_of
    voting b e = rw (running, e)

    no_block_vote : block_vote_applies digest E ≡ false
    unfolding block_vote_applies all_of at first_height with_masks new_height holds_proposal
    no_block_vote = rw (running, and-false)

    passing : (b : Bool) → is_dummy (view E) 1 ≡ b → pass_applies digest E ≡ b
    unfolding pass_applies parent_of is_some
    passing b e = rw (running, unlinked digest E early_not_notarized 0, e) (and-true b)

    pub step_vote : dummy_vote_applies E ≡ true → step digest E ≡ dummy_vote_step E
    unfolding step first_step
    step_vote e = rw e

    pub step_pass : dummy_vote_applies E ≡ false → is_dummy (view E) 1 ≡ true → step digest E ≡ pass_step digest E
    unfolding step first_step
    step_pass e q = rw (e, no_output digest E early_not_notarized, passing true q)

    pub step_propose : dummy_vote_applies E ≡ false → is_dummy (view E) 1 ≡ false → leader ≡ own → flag 8 E ≡ false →
        step digest E ≡ propose_step digest E
    unfolding step first_step
    step_propose e q lead not_yet = rw (e, no_output digest E early_not_notarized, passing false q, proposing)
      where
        proposing : propose_applies digest E ≡ true
        proposing = unfold propose_applies all_of at first_height with_masks new_height parent_of is_some in
            rw (running, eq-eqb leader own lead, not_yet)

    pub step_idle : dummy_vote_applies E ≡ false → is_dummy (view E) 1 ≡ false → leader ≢ own → step digest E ≡ idle_step E
    unfolding step first_step
    step_idle e q lead = rw (e, no_output digest E early_not_notarized, passing false q, not_proposing, no_block_vote)
      where
        not_proposing : propose_applies digest E ≡ false
        not_proposing = unfold propose_applies all_of at first_height with_masks new_height in
            rw (running, ne_eqb leader own lead)

    -- ---- the other calls
    has_first : in_range 1 (last E) 1 ≡ true
    unfolding last
    has_first = range_in 1 (suc (length (map new_height leaders))) 1 (omega arith) (omega arith)

    pub early_signal : flag 1 E ≡ false → signal_call digest (encode E) 1 ≡
        record { answer = accepted done; book = encode (early edition n own (flags + 1) dummy final leader leaders) }
    unfolding signal_call signal_rows first_refusal unless_refused with_timer_fired with_head
    early_signal e =
        rw (
          early_sound edition n own flags dummy final leader leaders ranges flags-below dummy_below final-below digest,
          early_back edition n own flags dummy final leader leaders ranges flags-below dummy_below final-below,
          has_first,
          e,
        )

    vote_rows : (s : ℕ) → s < n → first_refusal (read_rows E (dummy_vote s 1) ++ clash_rows E (dummy_vote s 1)) ≡ none
    unfolding read_rows clash_rows second_proposal first_refusal frame_well_formed all_of dummy_vote frame_of kind signer
        frame_height signer_mask frame_digest frame_block is_statement is_certificate carries_block carries_digest implies le16
        zeros word16 part is_zero all in_range last
    vote_rows s h = rw (le-leb 1 (suc (length (map new_height leaders))) (omega arith), lt-ltb s n h)

    keep_vote : (s : ℕ) → in_mask dummy s ≡ false → keep digest E (dummy_vote s 1) ≡ some
        (first_height leader (dummy + 2 ^ s) final)
    unfolding keep keep_dummy_vote at first_height new_height with_masks dummy_vote frame_of kind signer frame_height word16
        le16
    keep_vote s e = rw e

    kept_first : (frame : Bytes) (m q : ℕ) → frame_height frame ≡ 1 →
        kept digest (encode E) frame (some (first_height leader m q)) ≡
        record { answer = accepted fresh; book = encode (early edition n own flags m q leader leaders) }
    unfolding kept with_height
    kept_first frame m q e =
        rw (early_back edition n own flags dummy final leader leaders ranges flags-below dummy_below final-below, e)

    vote_kind : (s : ℕ) → is_proposal (kind (dummy_vote s 1)) ≡ false
    unfolding dummy_vote frame_of kind
    vote_kind s = refl

    vote_height : (s : ℕ) → frame_height (dummy_vote s 1) ≡ 1
    unfolding dummy_vote frame_of frame_height word16 le16
    vote_height s = refl

    pub early_vote : (s : ℕ) → s < n → in_mask dummy s ≡ false → deliver_call digest (encode E) (dummy_vote s 1) ≡
        record {
          answer = accepted fresh;
          book = encode (early edition n own flags (dummy + 2 ^ s) final leader leaders);
        }
    unfolding deliver_call heard deliver_rows first_refusal unless_refused
    early_vote s h e =
        rw (
          early_sound edition n own flags dummy final leader leaders ranges flags-below dummy_below final-below digest,
          early_back edition n own flags dummy final leader leaders ranges flags-below dummy_below final-below,
          vote_rows s h,
          no_proposal E (dummy_vote s 1) (vote_kind s),
          keep_vote s e,
        ) (kept_first (dummy_vote s 1) (dummy + 2 ^ s) final (vote_height s))

    certificate_rows_lem : (mask : ℕ) → below_bit n (word16 (le16 mask) 0) ≡ true →
        quorum (view E) (word16 (le16 mask) 0) ≡ true →
        first_refusal (read_rows E (finalize_certificate 1 mask) ++ clash_rows E (finalize_certificate 1 mask)) ≡ none
    unfolding read_rows clash_rows second_proposal first_refusal frame_well_formed all_of finalize_certificate frame_of kind
        signer frame_height signer_mask frame_digest frame_block is_statement is_certificate carries_block carries_digest
        implies le16 zeros word16 part is_zero all in_range last
    certificate_rows_lem mask below enough = rw (
      le-leb 1 (suc (length (map new_height leaders))) (omega arith),
      below,
      enough,
    )

    keep_certificate : (mask : ℕ) → eqb (union n final (word16 (le16 mask) 0)) final ≡ false →
        keep digest E (finalize_certificate 1 mask) ≡ some
        (first_height leader dummy (union n final (word16 (le16 mask) 0)))
    unfolding keep keep_finalize_certificate at first_height new_height with_masks finalize_certificate frame_of kind
        signer_mask
        frame_height word16 le16
    keep_certificate mask e = rw e

    certificate_kind_lem : (mask : ℕ) → is_proposal (kind (finalize_certificate 1 mask)) ≡ false
    unfolding finalize_certificate frame_of kind
    certificate_kind_lem mask = refl

    certificate_height : (mask : ℕ) → frame_height (finalize_certificate 1 mask) ≡ 1
    unfolding finalize_certificate frame_of frame_height word16 le16
    certificate_height mask = refl

    pub early_certificate : (mask : ℕ) → below_bit n (word16 (le16 mask) 0) ≡ true →
        quorum (view E) (word16 (le16 mask) 0) ≡ true →
        eqb (union n final (word16 (le16 mask) 0)) final ≡ false →
        deliver_call digest (encode E) (finalize_certificate 1 mask) ≡
        record {
          answer = accepted fresh;
          book = encode
              (early edition n own flags dummy (union n final (word16 (le16 mask) 0)) leader leaders);
        }
    unfolding deliver_call heard deliver_rows first_refusal unless_refused
    early_certificate mask below enough new =
        rw (
          early_sound edition n own flags dummy final leader leaders ranges flags-below dummy_below final-below digest,
          early_back edition n own flags dummy final leader leaders ranges flags-below dummy_below final-below,
          certificate_rows_lem mask below enough,
          no_proposal E (finalize_certificate 1 mask) (certificate_kind_lem mask),
          keep_certificate mask new,
        )
        (kept_first (finalize_certificate 1 mask) dummy (union n final (word16 (le16 mask) 0)) (certificate_height mask))
