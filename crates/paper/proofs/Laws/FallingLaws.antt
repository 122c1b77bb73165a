-- Each move lowers the measure: the tests after a change of the head, then move by move.
use Rattle.std.specs.Prelude.{ℕ, suc, ◌+◌, ◌-◌, ◌<◌, ◌≡◌, ◌⊎◌, Bool, false, ◌&&◌, eqb}
use Rattle.std.proofs.Common.{arith, ◌∙◌, inl, inr}
use Rattle.std.proofs.Math.Path.{refl}
use Rattle.std.proofs.Math.Bool.{true, and-false}
use borrow.Author.Tests.{leb-true, lt-leb}
use Rattle.protocol.specs.Bytes.{Bytes}
use Rattle.protocol.specs.Tests.{all_of}
use Rattle.protocol.proofs.Laws.TestsLaws.{and_both}
use Rattle.protocol.proofs.Laws.FlagLaws.{flag_set, flag_kept}
use Rattle.protocol.proofs.Laws.MoveLaws.{step_cases, dummy_vote_rows, propose_rows, block_vote_rows}
use Rattle.protocol.specs.State.{State, last, at, flag, with_head}
use Rattle.protocol.specs.Sound.{view}
use Rattle.protocol.specs.Move.{Step, step, is_running, dummy_vote_applies, dummy_vote_step, output_applies, output_step}
use Rattle.protocol.specs.Move.{pass_applies, pass_step, propose_applies, propose_step, block_vote_applies, block_vote_step}
use Rattle.protocol.specs.Move.{new_finalized, passes_at}
use Rattle.paper.specs.Idle.{NoMove}
use Rattle.paper.proofs.Laws.MeasureLaws.{bit, at_height, weight, less_dummy, less_output, less_pass, less_propose}
use Rattle.paper.proofs.Laws.MeasureLaws.{less_vote, measure, measure_is}

and_and_false : (a b : Bool) → (a && (b && false)) ≡ false
and_and_false true b = and-false b
and_and_false false b = refl

module _ (digest : Bytes → Bytes) where
  -- ---- the tests after a change of the head
  module _ (s : State) (f : ℕ) where
    abbrev flagged : State
    flagged = with_head s f s.current s.finalized

    dummy_after : flag 2 flagged ≡ true → dummy_vote_applies flagged ≡ false
    unfolding dummy_vote_applies all_of
    dummy_after e = rw e (and_and_false (is_running flagged) (flag 1 flagged))

    dummy_same : flag 1 flagged ≡ flag 1 s → flag 2 flagged ≡ flag 2 s → dummy_vote_applies flagged ≡ dummy_vote_applies s
    unfolding dummy_vote_applies is_running last with_head
    dummy_same e e' = rw (e, e')

    propose_same : flag 8 flagged ≡ flag 8 s → propose_applies digest flagged ≡ propose_applies digest s
    unfolding propose_applies is_running last with_head at view
    propose_same e = rw e

    propose_after : flag 8 flagged ≡ true → propose_applies digest flagged ≡ false
    unfolding propose_applies all_of
    propose_after e = rw e (and_and_false (is_running flagged)
        (eqb (at flagged flagged.current).leader flagged.own))

    vote_same : flag 4 flagged ≡ flag 4 s → block_vote_applies digest flagged ≡ block_vote_applies digest s
    unfolding block_vote_applies is_running last with_head at view
    vote_same e = rw e

    vote_after : flag 4 flagged ≡ true → block_vote_applies digest flagged ≡ false
    unfolding block_vote_applies all_of
    vote_after e = rw e (and-false (is_running flagged))

    output_same : output_applies digest flagged ≡ output_applies digest s
    unfolding output_applies new_finalized last with_head view at
    output_same = refl

    pass_same : pass_applies digest flagged ≡ pass_applies digest s
    unfolding pass_applies is_running last with_head view at
    pass_same = refl

    running_same : is_running flagged ≡ is_running s
    unfolding is_running last with_head
    running_same = refl

    left_same : last flagged - flagged.current ≡ last s - s.current
    unfolding last with_head
    left_same = refl

  lower_dummy : (s : State) → dummy_vote_applies s ≡ true → measure digest (dummy_vote_step s).after < measure digest s
  unfolding dummy_vote_step
  lower_dummy s e =
      let rows = dummy_vote_rows s e in
      let clear = rows.not_yet in
      let kept = flag_kept s s.current s.finalized 1 clear in
      let f = s.flags + 2 in
      rw (
        measure_is digest s rows.running e refl refl refl refl,
        measure_is digest (flagged s f) (running_same s f ∙ rows.running)
            (dummy_after s f (flag_set s s.current s.finalized 1 clear)) (output_same s f) (pass_same s f)
            (propose_same s f (kept 3 (omega arith))) (vote_same s f (kept 2 (omega arith))),
        left_same s f,
      )
      (less_dummy (output_applies digest s) (pass_applies digest s) (propose_applies digest s) (block_vote_applies digest s)
      (last s - s.current))

  lower_output : (s : State) → dummy_vote_applies s ≡ false → output_applies digest s ≡ true →
      measure digest (output_step digest s).after < measure digest s
  unfolding output_step with_head last
  lower_output s e1 e2 =
      rw (
        measure_is digest s refl e1 e2 refl refl refl,
        measure_is digest after running (dummy ∙ e1) none_left pass' propose' vote',
      ) (less_output (is_running s) (pass_applies digest s) (propose_applies digest s) (block_vote_applies digest s)
      (last s - s.current))
    where
      after : State
      after = with_head s s.flags s.current (new_finalized digest s)

      running : is_running after ≡ is_running s
      running = unfold is_running last with_head in refl

      dummy : dummy_vote_applies after ≡ dummy_vote_applies s
      dummy = unfold dummy_vote_applies is_running last with_head flag in refl

      none_left : output_applies digest after ≡ false
      none_left = unfold output_applies new_finalized last with_head view at in
          lt-leb (suc (new_finalized digest s)) (new_finalized digest s) (omega arith)

      pass' : pass_applies digest after ≡ pass_applies digest s
      pass' = unfold pass_applies is_running last with_head view at in refl

      propose' : propose_applies digest after ≡ propose_applies digest s
      propose' = unfold propose_applies is_running last with_head flag view at in refl

      vote' : block_vote_applies digest after ≡ block_vote_applies digest s
      vote' = unfold block_vote_applies is_running last with_head flag view at in refl

  lower_pass : (s : State) → dummy_vote_applies s ≡ false → output_applies digest s ≡ false → pass_applies digest s ≡ true →
      measure digest (pass_step digest s).after < measure digest s
  unfolding pass_step is_running with_head last
  lower_pass s e1 e2 e3 =
      let parts : (is_running s && passes_at digest (view s) s.current) ≡ true = unfold pass_applies in e3 in
      let running : is_running s ≡ true = (and_both (is_running s) (passes_at digest (view s) s.current) parts).0 in
      rw (measure_is digest s running e1 e2 e3 refl refl) (go (is_running after) (pass_applies digest after) refl refl)
    where
      after : State
      after = with_head s 0 (s.current + 1) s.finalized

      dummy : dummy_vote_applies after ≡ false
      dummy = unfold dummy_vote_applies all_of flag with_head in and-false (is_running after)

      out : output_applies digest after ≡ false
      out = unfold output_applies new_finalized last with_head view at in e2

      left : last after - after.current ≡ last s - (s.current + 1)
      left = unfold last with_head in refl

      go : (n p : Bool) → is_running after ≡ n → pass_applies digest after ≡ p →
          measure digest after < weight true false false true (propose_applies digest s) (block_vote_applies digest s)
          (last s - s.current)
      go false p e e' =
          rw (measure_is digest after e dummy out e' refl refl) (unfold weight at_height bit in omega arith)
      go true p e e' =
          rw (measure_is digest after e dummy out e' refl refl, left)
          (less_pass p (propose_applies digest after) (block_vote_applies digest after) (propose_applies digest s)
          (block_vote_applies digest s) (last s) s.current (leb-true _ _ e))

  lower_propose : (s : State) → dummy_vote_applies s ≡ false → output_applies digest s ≡ false →
      pass_applies digest s ≡ false → propose_applies digest s ≡ true →
      measure digest (propose_step digest s).after < measure digest s
  unfolding propose_step
  lower_propose s e1 e2 e3 e4 =
      let rows = propose_rows digest s e4 in
      let clear = rows.not_yet in
      let kept = flag_kept s s.current s.finalized 3 clear in
      let f = s.flags + 8 in
      rw (
        measure_is digest s rows.running e1 e2 e3 e4 refl,
        measure_is digest (flagged s f) (running_same s f ∙ rows.running)
            (dummy_same s f (kept 0 (omega arith)) (kept 1 (omega arith)) ∙ e1) (output_same s f ∙ e2)
            (pass_same s f ∙ e3) (propose_after s f (flag_set s s.current s.finalized 3 clear))
            (vote_same s f (kept 2 (omega arith))),
        left_same s f,
      )
      (less_propose (block_vote_applies digest s) (last s - s.current))

  lower_vote : (s : State) → dummy_vote_applies s ≡ false → output_applies digest s ≡ false →
      pass_applies digest s ≡ false → propose_applies digest s ≡ false →
      block_vote_applies digest s ≡ true → measure digest (block_vote_step digest s).after < measure digest s
  unfolding block_vote_step
  lower_vote s e1 e2 e3 e4 e5 =
      let rows = block_vote_rows digest s e5 in
      let clear = rows.not_yet in
      let kept = flag_kept s s.current s.finalized 2 clear in
      let f = s.flags + 4 in
      rw (
        measure_is digest s rows.running e1 e2 e3 e4 e5,
        measure_is digest (flagged s f) (running_same s f ∙ rows.running)
            (dummy_same s f (kept 0 (omega arith)) (kept 1 (omega arith)) ∙ e1) (output_same s f ∙ e2)
            (pass_same s f ∙ e3) (propose_same s f (kept 3 (omega arith)) ∙ e4)
            (vote_after s f (flag_set s s.current s.finalized 2 clear)),
        left_same s f,
      )
      (less_vote (last s - s.current))

  pub lowers : (s : State) → NoMove digest s ⊎ (measure digest (step digest s).after < measure digest s)
  lowers s = step_cases digest s (λ (st : Step). NoMove digest s ⊎ (measure digest st.after < measure digest s))
      (λ a. inr (lower_dummy s a))
      (λ a b. inr (lower_output s a b))
      (λ a b c. inr (lower_pass s a b c))
      (λ a b c d. inr (lower_propose s a b c d))
      (λ a b c d e. inr (lower_vote s a b c d e))
      (λ a b c d e. inl (record { no_dummy_vote = a; no_output = b; no_pass = c; no_proposal = d; no_block_vote = e }))
