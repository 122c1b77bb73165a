-- Step 4 of the paper, next iteration and finalize votes: its condition is the test of move 3.
use Prim.Native.Nat.{ℕ, suc, ◌+◌, ◌-◌}
use native.Mathlib.Omega.{arith}
use Rattle.std.specs.Prelude.{◌≡◌, refl, ◌⊎◌, Bool, ◌&&◌, not, cond, [], ◌∷◌}
use Rattle.std.proofs.Common.{sym, ◌∙◌, inl, inr}
use Rattle.std.proofs.Math.Path.{ap, subst}
use Rattle.std.proofs.Math.Bool.{true, false}
use Rattle.protocol.specs.SoundState.{SoundState}
use Rattle.protocol.specs.Bytes.{Bytes}
use Rattle.protocol.specs.Frame.{finalize}
use Rattle.protocol.proofs.Laws.TestsLaws.{and_both, or_either, or_right}
use Rattle.protocol.proofs.Laws.RowLaws.{true_and}
use Rattle.protocol.specs.State.{State, flag, with_head}
use Rattle.protocol.specs.View.{linked, is_dummy}
use Rattle.protocol.specs.Sound.{view}
use Rattle.protocol.specs.Answer.{pass, on_block, on_dummy}
use Rattle.protocol.specs.Move.{Step, step, first_step, is_running, is_some, dummy_vote_applies, output_applies, pass_applies}
use Rattle.protocol.specs.Move.{pass_step, parent_below, passes_at}
use Rattle.paper.specs.Paper.{Sequence, height, NotarizedBlockchain, SeenOfHeight, SeenWithBlock}
use Rattle.paper.specs.Blockchains.{InThePapersTerms}
use Rattle.paper.specs.Steps.{Running, Makes, Sent, MayPass, NextIteration}
use Rattle.paper.proofs.Laws.TakenLaws.{taken, answers, running, is_running_lem}
use Rattle.paper.proofs.Laws.SeenLaws.{with_block, with_dummy, before, linked_seen, parent_seen}

module _ (digest : Bytes → Bytes) (s : State) (sound : SoundState digest s) (terms : InThePapersTerms digest s) where
  pub pass_when : pass_applies digest s ≡ true → MayPass digest s
  unfolding pass_applies
  pass_when e =
      let q = and_both (is_running s) (passes_at digest (view s) s.current) e in (
        running digest s q.0,
        go (or_either (linked digest (view s) s.current)
            (is_dummy (view s) s.current && is_some (parent_below digest s)) q.1),
      )
    where
      go : (linked digest (view s) s.current ≡ true) ⊎
          ((is_dummy (view s) s.current && is_some (parent_below digest s)) ≡ true) →
          SeenOfHeight digest (view s) s.current
      go (inl l) = with_block digest s ((linked_seen digest s terms s.current sound.current_low).0 l)
      go (inr d) =
          let both = and_both (is_dummy (view s) s.current) (is_some (parent_below digest s)) d in
          let below = (parent_seen digest s terms (s.current - 1)).0 both.1 in
          subst (λ (c : ℕ). SeenOfHeight digest (view s) c) (before digest s sound)
          (with_dummy digest s (s.current - 1)
          (subst (λ (c : ℕ). is_dummy (view s) c ≡ true) (sym (before digest s sound)) both.0)
          below)

  pub pass_applies_lem : Running digest s → SeenOfHeight digest (view s) s.current → pass_applies digest s ≡ true
  unfolding pass_applies height is_dummy
  pass_applies_lem r q = true_and _ _ (is_running_lem digest s r) (go q.notarized q.its_height)
    where
      on_dummy_lem : {c : Sequence} → NotarizedBlockchain digest (view s) c → is_dummy (view s) (suc (height c)) ≡ true →
          suc (height c) ≡ s.current →
          passes_at digest (view s) s.current ≡ true
      on_dummy_lem {c} n d e =
          let some_below : is_some (parent_below digest s) ≡ true =
          (parent_seen digest s terms (s.current - 1)).1
          (record { sequence = c; notarized = n; its_height = omega arith }) in
          or_right (linked digest (view s) s.current)
          (true_and _ _ (subst (λ (h : ℕ). is_dummy (view s) h ≡ true) e d) some_below)

      go : {c : Sequence} → NotarizedBlockchain digest (view s) c → height c ≡ s.current →
          passes_at digest (view s) s.current ≡ true
      go NotarizedBlockchain.start e = absurd (let low = sound.current_low in omega arith)
      go (NotarizedBlockchain.dummy_next n d) e = on_dummy_lem n d e
      go (NotarizedBlockchain.block_next {c = c} {b = b} n f k) e =
          let l = (linked_seen digest s terms s.current sound.current_low).1
          (record { parent = c; block = b; notarized = NotarizedBlockchain.block_next n f k; its_height = e }) in
          rw l

  step_pass : dummy_vote_applies s ≡ false → output_applies digest s ≡ false → pass_applies digest s ≡ true →
      step digest s ≡ pass_step digest s
  unfolding step first_step
  step_pass e e' e'' = rw (e, e', e'')

  -- a pass, by whether the height is linked
  pass_made : step digest s ≡ pass_step digest s → (l : Bool) → linked digest (view s) s.current ≡ l →
      Makes digest s
      (pass s.current (cond l on_block on_dummy) (not (flag 1 s)))
      (Sent digest s (cond l on_block on_dummy) ∷ cond (not (flag 1 s)) (finalize s.own s.current ∷ []) [])
      (with_head s 0 (s.current + 1) s.finalized)
  unfolding pass_step
  pass_made q true l = record {
    answers = answers digest s q ∙ rw l;
    writes = ap (λ (st : Step). st.frames) q ∙ rw l;
    leaves = ap (λ (st : Step). st.after) q;
  }
  pass_made q false l = record {
    answers = answers digest s q ∙ rw l;
    writes = ap (λ (st : Step). st.frames) q ∙ rw l;
    leaves = ap (λ (st : Step). st.after) q;
  }

  not_linked : (SeenWithBlock digest (view s) s.current → ⊥) → linked digest (view s) s.current ≡ false
  not_linked never = go (linked digest (view s) s.current) refl
    where
      go : (b : Bool) → linked digest (view s) s.current ≡ b → b ≡ false
      go true e = absurd (never ((linked_seen digest s terms s.current sound.current_low).0 e))
      go false e = refl

  pub next_iteration : NextIteration digest s
  unfolding NextIteration pass_step
  next_iteration no-vote no_output = (
    (
      (λ q. pass_when (taken digest s (pass s.current q.0 q.1) q.2).0),
      λ q. (_, _, answers digest s (passing q.0 q.1)),
    ),
    (λ r seen. pass_made (passing r (with_block digest s seen)) true
        ((linked_seen digest s terms s.current sound.current_low).1 seen)),
    λ r seen never. pass_made (passing r seen) false (not_linked never),
  )
    where
      passing : Running digest s → SeenOfHeight digest (view s) s.current → step digest s ≡ pass_step digest s
      passing r q = step_pass no-vote no_output (pass_applies_lem r q)
