-- Step 5 of the paper, finalized outputs: its condition is the test of move 2.
use Rattle.std.specs.Prelude.{ℕ, ◌≤◌, ◌<◌, ◌≡◌, ◌⊎◌, true, false, []}
use Rattle.std.proofs.Common.{arith, subst, ◌∙◌, inl, inr}
use Rattle.std.proofs.Math.Path.{sym}
use borrow.Author.Tests.{ltb-true, lt-ltb}
use Rattle.protocol.specs.Bytes.{Bytes}
use Rattle.protocol.specs.State.{State, last, with_head}
use Rattle.protocol.specs.Linked.{Finalized, Largest}
use Rattle.protocol.proofs.Laws.LinkedLaws.{finalized_sound, finalized_complete}
use Rattle.protocol.proofs.Laws.ParentLaws.{largest_finalized-is}
use Rattle.protocol.specs.Sound.{view}
use Rattle.protocol.specs.Answer.{output}
use Rattle.protocol.specs.Move.{step, first_step, dummy_vote_applies, output_applies, output_step, new_finalized}
use Rattle.paper.specs.Paper.{SeenWithBlock, Finalization}
use Rattle.paper.specs.Blockchains.{InThePapersTerms}
use Rattle.paper.specs.Steps.{Makes, MayOutput, FinalizedOutputs}
use Rattle.paper.proofs.Laws.TakenLaws.{taken, answers, makes}
use Rattle.paper.proofs.Laws.SeenLaws.{finalized_seen}

module _ (digest : Bytes → Bytes) (s : State) (terms : InThePapersTerms digest s) where
  pub largest : Largest digest (view s) (last s) (new_finalized digest s)
  unfolding new_finalized
  largest = largest_finalized-is digest (view s) (last s)

  pub output_seen : output_applies digest s ≡ true →
      (s.finalized < new_finalized digest s) × SeenWithBlock digest (view s) (new_finalized digest s) × Finalization
      (view s) (new_finalized digest s)
  unfolding output_applies
  output_seen e = go largest.finalized
    where
      above : s.finalized < new_finalized digest s
      above = ltb-true _ _ e

      go : (new_finalized digest s ≡ 0) ⊎ Finalized digest (view s) (new_finalized digest s) →
          (s.finalized < new_finalized digest s) × SeenWithBlock digest (view s)
          (new_finalized digest s) × Finalization (view s) (new_finalized digest s)
      go (inl z) = absurd (let a = above in omega arith)
      go (inr f) =
          let q = (finalized_seen digest s terms (new_finalized digest s) (let a = above in omega arith)).0
          (finalized_complete digest (view s) (new_finalized digest s) f) in
          (above, q.0, q.1)

  pub not_above : (h : ℕ) → 1 ≤ h → h ≤ last s → SeenWithBlock digest (view s) h → Finalization (view s) h →
      h ≤ new_finalized digest s
  not_above h low high seen final =
      largest.most h low high
      (finalized_sound digest (view s) h ((finalized_seen digest s terms h low).1 (seen, final)))

  pub output_when : output_applies digest s ≡ true → MayOutput digest s
  output_when e = let q = output_seen e in (new_finalized digest s, q.0, largest.within, q.1, q.2)

  pub output_applies_lem : MayOutput digest s → output_applies digest s ≡ true
  unfolding output_applies
  output_applies_lem (h, above, high, seen, final) =
      let q = not_above h (omega arith) high seen final in
      lt-ltb s.finalized (new_finalized digest s) (omega arith)

  took_output : (g : ℕ) → (step digest s).move ≡ output g →
      (output_applies digest s ≡ true) × (new_finalized digest s ≡ g) × (step digest s ≡ output_step digest s)
  unfolding output_step
  took_output g e =
      let (b, q) = taken digest s (output g) e in
      let z : output (new_finalized digest s) ≡ output g = sym (answers digest s q) ∙ e in
      (b, cc, q)

  step_output : dummy_vote_applies s ≡ false → output_applies digest s ≡ true → step digest s ≡ output_step digest s
  unfolding step first_step
  step_output e e' = rw (e, e')

  pub finalized_outputs : FinalizedOutputs digest s
  unfolding FinalizedOutputs output_step
  finalized_outputs no-vote = (
    (
      forth,
      λ q. (
        new_finalized digest s,
        answers digest s (step_output no-vote (output_applies_lem q)),
      ),
    ),
    kept,
  )
    where
      forth : (g : ℕ) × ((step digest s).move ≡ output g) → MayOutput digest s
      forth (g, e) = output_when (took_output g e).0

      kept : (g : ℕ) → (step digest s).move ≡ output g →
          SeenWithBlock digest (view s) g × Finalization (view s) g ×
          ((h : ℕ) → 1 ≤ h → h ≤ last s → SeenWithBlock digest (view s) h → Finalization (view s) h → h ≤ g) ×
          Makes digest s (output g) [] (with_head s s.flags s.current g)
      kept g e =
          let t = took_output g e in
          let q = output_seen t.0 in
          subst (λ (g : ℕ). SeenWithBlock digest (view s) g × Finalization (view s) g ×
          ((h : ℕ) → 1 ≤ h → h ≤ last s → SeenWithBlock digest (view s) h → Finalization (view s) h → h ≤ g) ×
          Makes digest s (output g) [] (with_head s s.flags s.current g)) t.1
          (q.1, q.2, not_above, makes digest s (answers digest s t.2) t.2)
