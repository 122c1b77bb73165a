-- What an answer of Move says of the row that was taken, what the move makes, and that it is one of six.
use Rattle.std.specs.Prelude.{ℕ, ◌≡◌, true}
use Rattle.std.proofs.Math.Path.{refl, subst}
use Rattle.std.proofs.Common.{ap}
use borrow.Author.Tests.{leb-true, le-leb}
use Rattle.protocol.specs.Bytes.{Bytes}
use Rattle.protocol.proofs.Laws.MoveLaws.{step_cases}
use Rattle.protocol.specs.State.{State, last, with_head}
use Rattle.protocol.specs.Answer.{Move, idle, vote_dummy, output, pass, propose, vote_block}
use Rattle.protocol.specs.Move.{Step, step, is_running, idle_step, dummy_vote_applies, dummy_vote_step, output_applies}
use Rattle.protocol.specs.Move.{output_step, pass_applies, pass_step, propose_applies, propose_step, block_vote_applies}
use Rattle.protocol.specs.Move.{block_vote_step}
use Rattle.paper.specs.Steps.{Running, Makes, OneOfSix, it_idles, it_votes_dummy, it_outputs, it_passes, it_proposes}
use Rattle.paper.specs.Steps.{it_votes_block}

module _ (digest : Bytes → Bytes) (s : State) where
  -- what an answer says of the row that was taken
  abbrev pub Taken : Move → Type 0
  Taken idle = Unit {0}
  Taken (vote_dummy h) = (dummy_vote_applies s ≡ true) × (step digest s ≡ dummy_vote_step s)
  Taken (output g) = (output_applies digest s ≡ true) × (step digest s ≡ output_step digest s)
  Taken (pass h certificate finalized) = (pass_applies digest s ≡ true) × (step digest s ≡ pass_step digest s)
  Taken (propose h) = (propose_applies digest s ≡ true) × (step digest s ≡ propose_step digest s)
  Taken (vote_block h) = (block_vote_applies digest s ≡ true) × (step digest s ≡ block_vote_step digest s)

  pub taken : (move : Move) → (step digest s).move ≡ move → Taken move
  unfolding dummy_vote_step output_step pass_step propose_step block_vote_step idle_step
  taken move e = subst Taken e
      (step_cases digest s (λ (st : Step). step digest s ≡ st → Taken st.move)
      (λ a q. (a, q)) (λ _ b q. (b, q)) (λ _ _ c q. (c, q)) (λ _ _ _ d q. (d, q)) (λ _ _ _ _ e q. (e, q))
      (λ _ _ _ _ _ q. tt) refl)

  -- the answer of the row that was taken
  pub answers : {st : Step} → step digest s ≡ st → (step digest s).move ≡ st.move
  answers q = ap (λ (st : Step). st.move) q

  pub makes : {st : Step} {move : Move} → (step digest s).move ≡ move → step digest s ≡ st →
      Makes digest s move st.frames st.after
  makes e q = record { answers = e; writes = ap (λ (x : Step). x.frames) q; leaves = ap (λ (x : Step). x.after) q }

  pub running : is_running s ≡ true → Running digest s
  unfolding is_running
  running e = leb-true s.current (last s) e

  pub is_running_lem : Running digest s → is_running s ≡ true
  unfolding is_running
  is_running_lem e = le-leb s.current (last s) e

  -- each move names its height
  pub one_of_six : OneOfSix digest s (step digest s).move
  unfolding dummy_vote_step output_step pass_step propose_step block_vote_step idle_step with_head
  one_of_six = step_cases digest s (λ (st : Step). step digest s ≡ st → OneOfSix digest s st.move)
      (λ _ _. it_votes_dummy)
      (λ _ _ q. subst (λ (g : ℕ). OneOfSix digest s (output g)) (ap (λ (st : Step). st.after.finalized) q) it_outputs)
      (λ _ _ _ _. it_passes _ _) (λ _ _ _ _ _. it_proposes) (λ _ _ _ _ _ _. it_votes_block) (λ _ _ _ _ _ _. it_idles) refl
