-- The paper's five steps are the moves of Move, for every sound state; where none may be taken Move idles. Each step
-- has a file of its own.
use Rattle.std.specs.Prelude.{◌≡◌, Bool, true, false, length}
use Rattle.std.proofs.Common.{sym, ◌∙◌}
use Rattle.std.proofs.lemmas.Bool.{false≢true}
use Rattle.protocol.specs.SoundState.{SoundState}
use Rattle.protocol.specs.Bytes.{Bytes}
use Rattle.protocol.proofs.Laws.RowLaws.{not_passed}
use Rattle.protocol.proofs.Laws.SoundLaws.{certified_state}
use Rattle.protocol.specs.State.{State}
use Rattle.protocol.specs.Move.{idle_step}
use Rattle.paper.specs.Blockchains.{InThePapersTerms}
use Rattle.paper.proofs.Laws.BlockchainsLaws.{in_the_papers_terms}
use Rattle.paper.specs.Idle.{NoMove}
use Rattle.paper.proofs.Laws.IdleLaws.{idle_no_move, no_move_idle, step_idle}
use Rattle.paper.specs.Steps.{FiveSteps, NoStep, Idling}
use Rattle.paper.proofs.Laws.TakenLaws.{makes, one_of_six}
use Rattle.paper.proofs.Laws.DummyBlocksLaws.{dummy_applies, dummy_when, dummy_blocks}
use Rattle.paper.proofs.Laws.FinalizedOutputsLaws.{output_when, output_applies_lem, finalized_outputs}
use Rattle.paper.proofs.Laws.NextIterationLaws.{pass_when, pass_applies_lem, next_iteration}
use Rattle.paper.proofs.Laws.NotarizingProposalsLaws.{block_when, block_applies, notarizing_proposals}
use Rattle.paper.proofs.Laws.LeaderProposalLaws.{propose_when, propose_applies_lem, leader_proposal}

module _ (digest : Bytes → Bytes) (s : State) (sound : SoundState digest s) (terms : InThePapersTerms digest s) where
  -- ---- no step
  no_step : NoMove digest s → NoStep digest s
  no_step q = record {
    no_proposal = λ may. never (propose_applies_lem digest s sound terms may) q.no_proposal;
    no_dummy_vote = λ may. never (dummy_applies digest s may) q.no_dummy_vote;
    no_block_vote = λ may. never (block_applies digest s sound terms may) q.no_block_vote;
    no_pass = λ may. never (pass_applies_lem digest s sound terms may.0 may.1) q.no_pass;
    no_output = λ may. never (output_applies_lem digest s terms may) q.no_output;
  }
    where
      never : {b : Bool} → b ≡ true → b ≡ false → ⊥
      never e e' = false≢true (sym e' ∙ e)

  no_move : NoStep digest s → NoMove digest s
  no_move q = record {
    no_dummy_vote = not_passed _ (λ e. q.no_dummy_vote (dummy_when digest s e));
    no_output = not_passed _ (λ e. q.no_output (output_when digest s terms e));
    no_pass = not_passed _ (λ e. q.no_pass (pass_when digest s sound terms e));
    no_proposal = not_passed _ (λ e. q.no_proposal (propose_when digest s sound terms e));
    no_block_vote = not_passed _ (λ e. q.no_block_vote (block_when digest s sound terms e));
  }

  pub idling : Idling digest s
  unfolding Idling idle_step
  idling = (
    ((λ e. no_step (idle_no_move digest s e)), λ q. no_move_idle digest s (no_move q)),
    λ q. makes digest s (no_move_idle digest s (no_move q)) (step_idle digest s (no_move q)),
  )

-- the five steps, for every sound state and every digest of 32 bytes
pub five_steps : (digest : Bytes → Bytes) → ((block : Bytes) → length (digest block) ≡ 32) → (s : State) →
    SoundState digest s → FiveSteps digest s
five_steps digest size s sound =
    let terms = in_the_papers_terms digest s (certified_state sound) in
    record {
      leader_proposal = leader_proposal digest s sound terms size;
      dummy_blocks = dummy_blocks digest s;
      notarizing_proposals = notarizing_proposals digest s sound terms;
      next_iteration = next_iteration digest s sound terms;
      finalized_outputs = finalized_outputs digest s terms;
      idling = idling digest s sound terms;
      one_of_six = one_of_six digest s;
    }
