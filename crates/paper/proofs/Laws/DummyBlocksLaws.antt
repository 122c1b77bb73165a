-- Step 2 of the paper, dummy blocks: its condition is the test of move 1.
use Rattle.std.specs.Prelude.{◌≡◌, true}
use Rattle.protocol.specs.Every.{Every}
use Rattle.protocol.specs.Bytes.{Bytes}
use Rattle.protocol.proofs.Laws.RowLaws.{all_of_lem}
use Rattle.protocol.proofs.Laws.MoveLaws.{dummy_vote_rows}
use Rattle.protocol.specs.State.{State}
use Rattle.protocol.specs.Answer.{vote_dummy}
use Rattle.protocol.specs.Move.{step, first_step, dummy_vote_applies, dummy_vote_step}
use Rattle.paper.specs.Steps.{MayVoteDummy, DummyBlocks}
use Rattle.paper.proofs.Laws.TakenLaws.{taken, answers, makes, running, is_running_lem}

module _ (digest : Bytes → Bytes) (s : State) where
  pub dummy_applies : MayVoteDummy digest s → dummy_vote_applies s ≡ true
  unfolding dummy_vote_applies
  dummy_applies (r, f, g) = all_of_lem (Every.one (is_running_lem digest s r) (Every.one f (Every.one (rw g) Every.none)))

  pub dummy_when : dummy_vote_applies s ≡ true → MayVoteDummy digest s
  dummy_when e = let rows = dummy_vote_rows s e in (running digest s rows.running, rows.fired, rows.not_yet)

  step_dummy : dummy_vote_applies s ≡ true → step digest s ≡ dummy_vote_step s
  unfolding step first_step
  step_dummy e = rw e

  pub dummy_blocks : DummyBlocks digest s
  unfolding DummyBlocks dummy_vote_step
  dummy_blocks = (
    ((λ e. dummy_when (took e).0), λ q. answers digest s (step_dummy (dummy_applies q))),
    λ e. makes digest s e (took e).1,
  )
    where
      took : (step digest s).move ≡ vote_dummy s.current →
          (dummy_vote_applies s ≡ true) × (step digest s ≡ dummy_vote_step s)
      took e = taken digest s (vote_dummy s.current) e
