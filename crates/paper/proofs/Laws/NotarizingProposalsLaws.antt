-- Step 3 of the paper, notarizing proposals: its condition is the test of move 5.
use Prim.Native.Nat.{ℕ, suc, ◌-◌}
use Rattle.std.specs.Prelude.{◌≡◌, ◌↔◌, true, false}
use Rattle.std.proofs.Math.Path.{sym, subst}
use Rattle.std.proofs.Common.{◌∙◌}
use Rattle.protocol.specs.SoundState.{SoundState}
use Rattle.protocol.specs.Every.{Every}
use Rattle.protocol.specs.Bytes.{Bytes}
use Rattle.protocol.specs.Block.{block_height}
use Rattle.protocol.proofs.Laws.RowLaws.{all_of_lem}
use Rattle.protocol.proofs.Laws.FormedLaws.{formed}
use Rattle.protocol.proofs.Laws.MoveLaws.{block_vote_rows}
use Rattle.protocol.specs.State.{State, at, holds_proposal}
use Rattle.protocol.specs.View.{extends}
use Rattle.protocol.specs.Sound.{view}
use Rattle.protocol.specs.Answer.{vote_block}
use Rattle.protocol.specs.Move.{step, first_step, dummy_vote_applies, output_applies, pass_applies, propose_applies}
use Rattle.protocol.specs.Move.{block_vote_applies, block_vote_step}
use Rattle.paper.specs.Blockchains.{ParentOf, InThePapersTerms, ExtendsIsFollowing}
use Rattle.paper.specs.Steps.{Running, MayVoteBlock, NotarizingProposals}
use Rattle.paper.proofs.Laws.TakenLaws.{taken, answers, makes, running, is_running_lem}
use Rattle.paper.proofs.Laws.SeenLaws.{before}

module _ (digest : Bytes → Bytes) (s : State) (sound : SoundState digest s) (terms : InThePapersTerms digest s) where
  extends_seen : holds_proposal (at s s.current) ≡ true → Running digest s →
      (extends digest (view s) s.current (at s s.current).proposal ≡ true) ↔ ParentOf digest (view s)
      (s.current - 1) (at s s.current).proposal
  unfolding ExtendsIsFollowing
  extends_seen held r =
      let block = (at s s.current).proposal in
      let good = formed s.current block ((sound.each s.current sound.current_low r).proposal_formed held) in
      let its : block_height block ≡ suc (s.current - 1) = good.height_is ∙ sym (before digest s sound) in
      subst (λ (c : ℕ). (extends digest (view s) c (at s s.current).proposal ≡ true) ↔ ParentOf digest (view s)
      (s.current - 1) (at s s.current).proposal) (before digest s sound)
      (terms.extends_is (s.current - 1) (at s s.current).proposal its)

  pub block_when : block_vote_applies digest s ≡ true → MayVoteBlock digest s
  block_when e =
      let rows = block_vote_rows digest s e in
      let r = running digest s rows.running in
      (r, rows.not_yet, rows.held, (extends_seen rows.held r).0 rows.extending)

  pub block_applies : MayVoteBlock digest s → block_vote_applies digest s ≡ true
  unfolding block_vote_applies
  block_applies (r, f, held, q) =
      all_of_lem (Every.one (is_running_lem digest s r) (Every.one (rw f)
      (Every.one held (Every.one ((extends_seen held r).1 q) Every.none))))

  step_block : dummy_vote_applies s ≡ false → output_applies digest s ≡ false → pass_applies digest s ≡ false →
      propose_applies digest s ≡ false → block_vote_applies digest s ≡ true →
      step digest s ≡ block_vote_step digest s
  unfolding step first_step
  step_block e1 e2 e3 e4 e5 = rw (e1, e2, e3, e4, e5)

  pub notarizing_proposals : NotarizingProposals digest s
  unfolding NotarizingProposals block_vote_step
  notarizing_proposals e1 e2 e3 e4 = (
    ((λ e. block_when (took e).0), λ q. answers digest s (step_block e1 e2 e3 e4 (block_applies q))),
    λ e. makes digest s e (took e).1,
  )
    where
      took : (step digest s).move ≡ vote_block s.current →
          (block_vote_applies digest s ≡ true) × (step digest s ≡ block_vote_step digest s)
      took e = taken digest s (vote_block s.current) e
