-- `cast_block_vote` meets its contract: the frame and the head are those of move 5.
use Rattle.steps.specs.Laws.StepsLaws.{took_block_vote}
use Rattle.steps.proofs.cast_block_vote.Goals as goal

pub returns : goal.returns
returns c = took_block_vote _ _ _ _ _ c.current-c.ensures.0 _ _ _ c.own-signer.ensures.0 c.sha256-digest.ensures
    c.proposal.ensures c.set_flag.ensures c.write_block_vote.ensures
