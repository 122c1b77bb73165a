-- `cast_dummy_vote` meets its contract: the frame and the head are those of move 1.
use Rattle.steps.specs.Laws.StepsLaws.{took_dummy_vote}
use Rattle.steps.proofs.cast_dummy_vote.Goals as goal

pub returns : goal.returns
returns c = took_dummy_vote _ _ _ _ _ c.current-c.ensures.0 _ c.own.ensures.0 c.set_flag.ensures
    c.write_dummy_vote.ensures
