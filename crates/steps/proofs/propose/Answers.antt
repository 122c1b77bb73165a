-- `propose` meets its contract: the frame and the flag are those of move 4, on the best chain below.
use Rattle.steps.specs.Laws.ProposeLaws.{walkable}
use Rattle.steps.specs.Laws.StepsLaws.{took_propose}
use Rattle.steps.proofs.propose.Goals as goal

pub write_proposal-requires-clause-walkable : goal.write_proposal-requires-clause-walkable
write_proposal-requires-clause-walkable c =
    walkable _ c.requires.sound_book c.requires.book_bound _ c.requires.book_value

pub returns : goal.returns
returns c = took_propose _ _ _ _ _ c.current-c.ensures.0 _ c.requires.book_value c.set_flag.ensures
    c.write_proposal.ensures
