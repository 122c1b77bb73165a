-- `set_proposal` meets its contract: the status gains 1, and the block is copied to the proposal's place.
use Rattle.std.proofs.Common.{arith, ◌∙◌, length-set}
use Rattle.book_changes.proofs.Writes.{proposal_set}
use Rattle.book_changes.proofs.height.set_proposal.Goals as goal

pub copy_to-requires : goal.copy_to-requires
copy_to-requires c = simp length-set (omega (
  arith,
  c,
))

pub shape_of-book : goal.shape_of-book
shape_of-book c = c.copy_to.auto.target ∙ simp length-set

pub returns : goal.returns
returns c = c.copy_to.ensures ∙
    proposal_set c.args.book.now c.requires.ready c.args.h c.requires.within _
    c.content_at-content.ensures _ c.body_at-body.ensures _
    c.status-held.ensures.0 c.args.block.now c.requires.block_len
