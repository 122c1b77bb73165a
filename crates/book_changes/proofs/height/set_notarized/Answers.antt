-- `set_notarized` meets its contract: the block is copied to the notarized block's place, and status and mask are
-- written.
use Rattle.book_changes.proofs.Writes.{notarized_set}
use Rattle.book_changes.proofs.height.set_notarized.Goals as goal

pub returns : goal.returns
returns c = notarized_set c.args.book.now c.requires.ready c.args.h c.requires.within _
    c.content_at-content.ensures _ c.body_at-body.ensures _
    c.status-held.ensures.0 c.args.mask c.args.block.now c.requires.block_len _
    c.copy_to.ensures _ c.mark_notarized.ensures
