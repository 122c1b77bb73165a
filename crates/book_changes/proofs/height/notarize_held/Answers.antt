-- `notarize_held` meets its contract: the proposal's place is copied to the notarized block's, and status and mask are
-- written.
use Rattle.std.proofs.Common.{◌∙◌}
use Rattle.book_changes.proofs.Copies.{copied_behind}
use Rattle.book_changes.proofs.Writes.{held_set}
use Rattle.book_changes.proofs.height.notarize_held.Goals as goal

pub returns : goal.returns
returns c = let split = c.split_at_mut-front.ensures in
    held_set c.args.book.now c.requires.ready c.args.h c.requires.within _
    c.content_at-content.ensures _ c.body_at-body.ensures _
    c.status-held.ensures.0 c.args.mask _
    (copied_behind c.args.book.now _ _ 176 split.front split.front_len _ _ split.value c.copy_to.ensures) _
    c.mark_notarized.ensures
