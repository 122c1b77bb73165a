-- `finish_pool` meets its contract: the entry is copied to its place, the places after it are cleared, and the count is
-- set.
use Rattle.std.proofs.Common.{◌∙◌, length-set}
use Rattle.book_changes.proofs.Writes.{finished_pool}
use Rattle.book_changes.proofs.pool.finish_pool.Goals as goal

pub shape_of-book : goal.shape_of-book
shape_of-book c = simp length-set (c.clear.auto.target ∙ c.copy_to.auto.target)

pub returns : goal.returns
returns c = finished_pool c.args.book.now c.requires.ready c.args.count c.args.entry.now
    c.requires.count_lt_maximum_pending c.requires.len _ _
    c.copy_to.ensures c.clear.ensures
