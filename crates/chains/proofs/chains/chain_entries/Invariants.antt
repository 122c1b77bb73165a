-- `chain_entries` meets its contract: what is counted and the log that is left make the whole log.
use Rattle.std.proofs.Common.{◌≡◌, ◌+◌, length}
use Rattle.protocol.specs.View.{log_at}
use Rattle.book_fields.specs.Book.{view_of}
use Rattle.chains.proofs.chains.chain_entries.Given as goal

abbrev pub invariant-loop-block : goal.invariant-loop-block
invariant-loop-block g l =
    let left = l.block-iterator in
    (goal.iterator-loop-block g).can_next left × (goal.iterator-loop-block g).is_finite left ×
    (l.sum + length (log_at (view_of g.K.Kind.kind left.book.now) left.at) ≡
    length (log_at (view_of g.K.Kind.kind l.book) l.h))
