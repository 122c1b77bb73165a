-- `chain_holds` meets its contract: the blocks passed do not have the entry, so that the whole log has it if the rest
-- has it.
use Rattle.std.proofs.Common.{◌≡◌}
use Rattle.protocol.specs.Bytes.{holds}
use Rattle.protocol.specs.View.{log_at}
use Rattle.book_fields.specs.Book.{view_of}
use Rattle.chains.proofs.chains.chain_holds.Given as goal

abbrev pub invariant-loop-block : goal.invariant-loop-block
invariant-loop-block g l =
    let left = l.block-iterator in
    (goal.iterator-loop-block g).can_next left × (goal.iterator-loop-block g).is_finite left ×
    (holds l.entry (log_at (view_of g.K.Kind.kind l.book) l.h) ≡
    holds l.entry (log_at (view_of g.K.Kind.kind left.book.now) left.at))
