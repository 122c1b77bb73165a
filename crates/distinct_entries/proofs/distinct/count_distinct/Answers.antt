-- `count_distinct` meets its contract: what is taken is counted, with room or without.
use Rattle.std.proofs.Common.{ℕ, ◌≤◌, arith, sym, ap, subst, length}
use Rattle.protocol.specs.State.{maximum_entries}
use Rattle.book_fields.specs.Book.{view_of}
use Rattle.distinct_entries.proofs.Chain.{distinct_none, distinct_few}
use Rattle.distinct_entries.proofs.distinct.count_distinct.Goals as goal

pub returns-then-h-eq0 : goal.returns-then-h-eq0
returns-then-h-eq0 g c = let none = distinct_none (view_of g.K.Kind.kind c.args.book.now) c.args.h (omega arith) in
    (sym (ap length none), omega arith)

pub returns : goal.returns
returns g c = let counted = c.take_distinct.ensures.counted in
    let few = distinct_few c.requires in
    (counted, subst (λ (k : ℕ). k ≤ maximum_entries) (sym counted) few)
