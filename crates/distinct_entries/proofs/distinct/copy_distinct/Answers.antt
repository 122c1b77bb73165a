-- `copy_distinct` meets its contract: there is room for all that is taken.
use Rattle.std.proofs.Common.{ℕ, ◌*◌, ◌≤◌, arith, sym, ap, subst, ◌∙◌, List, length}
use Rattle.protocol.specs.Bytes.{Bytes, join, over_front}
use Rattle.protocol.specs.State.{maximum_entries}
use Rattle.protocol.proofs.Laws.FrontLaws.{front_none}
use Rattle.book_fields.specs.Book.{view_of}
use Rattle.distinct_entries.proofs.Chain.{distinct_none, distinct_few}
use Rattle.distinct_entries.proofs.distinct.copy_distinct.Goals as goal

pub returns-then-h-eq0 : goal.returns-then-h-eq0
unfolding join
returns-then-h-eq0 g c =
    let none = distinct_none (view_of g.K.Kind.kind c.args.book.now) c.args.h (omega arith) in record {
      count = (sym (ap length none), omega arith);
      buffer = sym (ap (λ (l : List Bytes). over_front (join l) c.args.buffer.now) none ∙ front_none c.args.buffer.now);
    }

pub returns : goal.returns
returns g c = let taken = c.take_distinct.ensures in
    let counted = taken.counted in
    let few = distinct_few c.requires.walkable_as in
    let room = c.requires.h_in_bounds in record {
      count = (counted, subst (λ (k : ℕ). k ≤ maximum_entries) (sym counted) few);
      buffer = taken.copied (subst (λ (k : ℕ). 16 * k ≤ length c.args.buffer.now) (sym counted) room);
    }
