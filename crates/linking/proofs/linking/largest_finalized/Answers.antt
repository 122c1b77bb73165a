-- `largest_finalized` meets its contract: each step down keeps what is largest.
use Rattle.std.proofs.Common.{arith, sym, ◌∙◌}
use Rattle.book_fields.specs.Book.{view_of}
use Rattle.linking.proofs.Walk.{largest_here, largest_below, largest_none}
use Rattle.linking.proofs.linking.largest_finalized.Goals as goal

pub returns-then-is_finalized-clause-answer : goal.returns-then-is_finalized-clause-answer
returns-then-is_finalized-clause-answer g c =
    largest_here (view_of g.K.Kind.kind c.args.book.now) c.loop-h.h (omega arith)
    (sym c.is_finalized.ensures.answer ∙ c.if-is_finalized.true)
    ∙ c.loop-h.invariant.same_height

pub loop-h-preserved : goal.loop-h-preserved
loop-h-preserved g c = record {
  same_height = largest_below (view_of g.K.Kind.kind c.args.book.now) c.loop-h.h (omega arith)
      (sym c.is_finalized.ensures.answer ∙ c.if-is_finalized.false)
      ∙ c.loop-h.invariant.same_height;
  memo = c.is_finalized.ensures.memo;
}

pub returns-clause-answer : goal.returns-clause-answer
returns-clause-answer g c =
    largest_none (view_of g.K.Kind.kind c.args.book.now) c.loop-h.h (omega arith) ∙ c.loop-h.invariant.same_height
