-- `parent_of` meets its contract: each step down keeps the best chain.
use Rattle.std.proofs.Common.{arith, sym, ◌∙◌}
use Rattle.book_fields.specs.Book.{view_of}
use Rattle.linking.proofs.Walk.{parent_here, parent_below_lem, parent_stops, parent_start}
use Rattle.linking.proofs.linking.parent_of.Goals as goal

pub returns-then-linked-clause-answer : goal.returns-then-linked-clause-answer
returns-then-linked-clause-answer g c = parent_here (view_of g.K.Kind.kind c.args.book.now) c.loop-h.h (omega arith)
    (sym c.linked.ensures.answer ∙ c.if-linked.true)
    ∙ c.loop-h.invariant.same_parent

pub returns-then-not-is_dummy-clause-answer : goal.returns-then-not-is_dummy-clause-answer
returns-then-not-is_dummy-clause-answer g c = parent_stops (view_of g.K.Kind.kind c.args.book.now) c.loop-h.h (omega arith)
    (sym c.linked.ensures.answer ∙ c.if-linked.false)
    (sym c.is_dummy.ensures ∙ c.if-not-is_dummy.true)
    ∙ c.loop-h.invariant.same_parent

pub loop-h-preserved : goal.loop-h-preserved
loop-h-preserved g c = record {
  same_parent = parent_below_lem (view_of g.K.Kind.kind c.args.book.now) c.loop-h.h (omega arith)
      (sym c.linked.ensures.answer ∙ c.if-linked.false)
      (sym c.is_dummy.ensures ∙ c.if-not-is_dummy.false)
      ∙ c.loop-h.invariant.same_parent;
  memo = c.linked.ensures.memo;
}

pub returns-clause-answer : goal.returns-clause-answer
returns-clause-answer g c =
    parent_start (view_of g.K.Kind.kind c.args.book.now) c.loop-h.h (omega arith) ∙ c.loop-h.invariant.same_parent
