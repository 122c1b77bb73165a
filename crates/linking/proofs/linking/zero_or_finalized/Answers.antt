-- `zero_or_finalized` meets its contract: height 0 passes, a height past the last is not finalized, and any other is
-- asked for.
use native.Mathlib.Omega.{arith}
use Rattle.std.proofs.Common.{sym, ◌∙◌}
use Rattle.std.proofs.lemmas.Bool.{lt-leb}
use Rattle.book_fields.specs.Book.{view_of}
use Rattle.linking.proofs.Final.{none_finalized, some_finalized, past_finalized}
use Rattle.linking.proofs.linking.zero_or_finalized.Goals as goal

pub is_finalized-requires : goal.is_finalized-requires
is_finalized-requires g c = record {
  shown = c.requires.shown;
  memo_as = c.requires.memo_as;
  within = record { low = omega arith; high = omega arith };
}

pub returns-then-g-eq0 : goal.returns-then-g-eq0
returns-then-g-eq0 g c = let v = view_of g.K.Kind.kind c.args.book.now in
    record {
      answer = sym (none_finalized v c.args.g c.if-g-eq0.true);
      memo = c.requires.memo_as;
    }

pub returns-then-g-heights : goal.returns-then-g-heights
returns-then-g-heights g c = let v = view_of g.K.Kind.kind c.args.book.now in record {
  answer = c.is_finalized.ensures.answer ∙ sym (some_finalized v c.args.g c.if-g-eq0.false);
  memo = c.is_finalized.ensures.memo;
}

pub returns-else-g-heights : goal.returns-else-g-heights
returns-else-g-heights g c = record {
  answer = lt-leb c.args.g c.heights.result (omega arith) ∙ sym (past_finalized g.K.Kind.kind c.args.book.now c.args.g c.if-g-eq0.false
      (omega arith));
  memo = c.requires.memo_as;
}
