-- `dummies_after` meets its contract: no height after `j` passes, and else the run that ends at `top` has to start at
-- `j` or below.
use Prim.Native.Nat.{ℕ}
use mathlib.Core.Path.{ap, ◌∙◌}
use lib.Dec.{leb}
use Rattle.book_fields.specs.Book.{view_of}
use Rattle.memory.proofs.Runs.{run_none, run_is}
use Rattle.memory.proofs.dummies_after.Goals as goal

pub returns-then-j-top : goal.returns-then-j-top
returns-then-j-top g c = record {
  answer = run_none (view_of g.K.Kind.kind c.args.book.now) c.args.j c.args.top c.if-j-top.true;
  memo = c.requires.memo_as;
}

pub run_start-requires : goal.run_start-requires
run_start-requires g c = record {
  shown = c.requires.shown;
  memo_as = c.requires.memo_as;
  h_bound = c.requires.j_le_top.1;
}

pub returns : goal.returns
returns g c = let start = c.run_start in record {
  answer = ap (λ (s : ℕ). leb s c.args.j) start.ensures.answer
      ∙ run_is (view_of g.K.Kind.kind c.args.book.now) c.args.j c.args.top c.requires.j_le_top.0;
  memo = start.ensures.memo;
}
