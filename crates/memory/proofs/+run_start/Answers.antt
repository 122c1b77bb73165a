-- `run_start` meets its contract: a height that is no dummy starts a run itself, and any other goes on with the run
-- below. The measure is the height.
use native.Mathlib.Omega.{arith}
use mathlib.Core.Path.{◌≡◌, sym, ◌∙◌}
use Rattle.protocol.specs.Bytes.{word16}
use Rattle.book_fields.specs.Book.{view_of}
use Rattle.memory.proofs.Runs.{start_zero, start_within, start_back, start_here}
use Rattle.memory.proofs.Stores.{remember_run}
use Prim.Native.Nat.{◌+◌, ◌*◌}
use Rattle.memory.proofs.+run_start.Goals as goal

pub returns-then-h-eq0 : goal.returns-then-h-eq0
returns-then-h-eq0 g t c = record {
  answer = start_zero (view_of g.K.Kind.kind c.args.book.now) c.args.h c.if-h-eq0.true;
  within = omega arith;
  memo = c.requires.memo_as;
}

pub overflow_mul-h : goal.overflow_mul-h
overflow_mul-h g t c = omega (arith, c.requires.h_bound, c.requires.shown.heights)

pub overflow_add-h : goal.overflow_add-h
overflow_add-h g t c = omega (arith, c.requires.h_bound, c.requires.shown.heights)

pub word-seen-requires : goal.word-seen-requires
word-seen-requires g t c = omega (arith, c.requires.h_bound, c.requires.shown.heights, c.requires.memo_as.room)

pub returns-then-seen-gt0 : goal.returns-then-seen-gt0
returns-then-seen-gt0 g t c = let v = view_of g.K.Kind.kind c.args.book.now in
    let read : c.word-seen.result ≡ word16 c.args.known.now (36 * c.args.h + 2) =
    c.word-seen.ensures.0 in
    let run = (c.requires.memo_as.each c.args.h c.requires.h_bound).run (omega (arith, read, c.if-seen-gt0.true)) in
    let low = start_within v c.args.h in
    record {
      answer = omega (arith, read, run);
      within = omega (arith, read, run, low);
      memo = c.requires.memo_as;
    }

pub is_dummy-requires : goal.is_dummy-requires
is_dummy-requires g t c = record {
  shown = c.requires.shown;
  within = record { low = omega arith; high = c.requires.h_bound };
}

pub overflow_mul-h-then-is_dummy : goal.overflow_mul-h-then-is_dummy
overflow_mul-h-then-is_dummy g t c = omega (arith, c.requires.h_bound, c.requires.shown.heights)

pub overflow_add-h-then-is_dummy : goal.overflow_add-h-then-is_dummy
overflow_add-h-then-is_dummy g t c = omega (arith, c.requires.h_bound, c.requires.shown.heights)

pub overflow_add-start : goal.overflow_add-start
overflow_add-start g t c = omega (
  arith,
  c.run_start-start.ensures.within,
  c.requires.h_bound,
  c.requires.shown.heights,
)

pub put_word-requires : goal.put_word-requires
put_word-requires g t c = let below = c.run_start-start in
    record {
      at_in_bounds = omega (arith, below.ensures.memo.room, c.requires.h_bound, c.requires.shown.heights);
      value_bound = omega (arith, below.ensures.within, c.requires.h_bound, c.requires.shown.heights);
    }

pub overflow_mul-h-else-is_dummy : goal.overflow_mul-h-else-is_dummy
overflow_mul-h-else-is_dummy g t c = omega (arith, c.requires.h_bound, c.requires.shown.heights)

pub overflow_add-h-else-is_dummy : goal.overflow_add-h-else-is_dummy
overflow_add-h-else-is_dummy g t c = omega (arith, c.requires.h_bound, c.requires.shown.heights)

pub overflow_add-h-else-is_dummy-2 : goal.overflow_add-h-else-is_dummy-2
overflow_add-h-else-is_dummy-2 g t c = omega (arith, c.requires.h_bound, c.requires.shown.heights)

pub put_word-requires-else-is_dummy : goal.put_word-requires-else-is_dummy
put_word-requires-else-is_dummy g t c = record {
  at_in_bounds = omega (arith, c.requires.memo_as.room, c.requires.h_bound, c.requires.shown.heights);
  value_bound = omega (arith, c.requires.h_bound, c.requires.shown.heights);
}

pub returns-then-is_dummy : goal.returns-then-is_dummy
returns-then-is_dummy g t c = let wrote = c.put_word in
    let below = c.run_start-start in
    let v = view_of g.K.Kind.kind c.args.book.now in
    let answer = below.ensures.answer ∙ start_back v c.args.h (omega arith)
    (sym c.is_dummy.ensures ∙ c.if-is_dummy.true) in record {
      answer = answer;
      within = omega arith;
      memo = remember_run v below.new.known below.ensures.memo c.args.h
          c.requires.h_bound below.result answer wrote.new.bytes wrote.ensures;
    }

pub returns-else-is_dummy : goal.returns-else-is_dummy
returns-else-is_dummy g t c = let wrote = c.put_word-else-is_dummy in
    let v = view_of g.K.Kind.kind c.args.book.now in
    let answer = start_here v c.args.h (omega arith)
    (sym c.is_dummy.ensures ∙ c.if-is_dummy.false) in record {
      answer = answer;
      within = omega arith;
      memo = remember_run v c.args.known.now c.requires.memo_as c.args.h c.requires.h_bound
          c.args.h answer wrote.new.bytes wrote.ensures;
    }
