-- `open` meets its contract: the ranges first, then the length.
use Rattle.std.proofs.Common.{sym, ◌∙◌, arith}
use Rattle.answers.specs.declared.refusal.Refusal.{Refusal}
use Rattle.answers.proofs.Laws.AnswerLaws.{outcome_done, outcome_refused}
use Rattle.observer.specs.Laws.CallLaws.{open_ranges, open_unfit, open_short, open_done}
use Rattle.observer.proofs.open.open.Goals as goal

pub returns-then-not-numbers_fit : goal.returns-then-not-numbers_fit
returns-then-not-numbers_fit c =
    let all = outcome_refused Refusal.OutOfRange (open_unfit c.args.n c.args.heights c.args.weights.now c.args.book.now
    (sym c.numbers_fit.ensures ∙ c.if-not-numbers_fit.true)) in
    record { answer = all.0; book = all.1 }

pub overflow_mul-heights : goal.overflow_mul-heights
overflow_mul-heights c =
    let found = open_ranges c.args.n c.args.heights c.args.weights.now
    (sym c.numbers_fit.ensures ∙ c.if-not-numbers_fit.false) in
    omega (arith, found.heights_high)

pub overflow_add-heights : goal.overflow_add-heights
overflow_add-heights c =
    let found = open_ranges c.args.n c.args.heights c.args.weights.now
    (sym c.numbers_fit.ensures ∙ c.if-not-numbers_fit.false) in
    omega (arith, found.heights_high)

pub returns-then-book-heights : goal.returns-then-book-heights
returns-then-book-heights c =
    let all = outcome_refused Refusal.Unsound (open_short c.args.n c.args.heights c.args.weights.now c.args.book.now
    (sym c.numbers_fit.ensures ∙ c.if-not-numbers_fit.false) c.if-book-heights.true) in
    record { answer = all.0; book = all.1 }

pub new_book-requires : goal.new_book-requires
new_book-requires c =
    let found = open_ranges c.args.n c.args.heights c.args.weights.now
    (sym c.numbers_fit.ensures ∙ c.if-not-numbers_fit.false) in
    record {
      book_len = c.if-book-heights.false;
      n_bound = (found.n_high, omega (arith, found.heights_high));
      weights_len = found.as_many;
    }

pub returns : goal.returns
returns c =
    let all = outcome_done (open_done c.args.n c.args.heights c.args.weights.now c.args.book.now
    (sym c.numbers_fit.ensures ∙ c.if-not-numbers_fit.false) c.if-book-heights.false) c.new_book.ensures in
    record { answer = all.0; book = all.1 }
