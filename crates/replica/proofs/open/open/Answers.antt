-- `open` meets its contract: the ranges first, then the length.
use Rattle.std.proofs.Common.{ℕ, ◌*◌, ◌≡◌, sym, ◌∙◌, arith, true, length, eqb}
use borrow.Author.Tests.{eqb-true, eq-eqb, ne_eqb}
use Rattle.protocol.specs.Bytes.{Bytes, all}
use Rattle.protocol.specs.Tests.{in_range}
use Rattle.protocol.specs.State.{words, maximum_weight, book_size}
use Rattle.protocol.specs.Open.{long, weights_in_range}
use Rattle.protocol.proofs.Laws.TestsLaws.{and_both}
use Rattle.protocol.proofs.Laws.TestedLaws.{open_ranges}
use Rattle.answers.specs.declared.refusal.Refusal.{Refusal}
use Rattle.answers.proofs.Laws.AnswerLaws.{outcome_done, outcome_refused}
use Rattle.answers.proofs.Laws.CallLaws.{open_unfit, open_short, open_done}
use Rattle.replica.proofs.open.open.Goals as goal

counted : (n : ℕ) (weights : Bytes) → weights_in_range n (long weights) ≡ true → length weights ≡ 2 * n
unfolding weights_in_range
counted n weights e = eqb-true _ _
    (and_both (eqb (length weights) (2 * n)) (all (λ w. in_range 1 maximum_weight w) (words n weights)) e).0

pub returns-then-not-numbers_fit : goal.returns-then-not-numbers_fit
returns-then-not-numbers_fit c =
    let all = outcome_refused Refusal.OutOfRange (open_unfit (long c.args.weights.now) c.args.book.now c.args.n c.args.own
    c.args.heights c.args.leaders.now (sym c.numbers_fit.ensures ∙ c.if-not-numbers_fit.true)) in
    record { answer = all.0; book = all.1 }

pub overflow_mul-heights : goal.overflow_mul-heights
overflow_mul-heights c =
    let fits = open_ranges (long c.args.weights.now) c.args.n c.args.own c.args.heights c.args.leaders.now
    (sym c.numbers_fit.ensures ∙ c.if-not-numbers_fit.false) in
    omega arith

pub overflow_add-heights : goal.overflow_add-heights
overflow_add-heights c =
    let fits = open_ranges (long c.args.weights.now) c.args.n c.args.own c.args.heights c.args.leaders.now
    (sym c.numbers_fit.ensures ∙ c.if-not-numbers_fit.false) in
    omega arith

pub returns-then-book-heights : goal.returns-then-book-heights
unfolding book_size
returns-then-book-heights c =
    let all = outcome_refused Refusal.Unsound (open_short (long c.args.weights.now) c.args.book.now c.args.n c.args.own
    c.args.heights c.args.leaders.now (sym c.numbers_fit.ensures ∙ c.if-not-numbers_fit.false)
    (ne_eqb _ _ c.if-book-heights.true)) in
    record { answer = all.0; book = all.1 }

pub new_book-requires : goal.new_book-requires
new_book-requires c =
    let fits = open_ranges (long c.args.weights.now) c.args.n c.args.own c.args.heights c.args.leaders.now
    (sym c.numbers_fit.ensures ∙ c.if-not-numbers_fit.false) in
    record {
      book_len = omega arith;
      leaders_len_bound = omega arith;
      n_bound = (fits.n_high, omega arith);
      weights_len = counted c.args.n c.args.weights.now fits.weights_fit_lem;
    }

pub returns : goal.returns
unfolding book_size
returns c =
    let all = outcome_done (open_done (long c.args.weights.now) c.args.book.now c.args.n c.args.own
    c.args.heights c.args.leaders.now (sym c.numbers_fit.ensures ∙ c.if-not-numbers_fit.false)
    (eq-eqb _ _ c.if-book-heights.false)) c.new_book.ensures in
    record { answer = all.0; book = all.1 }
