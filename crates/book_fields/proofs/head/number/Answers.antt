-- `number` meets its contract: two bytes in edition 3, one in the others.
use native.Mathlib.Omega.{arith}
use mathlib.Core.Path.{sym, ◌∙◌}
use Rattle.book_fields.specs.Laws.HeadLaws.{long_number, short_number_lem}
use Rattle.book_fields.proofs.head.number.Goals as goal

pub returns-then-byte-eq3 : goal.returns-then-byte-eq3
returns-then-byte-eq3 c = let args = c.args in (
  c.word.ensures.0 ∙ long_number args.short args.long args.book.now
      (sym c.byte.ensures.0 ∙ c.if-byte-eq3.true),
  c.word.ensures.1,
)

pub returns-else-byte-eq3 : goal.returns-else-byte-eq3
returns-else-byte-eq3 c = let args = c.args in (
  c.byte-else-byte-eq3.ensures.0 ∙ short_number_lem args.short args.long args.book.now
      (λ e. c.if-byte-eq3.false (c.byte.ensures.0 ∙ e)),
  omega (arith, c.byte-else-byte-eq3.ensures.1),
)
