-- `put_number` meets its contract: two bytes in edition 3, one in the others.
use native.Mathlib.Omega.{arith}
use mathlib.Core.Path.{◌≡◌, sym, ◌∙◌}
use borrow.Author.Tests.{ne_eqb}
use Rattle.protocol.specs.Bytes.{byte_at}
use Rattle.book_fields.specs.Laws.HeadLaws.{long_put, short_put}
use Rattle.book_fields.proofs.head.put_number.Goals as goal

pub overflow_cast-book : goal.overflow_cast-book
overflow_cast-book c = let other : (byte_at c.args.book.now 7 ≡ 3 → ⊥) = λ e. c.if-byte-eq3.false (c.byte.ensures.0 ∙ e) in
    omega (arith, c.requires.x_bound.1 (ne_eqb _ _ other))

pub returns-then-byte-eq3 : goal.returns-then-byte-eq3
returns-then-byte-eq3 c = let args = c.args in
    c.put_word.ensures ∙ long_put args.short args.long args.book.now args.x
    (sym c.byte.ensures.0 ∙ c.if-byte-eq3.true)

pub returns-else-byte-eq3 : goal.returns-else-byte-eq3
returns-else-byte-eq3 c = let args = c.args in
    short_put args.short args.long args.book.now args.x
    (λ e. c.if-byte-eq3.false (c.byte.ensures.0 ∙ e))
