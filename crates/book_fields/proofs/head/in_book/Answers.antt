-- `in_book` meets its contract: a height from 1 to the book's last.
use Rattle.book_fields.specs.Laws.HeadLaws.{in_book}
use Rattle.book_fields.proofs.head.in_book.Goals as goal

pub returns : goal.returns
returns c = in_book c.args.book.now c.args.h c.heights-top.result c.heights-top.ensures.0
