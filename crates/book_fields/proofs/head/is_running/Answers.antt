-- `is_running` meets its contract: the book says as many heights as its state has.
use Rattle.book_fields.specs.Laws.HeadLaws.{running_is}
use Rattle.book_fields.proofs.head.is_running.Goals as goal

pub returns : goal.returns
returns c = rw (c.current.ensures.0, c.heights.ensures.0) (running_is c.args.book.now)
