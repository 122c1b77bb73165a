-- `make_move` meets its contract: its answer is that of the moves, and so are the answer's numbers.
use mathlib.Core.Path.{ap, ◌∙◌}
use Rattle.answers.specs.MoveNumbers.{answer_numbers}
use Rattle.answers.proofs.Laws.MoveNumbersLaws.{moved_numbers_lem}
use Rattle.replica.proofs.make_move.make_move.Goals as goal

pub returns : goal.returns
returns c = let told = c.make_move in record {
  answer = told.ensures.answer;
  book = told.ensures.book;
  reply = told.ensures.reply;
  numbers = moved_numbers_lem _ ∙ ap answer_numbers told.ensures.answer;
}
