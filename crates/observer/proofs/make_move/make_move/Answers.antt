-- `make_move` meets its contract: a book whose rows do not pass is refused.
use Rattle.std.proofs.Common.{sym, ap, ◌∙◌}
use Rattle.sha256.specs.Digest.{sha256}
use Rattle.answers.specs.MoveNumbers.{answer_numbers}
use Rattle.answers.proofs.Laws.MoveNumbersLaws.{moved_numbers_lem}
use Rattle.observer_soundness.proofs.ObserverTests.{not_sound_rows}
use Rattle.observer.specs.Laws.CallLaws.{move_unsound}
use Rattle.observer.proofs.make_move.make_move.Goals as goal

pub returns-then-not-rows_sound : goal.returns-then-not-rows_sound
returns-then-not-rows_sound c =
    let told = move_unsound c.args.book.now
    (sym (not_sound_rows sha256 c.args.book.now (sym c.rows_sound.ensures.answer ∙ c.if-not-rows_sound.true))) in
    record {
      answer = told.0;
      book = told.1;
      numbers = moved_numbers_lem _ ∙ ap answer_numbers told.0;
    }
