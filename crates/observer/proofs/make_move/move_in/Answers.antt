-- `move_in` meets its contract: a memory of zeros knows nothing; a book that is not sound is refused, and else the move
-- is made that applies.
use Rattle.std.proofs.Common.{sym, ap, ◌∙◌, refl, arith}
use Rattle.std.proofs.lemmas.List.{length-replicate}
use Rattle.sha256.specs.Digest.{sha256}
use Rattle.protocol.specs.Bytes.{zeros}
use Rattle.book_fields.specs.Laws.ObserverBookLaws.{sound_observer_book}
use Rattle.answers.specs.MoveNumbers.{answer_numbers}
use Rattle.answers.proofs.Laws.MoveNumbersLaws.{moved_numbers_lem}
use Rattle.memory.specs.Laws.FreshLaws.{zero_known}
use Rattle.observer_soundness.proofs.ObserverTests.{sound_final}
use Rattle.observer.specs.Laws.CallLaws.{move_unsound, move_sound}
use Rattle.observer.proofs.make_move.move_in.Goals as goal

pub finalized_sound-requires : goal.finalized_sound-requires
unfolding zeros
finalized_sound-requires g c = record {
  shown = c.requires.observer_readable;
  memo_as = zero_known _ _ _ (rw length-replicate c.requires.room.0) (rw length-replicate refl);
}

pub step-requires : goal.step-requires
step-requires g c = record {
  sound_observer_book = sound_observer_book sha256 c.args.book.now (λ i. omega (arith, c.slice_known-1.given i))
      (sym (c.finalized_sound.ensures.answer ∙ sound_final sha256 c.args.book.now c.requires.book_value)
      ∙ c.if-not-finalized_sound.false);
  memo_as = c.finalized_sound.ensures.memo;
}

pub returns-then-not-finalized_sound : goal.returns-then-not-finalized_sound
returns-then-not-finalized_sound g c =
    let told = move_unsound c.args.book.now
    (sym (c.finalized_sound.ensures.answer ∙ sound_final sha256 c.args.book.now c.requires.book_value)
    ∙ c.if-not-finalized_sound.true) in
    record {
      answer = told.0;
      book = told.1;
      numbers = moved_numbers_lem _ ∙ ap answer_numbers told.0;
    }

pub returns : goal.returns
returns g c =
    let is = move_sound c.args.book.now
    (sym (c.finalized_sound.ensures.answer ∙ sound_final sha256 c.args.book.now c.requires.book_value)
    ∙ c.if-not-finalized_sound.false) in
    rw is (record {
      answer = c.step.ensures.answer;
      book = c.step.ensures.book;
      numbers = moved_numbers_lem _ ∙ ap answer_numbers c.step.ensures.answer;
    })
