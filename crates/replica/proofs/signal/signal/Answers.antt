-- `signal` meets its contract: a book that is not sound is refused first.
use Rattle.std.proofs.Common.{sym, ◌∙◌}
use Rattle.sha256.specs.Digest.{sha256}
use Rattle.book_fields.specs.Laws.BookLaws.{sound_book}
use Rattle.answers.specs.declared.refusal.Refusal.{Refusal}
use Rattle.answers.proofs.Laws.AnswerLaws.{outcome_refused}
use Rattle.answers.proofs.Laws.CallLaws.{signal_unsound}
use Rattle.replica.proofs.signal.signal.Goals as goal

pub signal_sound-requires : goal.signal_sound-requires
signal_sound-requires c = sound_book sha256 _ c.is_sound.ensures.bytes
    (sym c.is_sound.ensures.answer ∙ c.if-not-is_sound.false)

pub returns-then-not-is_sound : goal.returns-then-not-is_sound
returns-then-not-is_sound c =
    let all = outcome_refused Refusal.Unsound
    (signal_unsound c.args.book.now c.args.height (sym c.is_sound.ensures.answer ∙ c.if-not-is_sound.true)) in
    record { answer = all.0; book = all.1 }
