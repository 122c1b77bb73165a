-- `fetch` meets its contract: a book that is not sound is refused first.
use Rattle.std.proofs.Common.{sym, ◌∙◌}
use Rattle.sha256.specs.Digest.{sha256}
use Rattle.book_fields.specs.Laws.BookLaws.{sound_book}
use Rattle.answers.specs.declared.refusal.Refusal.{Refusal}
use Rattle.answers.proofs.Laws.AnswerLaws.{fetch_refused}
use Rattle.answers.proofs.Laws.CallLaws.{fetch_unsound}
use Rattle.replica.proofs.fetch.fetch.Goals as goal

pub fetch_sound-requires : goal.fetch_sound-requires
fetch_sound-requires c = sound_book sha256 _ c.is_sound.ensures.bytes
    (sym c.is_sound.ensures.answer ∙ c.if-not-is_sound.false)

pub returns-then-not-is_sound : goal.returns-then-not-is_sound
returns-then-not-is_sound c =
    let all = fetch_refused Refusal.Unsound
    (fetch_unsound c.args.book.now c.args.kind c.args.height c.args.reply.now (sym c.is_sound.ensures.answer ∙ c.if-not-is_sound.true)) in
    record { answer = all.0; reply = all.1 }
