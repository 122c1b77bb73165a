-- `size` meets its contract: a book that is not sound is refused, and each entry of the log has 16 bytes.
use Rattle.std.proofs.Common.{sym, ◌∙◌}
use Rattle.sha256.specs.Digest.{sha256}
use Rattle.book_fields.specs.Laws.BookLaws.{sound_book}
use Rattle.log_calls.specs.Laws.ReadLaws.{size_unsound, size_sound}
use Rattle.replica.proofs.read.size.Goals as goal

pub log_count-requires : goal.log_count-requires
log_count-requires c = sound_book sha256 _ c.is_sound.ensures.bytes
    (sym c.is_sound.ensures.answer ∙ c.if-not-is_sound.false)

pub returns-then-not-is_sound : goal.returns-then-not-is_sound
returns-then-not-is_sound c = size_unsound c.args.book.now (sym c.is_sound.ensures.answer ∙ c.if-not-is_sound.true)

pub returns : goal.returns
returns c = size_sound c.args.book.now c.log_count.result (sym c.is_sound.ensures.answer ∙ c.if-not-is_sound.false)
    c.log_count.ensures.0
