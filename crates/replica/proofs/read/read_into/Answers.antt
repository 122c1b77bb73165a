-- `read_into` meets its contract: of a book that is not sound nothing is read.
use Rattle.std.proofs.Common.{◌≡◌, sym, ◌∙◌, false}
use Rattle.sha256.specs.Digest.{sha256}
use Rattle.protocol.specs.Sound.{sound}
use Rattle.book_fields.specs.Laws.BookLaws.{sound_book}
use Rattle.log_calls.specs.Laws.ReadLaws.{read_unsound}
use Rattle.replica.proofs.read.read_into.Goals as goal

pub read_sound-requires : goal.read_sound-requires
read_sound-requires c = sound_book sha256 _ c.is_sound.ensures.bytes
    (sym c.is_sound.ensures.answer ∙ c.if-is_sound.true)

pub returns-else-is_sound : goal.returns-else-is_sound
returns-else-is_sound c =
    let e : sound sha256 c.args.book.now ≡ false = cc in let all = read_unsound c.args.book.now c.args.buffer.now e in
    record { length = all.0; buffer = all.1 }
