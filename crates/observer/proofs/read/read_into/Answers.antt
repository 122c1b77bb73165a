-- `read_into` meets its contract: of a book that is not sound nothing is read.
use Rattle.std.proofs.Common.{sym, ◌∙◌}
use Rattle.sha256.specs.Digest.{sha256}
use Rattle.book_fields.specs.Laws.ObserverBookLaws.{sound_observer_book}
use Rattle.observer.specs.Laws.LogLaws.{observer_read_unsound}
use Rattle.observer.proofs.read.read_into.Goals as goal

pub read_sound-requires : goal.read_sound-requires
read_sound-requires c = sound_observer_book sha256 _ c.is_sound.ensures.bytes
    (sym c.is_sound.ensures.answer ∙ c.if-not-is_sound.false)

pub returns-then-not-is_sound : goal.returns-then-not-is_sound
returns-then-not-is_sound c =
    let all = observer_read_unsound c.args.book.now c.args.buffer.now
    (sym c.is_sound.ensures.answer ∙ c.if-not-is_sound.true) in
    record { length = all.0; buffer = all.1 }
