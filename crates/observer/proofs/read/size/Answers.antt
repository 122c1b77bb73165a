-- `size` meets its contract: a book that is not sound is refused, and each entry of the log has 16 bytes.
use Rattle.std.proofs.Common.{sym, ◌∙◌}
use Rattle.sha256.specs.Digest.{sha256}
use Rattle.book_fields.specs.Laws.ObserverBookLaws.{sound_observer_book}
use Rattle.observer.specs.Laws.LogLaws.{observer_size_unsound, observer_size_sound}
use Rattle.observer.proofs.read.size.Goals as goal

pub returns-then-not-is_sound : goal.returns-then-not-is_sound
returns-then-not-is_sound c =
    observer_size_unsound c.args.book.now (sym c.is_sound.ensures.answer ∙ c.if-not-is_sound.true)

pub log_count-requires : goal.log_count-requires
log_count-requires c = sound_observer_book sha256 _ c.is_sound.ensures.bytes
    (sym c.is_sound.ensures.answer ∙ c.if-not-is_sound.false)

pub returns : goal.returns
returns c =
    observer_size_sound c.args.book.now c.log_count.result (sym c.is_sound.ensures.answer ∙ c.if-not-is_sound.false)
    c.log_count.ensures.0
