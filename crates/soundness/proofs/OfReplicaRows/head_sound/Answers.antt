-- `head_sound` meets its contract: its tests are the rows of the head. A short book fails the first of them, and where
-- those fail that all kinds share, nothing else is asked.
use Rattle.std.proofs.Common.{◌≡◌, ◌+◌, ◌*◌, ◌&&◌, length, eqb, sym, ◌∙◌, arith}
use Rattle.protocol.specs.Tests.{all_of}
use Rattle.soundness.specs.SoundRows.{head_rows}
use Rattle.book_fields.specs.Laws.SettingRowsLaws.{setting_passes}
use Rattle.soundness.specs.Laws.SoundRowsLaws.{readable}
use Rattle.soundness.proofs.SoundTests.{head_set, head_unset, head_short}
use Rattle.soundness.proofs.OfReplicaRows.head_sound.Goals as goal

pub returns-then-book-lt576-clause-answer : goal.returns-then-book-lt576-clause-answer
returns-then-book-lt576-clause-answer c = sym (head_short c.args.book.now c.if-book-lt576.true)

pub returns-then-not-setting_sound-clause-answer : goal.returns-then-not-setting_sound-clause-answer
returns-then-not-setting_sound-clause-answer c =
    sym (head_unset c.args.book.now (sym c.setting_sound.ensures ∙ c.if-not-setting_sound.true))

pub numbers_sound-numbers-requires-clause-book_value : goal.numbers_sound-numbers-requires-clause-book_value
numbers_sound-numbers-requires-clause-book_value c =
    (setting_passes c.args.book.now (sym c.setting_sound.ensures ∙ c.if-not-setting_sound.false)).unused

pub returns : goal.returns
returns c =
    let book = c.args.book.now in
    let head : (eqb (length book) (576 + 880 * c.good_number.result) && c.numbers_sound-numbers.result) ≡
    all_of (head_rows book) = rw (c.numbers_sound-numbers.ensures, c.good_number.ensures.0)
    (head_set book (omega arith) (sym c.setting_sound.ensures ∙ c.if-not-setting_sound.false)) in
    record { answer = head; readable = λ passed. readable book (sym head ∙ passed) }
