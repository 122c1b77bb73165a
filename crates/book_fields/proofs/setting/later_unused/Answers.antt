-- `later_unused` meets its contract: the bytes are those of the edition.
use Rattle.protocol.specs.Bytes.{part}
use Rattle.book_fields.proofs.SettingTests.{long_unused, short_unused}
use Rattle.book_fields.proofs.setting.later_unused.Goals as goal

pub returns-then-edition-eq3 : goal.returns-then-edition-eq3
returns-then-edition-eq3 c = rw (c.is_zero-rest.ensures, c.byte-finalized.ensures.0, c.byte-current.ensures.0, c.byte-short.ensures.0)
    (unfold part in long_unused c.args.edition c.args.book.now c.if-edition-eq3.true)

pub returns-else-edition-eq3 : goal.returns-else-edition-eq3
returns-else-edition-eq3 c = rw c.is_zero.ensures
    (unfold part in short_unused c.args.edition c.args.book.now c.if-edition-eq3.false)
