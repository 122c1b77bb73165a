-- `weights_sound` meets its contract: its tests are the rows on weights and unused bytes.
use Rattle.protocol.specs.Bytes.{part}
use Rattle.book_fields.proofs.SettingTests.{first_are, others_are}
use Rattle.book_fields.proofs.setting.weights_sound.Goals as goal

pub returns-then-edition-eq1 : goal.returns-then-edition-eq1
returns-then-edition-eq1 c = rw c.is_zero.ensures
    (unfold part in
    first_are c.args.n c.args.edition c.args.book.now c.if-edition-eq1.true c.requires.1)

pub returns-else-edition-eq1 : goal.returns-else-edition-eq1
returns-else-edition-eq1 c = rw (c.later_unused-unused.ensures, c.is_zero-absent.ensures, c.in_range-there.ensures)
    (unfold part in
    others_are c.args.n c.args.edition c.args.book.now c.if-edition-eq1.false c.requires.1
    c.requires.0)
