-- `heights_fit` meets its contract: the bound is that of the edition.
use Rattle.book_fields.proofs.SettingTests.{long_fit, short_fit}
use Rattle.book_fields.proofs.setting.heights_fit.Goals as goal

pub returns-then-edition-eq3 : goal.returns-then-edition-eq3
returns-then-edition-eq3 c = long_fit c.args.edition c.args.heights c.if-edition-eq3.true

pub returns-else-edition-eq3 : goal.returns-else-edition-eq3
returns-else-edition-eq3 c = short_fit c.args.edition c.args.heights c.if-edition-eq3.false
