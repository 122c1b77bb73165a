-- `setting_sound` meets its contract: its tests are the rows.
use native.Mathlib.Omega.{arith}
use mathlib.Core.Path.{sym}
use Rattle.book_fields.proofs.SettingTests.{setting_are, many_fail}
use Rattle.book_fields.proofs.setting.setting_sound.Goals as goal

pub returns-then-n-le-MAXIMUM_REPLICAS : goal.returns-then-n-le-MAXIMUM_REPLICAS
returns-then-n-le-MAXIMUM_REPLICAS c = rw (
  c.weights_sound-weights.ensures,
  c.heights_fit-heights.ensures,
  c.number.ensures.0,
  c.byte-edition.ensures.0,
  c.byte-n.ensures.0,
)
    (setting_are c.args.book.now (omega (arith, c.byte-n.ensures.0, c.if-n-le-MAXIMUM_REPLICAS.true)))

pub returns-else-n-le-MAXIMUM_REPLICAS : goal.returns-else-n-le-MAXIMUM_REPLICAS
returns-else-n-le-MAXIMUM_REPLICAS c = sym (many_fail c.args.book.now (omega (arith, c.byte-n.ensures.0, c.if-n-le-MAXIMUM_REPLICAS.false)))
