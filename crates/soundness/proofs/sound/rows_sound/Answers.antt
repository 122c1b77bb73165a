-- `rows_sound` meets its contract: its two tests are the groups of rows, and a sound head can be read.
use Rattle.std.proofs.Common.{sym, ◌∙◌}
use Rattle.soundness.proofs.sound.rows_sound.Goals as goal

pub returns-then-head_sound-clause-answer : goal.returns-then-head_sound-clause-answer
returns-then-head_sound-clause-answer g c =
    rw (g.met.R.Rows.rows_are c.args.book.now, sym c.head_sound.ensures.answer ∙ c.if-head_sound.true)
    c.heights_sound.ensures

pub returns-else-head_sound-clause-answer : goal.returns-else-head_sound-clause-answer
returns-else-head_sound-clause-answer g c =
    rw (g.met.R.Rows.rows_are c.args.book.now, sym c.head_sound.ensures.answer ∙ c.if-head_sound.false)
    c.if-head_sound.false
