-- `block_sound` meets its contract: a block counts only where it is there.
use Rattle.std.proofs.Common.{refl, sym, ◌∙◌}
use Rattle.protocol.proofs.Laws.RowLaws.{where_held, where_none}
use Rattle.soundness.proofs.block_sound.Goals as goal

pub returns-else-not-there : goal.returns-else-not-there
returns-else-not-there c = c.block_well_formed.ensures ∙ sym (where_held _ _ c.if-not-there.false)

pub returns-then-not-there : goal.returns-then-not-there
returns-then-not-there c = rw c.if-not-there.true (sym (where_none _ _ refl))
