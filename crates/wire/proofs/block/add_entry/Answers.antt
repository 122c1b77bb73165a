-- `add_entry` meets its contract: its two writes are the two pieces put.
use Rattle.std.proofs.Common.{◌∙◌}
use Rattle.wire.proofs.block.add_entry.Goals as goal

pub returns : goal.returns
returns c = c.put_byte.ensures ∙ rw c.copy_to.ensures
