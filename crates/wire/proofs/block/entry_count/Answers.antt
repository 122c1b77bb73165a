-- `entry_count` meets its contract: it reads the field where it stands.
use Rattle.protocol.specs.Block.{entry_count}
use Rattle.wire.proofs.block.entry_count.Goals as goal

pub returns : goal.returns
unfolding entry_count
returns c = c.byte.ensures
