-- `parent_height` meets its contract: it reads the field where it stands.
use Rattle.protocol.specs.Block.{parent_height}
use Rattle.wire.proofs.block.parent_height.Goals as goal

pub returns : goal.returns
unfolding parent_height
returns c = c.word.ensures
