-- `block_height` meets its contract: it reads the field where it stands.
use Rattle.protocol.specs.Block.{block_height}
use Rattle.wire.proofs.block.block_height.Goals as goal

pub returns : goal.returns
unfolding block_height
returns c = c.word.ensures
