-- `below` meets its contract: the mask is less than the bit after the last.
use Rattle.protocol.specs.Mask.{below_bit}
use Rattle.wire.proofs.mask.below.Goals as goal

pub returns : goal.returns
unfolding below_bit
returns c = rw c.bit.ensures.0
