-- `bit` meets its contract: a shift within 16 bits loses nothing.
use Rattle.wire.proofs.Masks.{one_shifted}
use Rattle.wire.proofs.mask.bit.Goals as goal

pub returns : goal.returns
returns c = one_shifted _ c.requires
