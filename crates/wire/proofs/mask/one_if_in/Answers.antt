-- `one_if_in` meets its contract: a bit is 1 or 0.
use Rattle.std.proofs.Common.{arith}
use Rattle.wire.proofs.Masks.{bit_number}
use Rattle.wire.proofs.mask.one_if_in.Goals as goal

pub returns : goal.returns
returns c = (bit_number c.args.mask c.args.s, omega arith)
