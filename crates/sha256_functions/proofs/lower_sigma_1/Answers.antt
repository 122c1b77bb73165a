-- `lower_sigma_1` meets its contract, by the law that rotations nest. Assumes nothing.
use Rattle.sha256_functions.specs.Laws.FunctionsLaws.{σ1_is}
use Rattle.sha256_functions.specs.Words.{◌⊕◌, shr}
use Rattle.std.proofs.Common.{arith}
use Rattle.sha256_functions.proofs.lower_sigma_1.Goals as goal

pub returns : goal.returns
unfolding ◌⊕◌ shr
returns c = cc (σ1_is c.args.x (omega arith))
