-- `upper_sigma_0` meets its contract, by the law that rotations nest. Assumes nothing.
use Rattle.sha256_functions.specs.Laws.FunctionsLaws.{Σ0-is}
use Rattle.sha256_functions.specs.Words.{◌⊕◌}
use Rattle.std.proofs.Common.{arith}
use Rattle.sha256_functions.proofs.upper_sigma_0.Goals as goal

pub returns : goal.returns
unfolding ◌⊕◌
returns c = cc (Σ0-is c.args.x (omega arith))
