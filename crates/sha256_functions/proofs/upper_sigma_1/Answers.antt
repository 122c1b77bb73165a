-- `upper_sigma_1` meets its contract, by the law that rotations nest. Assumes nothing.
use Rattle.sha256_functions.specs.Laws.FunctionsLaws.{Σ1-is}
use Rattle.sha256_functions.specs.Words.{◌⊕◌}
use Rattle.std.proofs.Common.{arith}
use Rattle.sha256_functions.proofs.upper_sigma_1.Goals as goal

pub returns : goal.returns
unfolding ◌⊕◌
returns c = cc (Σ1-is c.args.x (omega arith))
