-- `majority` meets its contract, by the law of Maj's shorter form. Assumes nothing.
use Rattle.sha256_functions.specs.Laws.FunctionsLaws.{maj_is}
use Rattle.sha256_functions.specs.Words.{◌&◌, ◌⊕◌}
use Rattle.sha256_functions.proofs.majority.Goals as goal

pub returns : goal.returns
unfolding ◌&◌ ◌⊕◌
returns c = maj_is c.args.x c.args.y c.args.z
