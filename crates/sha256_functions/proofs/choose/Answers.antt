-- `choose` meets its contract, by the law of Ch's shorter form. Assumes nothing.
use Rattle.sha256_functions.specs.Laws.FunctionsLaws.{ch_is}
use Rattle.sha256_functions.specs.Words.{◌&◌, ◌⊕◌}
use Rattle.std.proofs.Common.{arith}
use Rattle.sha256_functions.proofs.choose.Goals as goal

pub returns : goal.returns
unfolding ◌&◌ ◌⊕◌
returns c = ch_is c.args.x c.args.y c.args.z (omega arith)
