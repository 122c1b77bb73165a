-- A step back goes from a height to that of its block's parent, which is lower and can be walked back from too.
use Rattle.std.proofs.Common.{◌<◌, arith}
use Rattle.chains.proofs.ChainWalk.{walk_step, walk_parent}
use Rattle.chains.proofs.chains.ChainIterator.next.Goals as goal

pub returns-clause-goes : goal.returns-clause-goes
returns-clause-goes g c =
    let low : 0 < c.args.self.now.at = omega (arith, c.if-self-eq0.false) in
    let step = walk_step c.requires low c.block-block.ensures.block in
    let parent = walk_parent step c.parent_height-self.ensures.0 in
    let below : c.parent_height-self.result < c.args.self.now.at =
    omega (arith, step.below, c.parent_height-self.ensures.0) in
    record { on = λ f. (parent, f, below); keeps = parent; rests = λ f. f }
