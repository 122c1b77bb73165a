-- `four_rounds` meets its contract, by that of `one_round` at each of the four calls. Assumes nothing.
use Rattle.sha256.specs.Laws.StepsLaws.{four_rounds}
use Rattle.sha256.proofs.compression.four_rounds.Goals as goal

pub returns : goal.returns
returns c = four_rounds c.args.k.now c.args.w.now c.args.s c.args.t
    c.one_round-one.result c.one_round-two.result
    c.one_round-three.result c.one_round.result c.one_round-one.ensures
    c.one_round-two.ensures c.one_round-three.ensures c.one_round.ensures
