-- `four_steps` meets its contract, by that of `step` at each of the four calls. Assumes nothing.
use Rattle.sha256.specs.Laws.StepsLaws.{four_steps}
use Rattle.sha256.proofs.compression.four_steps.Goals as goal

pub returns : goal.returns
returns c = let one = c.step-one in
    let two = c.step-two in
    let three = c.step-three in
    let four = c.step in
    let all =
    four_steps c.args.k.now c.args.w.now c.args.s c.args.t one.new.w
    two.new.w three.new.w four.new.w one.result two.result three.result
    four.result one.ensures.value one.ensures.w_after two.ensures.value two.ensures.w_after three.ensures.value
    three.ensures.w_after four.ensures.value four.ensures.w_after in
    record {
      value = all.state;
      w_after = all.words;
    }
