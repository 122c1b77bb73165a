-- `difference` meets its contract: after `i` turns it has gathered the bits in which the first `i` bytes differ.
use Rattle.std.proofs.Common.{arith, refl, ap, ◌∙◌}
use Rattle.difference.specs.Difference.{difference}
use Rattle.difference.proofs.Differences.{gathered_next}
use Rattle.difference.proofs.difference.Goals as goal

pub loop-i-init : goal.loop-i-init
unfolding difference
loop-i-init c = refl

pub loop-i-preserved : goal.loop-i-preserved
loop-i-preserved c = gathered_next c.args.a.now c.args.b.now c.loop-i.seen c.loop-i.i c.loop-i.invariant

pub returns : goal.returns
returns c = (
  c.from.ensures ∙ c.loop-i.invariant ∙ ap (difference c.args.a.now c.args.b.now) (omega arith),
  omega (arith, c.loop-i.auto.seen-fits),
)
