-- What was found good, and the weights that are left, say what all of them say.
use Rattle.std.specs.Prelude.{◌≡◌, ◌&&◌, drop}
use Rattle.protocol.specs.Bytes.{all}
use Rattle.protocol.specs.Tests.{in_range}
use Rattle.protocol.specs.State.{words, maximum_weight}
use Rattle.wire.proofs.weights.in_range.Given as goal

abbrev pub invariant-loop-s : goal.invariant-loop-s
invariant-loop-s l = (l.good && all (λ w. in_range 1 maximum_weight w) (drop l.s (words l.n l.weights))) ≡
    all (λ w. in_range 1 maximum_weight w) (words l.n l.weights)
