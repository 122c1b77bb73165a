-- After `i` turns the bits are gathered in which the first `i` bytes differ.
use Rattle.std.proofs.Common.{◌≡◌}
use Rattle.difference.specs.Difference.{difference}
use Rattle.difference.proofs.difference.Given as goal

abbrev pub invariant-loop-i : goal.invariant-loop-i
invariant-loop-i l = l.seen ≡ difference l.a l.b l.i
