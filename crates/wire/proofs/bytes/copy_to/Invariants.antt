-- After `i` turns the first `i` bytes of the source stand in the target.
use Rattle.std.proofs.Common.{◌≡◌, length}
use lib.Seq.{paste}
use Rattle.wire.proofs.bytes.copy_to.Given as goal

abbrev pub invariant-loop-i : goal.invariant-loop-i
invariant-loop-i l = (l.target ≡ paste l.initial.target l.at l.source l.i) × (length l.target ≡ length l.initial.target)
