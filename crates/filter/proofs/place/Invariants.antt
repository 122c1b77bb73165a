-- `place` meets its contract: words below 2^16 times numbers below 2^32, so that no sum wraps.
use Rattle.std.proofs.Common.{◌≡◌, ◌*◌, ◌≤◌}
use Rattle.filter.specs.Filter.{mixed}
use Rattle.filter.proofs.place.Given as goal

abbrev pub invariant-loop-i : goal.invariant-loop-i
invariant-loop-i l = (l.sum ≡ mixed l.filter l.entry l.i) × (l.sum ≤ l.i * 281474976710656)
