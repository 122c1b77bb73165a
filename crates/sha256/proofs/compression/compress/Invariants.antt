-- `compress` meets its contract. The loops' invariants: after i turns, 4 * i rounds are done, and in the first loop 4 * i
-- words are in the array beyond the first sixteen. Assumes nothing.
use Rattle.std.proofs.Common.{◌≡◌, ◌*◌, ◌≤◌}
use Rattle.sha256.specs.Steps.{rounds_from, extended_from}
use Rattle.sha256.proofs.compression.compress.Given as goal

abbrev pub invariant-loop-i : goal.invariant-loop-i
invariant-loop-i l = (l.i ≤ 12) × (l.w ≡ extended_from l.initial.w 0 (4 * l.i)) ×
    (l.s ≡ rounds_from l.k (extended_from l.initial.w 0 48) l.hash 0 (4 * l.i))

abbrev pub invariant-loop-i-2 : goal.invariant-loop-i-2
invariant-loop-i-2 l = (l.i ≤ 4) × (l.s ≡ rounds_from l.k l.w l.initial.s 48 (4 * l.i))
