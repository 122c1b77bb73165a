-- `pieces` fills no more than the room that it is lent.
use Rattle.std.proofs.Common.{◌≤◌, length}
use Rattle.exchange_list.proofs.fixed_literal.pieces.Given as goal

abbrev pub invariant-loop-part : goal.invariant-loop-part
invariant-loop-part l =
    (goal.iterator-loop-part).can_next l.part-iterator
    × ((goal.iterator-loop-part).is_finite l.part-iterator × (l.size ≤ length l.out))
