-- `literal` puts no more bytes behind one another than find room.
use Rattle.std.proofs.Common.{◌≤◌, vec_len}
use Rattle.exchange_list.proofs.literal.literal.Given as goal

abbrev pub invariant-loop-part : goal.invariant-loop-part
invariant-loop-part l =
    (goal.iterator-loop-part).can_next l.part-iterator
    × ((goal.iterator-loop-part).is_finite l.part-iterator × (vec_len l.bytes ≤ 65536))
