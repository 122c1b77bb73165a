-- After `s` turns the sum is that of the bits below `s`, and the rest has those from `s` on.
use Rattle.std.proofs.Common.{◌≡◌, ◌/◌, ◌^◌, ◌≤◌}
use Rattle.protocol.specs.Mask.{ones}
use Rattle.book_fields.proofs.weighing.count.Given as goal

abbrev pub invariant-loop-s : goal.invariant-loop-s
invariant-loop-s l = record {
  bits_left : l.rest ≡ l.mask / 2 ^ l.s;
  bits_counted : l.sum ≡ ones l.mask l.s;
  few : l.sum ≤ l.s;
}
