-- After `s` turns the sums are the weight of the first `s` replicas, and of those among them that the mask holds.
use Rattle.std.proofs.Common.{◌≡◌, ◌*◌, ◌≤◌, take}
use Rattle.protocol.specs.Mask.{in_mask, weigh, total}
use Rattle.book_fields.specs.Book.{view_of}
use Rattle.book_fields.proofs.weighing.weigh_first.Given as goal

abbrev pub invariant-loop-s : goal.invariant-loop-s
invariant-loop-s g l = record {
  all_weighed : l.all ≡ total (take l.s (view_of g.K.Kind.kind l.book).weights);
  held_weighed : l.held ≡ weigh (λ t. in_mask l.mask t) (take l.s (view_of g.K.Kind.kind l.book).weights);
  small : l.all ≤ 65536 * l.s;
  part : l.held ≤ l.all;
}
