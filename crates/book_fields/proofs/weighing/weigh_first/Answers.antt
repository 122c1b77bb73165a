-- `weigh_first` meets its contract: each turn adds one replica's weight. At most sixteen are weighed.
use Rattle.std.proofs.Common.{◌<◌, length, refl, sym, arith}
use Rattle.protocol.specs.Mask.{in_mask, weigh, total}
use Rattle.protocol.proofs.Laws.QuorumLaws.{total_more, weigh_more}
use Rattle.book_fields.specs.Book.{view_of}
use Rattle.book_fields.proofs.Showing.{replicas_at}
use Rattle.book_fields.proofs.weighing.weigh_first.Goals as goal

pub loop-s-init : goal.loop-s-init
unfolding weigh total
loop-s-init g c = record { all_weighed = refl; held_weighed = refl; small = omega arith; part = omega arith }

pub overflow_add-all : goal.overflow_add-all
overflow_add-all g c = omega (arith, replicas_at g.K.Kind.kind c.args.book.now c.requires.shown)

pub weight_in-held-requires : goal.weight_in-held-requires
weight_in-held-requires g c = let n = replicas_at g.K.Kind.kind c.args.book.now c.requires.shown in
    (c.weight-weight.ensures.1, omega arith)

pub overflow_add-held : goal.overflow_add-held
overflow_add-held g c = omega (arith, replicas_at g.K.Kind.kind c.args.book.now c.requires.shown)

pub loop-s-preserved : goal.loop-s-preserved
loop-s-preserved g c = let ws = (view_of g.K.Kind.kind c.args.book.now).weights in
    let at = c.loop-s in
    let n = replicas_at g.K.Kind.kind c.args.book.now c.requires.shown in
    let inside : at.s < length ws = omega (arith, c.requires.shown.weight_each) in
    let weight = c.weight-weight.ensures in
    let held = c.weight_in-held.ensures in record {
      all_weighed = rw (at.invariant.all_weighed, weight.0) (sym (total_more ws at.s inside));
      held_weighed = rw (at.invariant.held_weighed, held.0, weight.0)
          (sym (weigh_more (λ t. in_mask c.args.mask t) ws at.s inside));
      small = omega arith;
      part = omega arith;
    }
