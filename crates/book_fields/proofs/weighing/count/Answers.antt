-- `count` meets its contract: each turn counts one bit.
use Rattle.std.proofs.Common.{refl, arith}
use Rattle.protocol.specs.Mask.{ones}
use Rattle.book_fields.proofs.Counts.{no_bits, rest_more, ones_more}
use Rattle.book_fields.proofs.weighing.count.Goals as goal

pub loop-s-init : goal.loop-s-init
unfolding ones
loop-s-init c = record { bits_left = no_bits c.args.mask; bits_counted = refl; few = omega arith }

pub loop-s-preserved : goal.loop-s-preserved
loop-s-preserved c = let mask = c.args.mask in
    let at = c.loop-s in record {
      bits_left = rw at.invariant.bits_left (rest_more mask at.s);
      bits_counted = rw (at.invariant.bits_left, at.invariant.bits_counted, ones_more mask at.s);
      few = omega arith;
    }
