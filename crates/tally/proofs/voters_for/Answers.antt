-- `voters_for` meets its contract: after `s` turns the mask is that of the replicas below `s`.
use Rattle.std.specs.Prelude.{refl}
use Rattle.std.proofs.Common.{arith}
use Rattle.protocol.specs.Mask.{mask_of}
use Rattle.protocol.specs.State.{decode, at as heightAt}
use Rattle.protocol.proofs.Laws.OneOrZeroLaws.{times_small}
use Rattle.tally.proofs.Votes.{votes, mask_small, mask_next, tallied}
use Rattle.tally.proofs.voters_for.Goals as goal

pub loop-s-init : goal.loop-s-init
unfolding mask_of
loop-s-init c = refl

pub overflow_mul-mask : goal.overflow_mul-mask
overflow_mul-mask c = omega (arith, times_small c.bit.result c.votes_for.result c.votes_for.ensures.once)

pub overflow_add-mask : goal.overflow_add-mask
overflow_add-mask c = let args = c.args in
    let small = mask_small (votes (heightAt (decode args.book.now) args.h) c.voter_mask-voters.result
    args.digest.now) c.loop-s.s c.loop-s.mask (omega arith) c.loop-s.invariant in
    omega (arith, times_small c.bit.result c.votes_for.result c.votes_for.ensures.once)

pub loop-s-preserved : goal.loop-s-preserved
loop-s-preserved c = let args = c.args in
    let test = votes (heightAt (decode args.book.now) args.h) c.voter_mask-voters.result
    args.digest.now in
    mask_next test c.loop-s.s c.loop-s.mask c.bit.result c.votes_for.result c.loop-s.invariant
    c.bit.ensures.0 c.votes_for.ensures.vote

pub returns : goal.returns
returns c = let args = c.args in
    let height = heightAt (decode args.book.now) args.h in
    let voters = c.voter_mask-voters.result in record {
      voters = tallied height args.digest.now voters c.loop-s.mask c.loop-s.s (decode args.book.now).n
          c.voter_mask-voters.ensures.0
          (omega arith)
          c.loop-s.invariant;
      small = mask_small (votes height voters args.digest.now) c.loop-s.s c.loop-s.mask (omega arith)
          c.loop-s.invariant;
    }
