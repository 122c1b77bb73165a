-- `voters_for` meets its contract: after `s` turns the mask is that of the replicas below `s`.
use Rattle.std.specs.Prelude.{◌≡◌}
use Rattle.protocol.specs.Mask.{mask_of}
use Rattle.protocol.specs.State.{decode, at as heightAt}
use Rattle.tally.proofs.Votes.{votes}
use Rattle.tally.proofs.voters_for.Given as goal

abbrev pub invariant-loop-s : goal.invariant-loop-s
invariant-loop-s l = l.mask ≡ mask_of (votes (heightAt (decode l.book) l.h) l.voters l.digest) l.s
