-- `in_mask` meets its contract: a replica is in a mask where its bit is 1.
use Rattle.protocol.proofs.Laws.OneOrZeroLaws.{one_test}
use Rattle.wire.proofs.mask.in_mask.Goals as goal

pub returns : goal.returns
returns c = rw c.one_if_in.ensures.0 (one_test _)
