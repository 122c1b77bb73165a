-- `is_notarized` meets its contract: a status of 2 or 3 says it.
use Rattle.protocol.specs.State.{is_notarized}
use Rattle.book_fields.proofs.height.is_notarized.Goals as goal

pub returns : goal.returns
unfolding is_notarized
returns c = rw c.status.ensures.0
