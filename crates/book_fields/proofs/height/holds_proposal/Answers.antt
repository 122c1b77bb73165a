-- `holds_proposal` meets its contract: an odd status says it.
use Rattle.protocol.specs.State.{holds_proposal}
use Rattle.book_fields.proofs.height.holds_proposal.Goals as goal

pub returns : goal.returns
unfolding holds_proposal
returns c = rw c.status.ensures.0
