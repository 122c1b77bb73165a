-- `quorum` meets its contract: two thirds of the weight, as it is weighed.
use Rattle.protocol.specs.View.{quorum}
use Rattle.book_fields.proofs.kind.quorum.Goals as goal

pub returns : goal.returns
unfolding quorum
returns g c = rw (c.weigh-weight.ensures.all, c.weigh-weight.ensures.held)
