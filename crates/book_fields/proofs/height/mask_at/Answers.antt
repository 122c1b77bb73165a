-- `mask_at` meets its contract: each name has one of the four places.
use Rattle.book_fields.proofs.Places.{place_small}
use Rattle.book_fields.proofs.height.mask_at.Goals as goal

pub mask_in-requires-clause-k_bound : goal.mask_in-requires-clause-k_bound
mask_in-requires-clause-k_bound c = rw c.from.ensures (place_small c.args.which)

pub returns : goal.returns
returns c = rw c.from.ensures at c.mask_in.ensures
