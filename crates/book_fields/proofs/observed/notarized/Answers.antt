-- `notarized` meets its contract: the part that it lends stands at the place of that block.
use Rattle.book_fields.proofs.ObservedPlaces.{observed_block_at_lem}
use Rattle.book_fields.proofs.observed.notarized.Goals as goal

pub returns : goal.returns
returns c = observed_block_at_lem c.args.book.now c.args.h c.requires.within _ c.block_at-from.ensures
