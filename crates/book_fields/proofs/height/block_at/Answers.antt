-- `block_at` meets its contract: the part that it lends stands at the place of that block.
use Rattle.book_fields.proofs.Places.{block_at_lem}
use Rattle.book_fields.proofs.height.block_at.Goals as goal

pub returns : goal.returns
returns c = block_at_lem c.args.book.now c.args.h c.requires.within _ c.body_at.ensures
    c.args.k c.requires.k_bound
