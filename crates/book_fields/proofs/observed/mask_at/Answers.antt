-- `mask_at` meets its contract: the 16-bit number that it reads stands at the place of that mask.
use Rattle.std.proofs.Common.{◌∙◌}
use Rattle.book_fields.proofs.ObservedPlaces.{observed_mask_at}
use Rattle.book_fields.proofs.observed.mask_at.Goals as goal

pub returns : goal.returns
returns c = (
  rw c.from-k.ensures at c.word.ensures.0 ∙ observed_mask_at c.args.book.now c.args.h c.requires.within _
      c.content_at-from.ensures c.args.which c.requires.no_voters,
  c.word.ensures.1,
)
