-- `mask_in` meets its contract: the 16-bit number that it reads stands at the place of that mask.
use Rattle.std.proofs.Common.{◌∙◌}
use Rattle.book_fields.proofs.Places.{mask_at_lem}
use Rattle.book_fields.proofs.height.mask_in.Goals as goal

pub returns : goal.returns
returns c = (
  c.word.ensures.0 ∙ mask_at_lem c.args.book.now c.args.h c.requires.within _
      c.content_at-from.ensures c.args.k c.requires.k_bound,
  c.word.ensures.1,
)
