-- `leader` meets its contract: the byte that it reads stands at the place of that field.
use mathlib.Core.Path.{◌∙◌}
use Rattle.book_fields.proofs.Places.{leader_at}
use Rattle.book_fields.proofs.height.leader.Goals as goal

pub returns : goal.returns
returns c = (
  c.byte.ensures.0 ∙ leader_at c.args.book.now c.args.h c.requires.within _
      c.content_at-from.ensures,
  c.byte.ensures.1,
)
