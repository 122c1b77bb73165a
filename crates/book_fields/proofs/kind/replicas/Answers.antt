-- `replicas` meets its contract: the first byte of a book of any kind is n.
use native.Mathlib.Omega.{arith}
use mathlib.Core.Path.{◌∙◌}
use Rattle.book_fields.proofs.Showing.{head_room, replicas_at}
use Rattle.book_fields.proofs.kind.replicas.Goals as goal

pub byte-requires : goal.byte-requires
byte-requires g c = omega (arith, head_room g.K.Kind.kind c.args.book.now c.requires)

pub returns : goal.returns
returns g c = (
  c.byte.ensures.0 ∙ replicas_at g.K.Kind.kind c.args.book.now c.requires,
  omega (arith, c.byte.ensures.0, c.requires.replicas),
)
