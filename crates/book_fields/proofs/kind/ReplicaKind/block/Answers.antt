-- `block` lends the place of a replica's book.
use Rattle.std.proofs.Common.{ap, length, ◌∙◌}
use Rattle.book_fields.proofs.Places.{notarized_size}
use Rattle.book_fields.proofs.kind.ReplicaKind.block.Goals as goal

pub returns-clause-whole : goal.returns-clause-whole
returns-clause-whole c = ap length c.notarized.ensures
    ∙ notarized_size c.args.book.now c.args.h c.requires.shown.sized.size c.requires.within
