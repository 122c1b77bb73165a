-- `block` lends the place of an observer's book.
use Rattle.std.proofs.Common.{ap, length, ◌∙◌}
use Rattle.book_fields.proofs.ObservedPlaces.{observed_size}
use Rattle.book_fields.proofs.kind.ObserverKind.block.Goals as goal

pub returns-clause-whole : goal.returns-clause-whole
returns-clause-whole c = ap length c.notarized.ensures
    ∙ observed_size c.args.book.now c.args.h c.requires.within c.requires.shown.sized.size
