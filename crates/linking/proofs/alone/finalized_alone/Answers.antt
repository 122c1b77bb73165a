-- `finalized_alone` meets its contract: height 0 passes, and the memory has room for the heights.
use Rattle.std.proofs.Common.{arith, sym, ◌∙◌, leb-true}
use Rattle.book_fields.specs.Book.{view_of}
use Rattle.linking.proofs.Final.{none_finalized}
use Rattle.linking.proofs.alone.finalized_alone.Goals as goal

pub returns-then-g-eq0 : goal.returns-then-g-eq0
returns-then-g-eq0 g c = sym (none_finalized (view_of g.K.Kind.kind c.args.book.now) c.args.g c.if-g-eq0.true)

pub finalized_in-requires-clause-room : goal.finalized_in-requires-clause-room
finalized_in-requires-clause-room g c = leb-true _ _ (sym c.has_room.ensures ∙ c.if-has_room.true)

pub finalized_in-requires-else-has_room-clause-room : goal.finalized_in-requires-else-has_room-clause-room
finalized_in-requires-else-has_room-clause-room g c = omega (arith, c.requires.heights)
