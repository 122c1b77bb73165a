-- `finalized` meets its contract: the finalized height stands where the edition of a book of any kind has it.
use Rattle.std.proofs.Common.{arith, ◌∙◌}
use Rattle.book_fields.proofs.Showing.{head_room, finalized_at}
use Rattle.book_fields.proofs.kind.finalized.Goals as goal

pub good_number-requires : goal.good_number-requires
good_number-requires g c = record {
  in_bounds = head_room g.K.Kind.kind c.args.book.now c.requires;
  short_bound = (omega arith, omega arith);
}

pub returns : goal.returns
returns g c =
    (c.good_number.ensures.0 ∙ finalized_at g.K.Kind.kind c.args.book.now c.requires, c.good_number.ensures.1)
