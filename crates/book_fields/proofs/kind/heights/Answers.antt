-- `heights` meets its contract: H stands where the edition of a book of any kind has it.
use native.Mathlib.Omega.{arith}
use Rattle.book_fields.proofs.Showing.{head_room}
use Rattle.book_fields.proofs.kind.heights.Goals as goal

pub good_number-requires : goal.good_number-requires
good_number-requires g c = record {
  in_bounds = head_room g.K.Kind.kind c.args.book.now c.requires;
  short_bound = (omega arith, omega arith);
}
