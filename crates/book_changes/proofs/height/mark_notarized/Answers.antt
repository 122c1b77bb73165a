-- `mark_notarized` meets its contract: a byte and a 16-bit number are written.
use Rattle.std.proofs.Common.{arith, ◌∙◌, length-set, rules}
use Rattle.book_changes.proofs.height.mark_notarized.Goals as goal

pub put_word-requires : goal.put_word-requires
put_word-requires c = record {
  at_in_bounds = simp length-set (omega arith);
  value_bound = search rules;
}

pub shape_of-book : goal.shape_of-book
shape_of-book c = c.put_word.auto.bytes ∙ simp length-set
