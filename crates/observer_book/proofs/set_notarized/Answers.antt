-- `set_notarized` meets its contract: the block is copied to its place, and status and mask are written.
use Rattle.std.proofs.Common.{arith, ◌∙◌, length-set, rules}
use Rattle.observer_book.proofs.ObserverWrites.{observed_notarized_set}
use Rattle.observer_book.proofs.set_notarized.Goals as goal

pub put_word-requires : goal.put_word-requires
put_word-requires c = record {
  at_in_bounds = simp length-set (omega (arith, c.copy_to.auto.target));
  value_bound = search rules;
}

pub shape_of-book : goal.shape_of-book
shape_of-book c = c.put_word.auto.bytes ∙ simp length-set c.copy_to.auto.target

pub returns : goal.returns
returns c = c.put_word.ensures ∙
    observed_notarized_set c.args.book.now c.requires.observer_ready c.args.h c.requires.within _
    c.content_at-content.ensures _ c.block_at-from.ensures c.requires.h_value c.args.mask
    c.args.block.now c.requires.block_len _ c.copy_to.ensures
