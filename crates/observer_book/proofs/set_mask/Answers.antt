-- `set_mask` meets its contract: two bytes are written at the place of that mask.
use Rattle.std.proofs.Common.{sym, ◌∙◌}
use Rattle.observer_book.proofs.ObserverWrites.{observed_mask_set}
use Rattle.observer_book.proofs.set_mask.Goals as goal

pub returns : goal.returns
returns c = let k-range = c.requires.le_k in
    rw (sym c.from.ensures) (c.put_word.ensures ∙
    observed_mask_set c.args.book.now c.requires.observer_ready c.args.h c.requires.within _ c.content_at-content.ensures
    c.from.result (rw c.from.ensures k-range.0) (rw c.from.ensures k-range.1) c.args.mask)
