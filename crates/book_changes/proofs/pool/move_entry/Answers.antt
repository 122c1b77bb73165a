-- `move_entry` meets its contract: a place of the pool that is not after the other is written.
use Rattle.std.specs.Prelude.{refl, ◌+◌, ◌*◌}
use Rattle.std.proofs.Common.{◌∙◌, ap}
use Rattle.protocol.specs.Bytes.{Bytes, put}
use Rattle.book_changes.proofs.Copies.{cut_out}
use Rattle.book_changes.proofs.Writes.{moved_place}
use Rattle.book_changes.proofs.pool.move_entry.Goals as goal

pub returns : goal.returns
returns c = c.copy_to.ensures ∙ ap (λ (entry : Bytes). put c.args.book.now (64 + 16 * c.args.to) entry)
    (c.copy_from_slice.ensures.after ∙ cut_out c.args.book.now _ _ 16 refl) ∙
    moved_place c.args.book.now c.requires.ready c.args.from c.args.to c.requires.to_le_from.0
    c.requires.to_le_from.1
