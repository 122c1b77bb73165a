-- `pending_entry` meets its contract: the pool starts at byte 64, and its places have 16 bytes each.
use mathlib.Core.Path.{◌∙◌}
use Prim.Native.Nat.{◌+◌, ◌*◌}
use Rattle.protocol.proofs.Laws.FieldLaws.{read_entry}
use Rattle.book_fields.proofs.Places.{cut_part}
use Rattle.book_fields.proofs.pool.pending_entry.Goals as goal

pub returns : goal.returns
returns c = let book = c.args.book.now in
    let k = c.args.k in
    cut_part book (64 + 16 * k) 16 ∙ read_entry book k c.requires.k_lt_maximum_pending
