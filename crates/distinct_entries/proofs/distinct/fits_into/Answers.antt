-- `fits_into` meets its contract: where all entries fit, the distinct ones do.
use Rattle.std.proofs.Common.{◌∙◌, ◌*◌, arith, le-leb, sym, length}
use Rattle.protocol.specs.View.{log_at, log_of}
use Rattle.protocol.proofs.Laws.DistinctLaws.{distinct_short}
use Rattle.book_fields.specs.Book.{view_of}
use Rattle.distinct_entries.proofs.distinct.fits_into.Goals as goal

pub returns-then-all-room : goal.returns-then-all-room
returns-then-all-room g c = let v = view_of g.K.Kind.kind c.args.book.now in
    let short = distinct_short (log_at v c.args.h) in
    let all = c.chain_entries-all.ensures.0 in
    le-leb (16 * c.chain_entries-all.result) c.args.room (omega arith)
    ∙ sym (le-leb (16 * length (log_of v c.args.h)) c.args.room (omega arith))
