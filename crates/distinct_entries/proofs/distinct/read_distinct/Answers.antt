-- `read_distinct` meets its contract: all distinct entries are copied, or nothing.
use Rattle.std.proofs.Common.{ℕ, ◌*◌, leb-true, sym, ap, ◌∙◌, length}
use Rattle.protocol.specs.Bytes.{Bytes, over_front}
use Rattle.protocol.proofs.Laws.FrontLaws.{front_none}
use Rattle.protocol.proofs.Laws.ChainLaws.{distinct_length}
use Rattle.book_fields.specs.Book.{view_of}
use Rattle.sha256.specs.Digest.{sha256}
use Rattle.distinct_entries.proofs.Chain.{read_whole, read_none}
use Rattle.distinct_entries.proofs.distinct.read_distinct.Goals as goal

pub copy_distinct-requires : goal.copy_distinct-requires
copy_distinct-requires g c = record {
  walkable_as = c.requires;
  h_in_bounds = leb-true _ _ (sym c.fits_into.ensures ∙ c.if-fits_into.true);
}

pub returns-then-fits_into : goal.returns-then-fits_into
returns-then-fits_into g c = let v = view_of g.K.Kind.kind c.args.book.now in
    let buffer = c.args.buffer.now in
    let bytes = distinct_length sha256 v c.requires.formed c.args.h c.requires.is_linked_lem in
    let whole = read_whole v c.args.h buffer (sym c.if-fits_into.true ∙ c.fits_into.ensures) in record {
      length = ap (λ (k : ℕ). 16 * k) c.copy_distinct.ensures.count.0 ∙ sym (ap length whole ∙ bytes);
      buffer = c.copy_distinct.ensures.buffer ∙ ap (λ (l : Bytes). over_front l buffer) (sym whole);
    }

pub returns-else-fits_into : goal.returns-else-fits_into
returns-else-fits_into g c = let v = view_of g.K.Kind.kind c.args.book.now in
    let buffer = c.args.buffer.now in
    let none = read_none v c.args.h buffer (sym c.if-fits_into.false ∙ c.fits_into.ensures) in
    record {
      length = sym (ap length none);
      buffer = sym (ap (λ (l : Bytes). over_front l buffer) none ∙ front_none buffer);
    }
