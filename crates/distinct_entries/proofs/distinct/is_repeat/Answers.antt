-- `is_repeat` meets its contract: the filter says that nothing before is equal, or one has looked back.
use Rattle.std.proofs.Common.{◌∙◌, ◌≡◌, sym, subst, false}
use Rattle.protocol.specs.Bytes.{Bytes, holds}
use Rattle.book_fields.specs.Book.{view_of}
use Rattle.distinct_entries.specs.Taking.{up_to}
use Rattle.distinct_entries.proofs.Chain.{marked_next, cut_entry}
use Rattle.distinct_entries.proofs.distinct.is_repeat.Goals as goal

pub returns-then-mark : goal.returns-then-mark
returns-then-mark g c = record {
  answer = c.stands_before.ensures;
  marked = marked_next c.requires.inside c.block-block.ensures.block (c.mark.ensures.marked _ c.requires.marked_2);
}

pub returns-else-mark : goal.returns-else-mark
returns-else-mark g c = let before = up_to (view_of g.K.Kind.kind c.args.book.now) c.args.h c.args.k in
    let cut = cut_entry c.requires.inside c.block-block.ensures.block in record {
      answer = c.if-mark.false ∙ sym (subst (λ (x : Bytes). holds x before ≡ false) cut
          (c.mark.ensures.unset _ c.requires.marked_2 c.if-mark.false));
      marked = marked_next c.requires.inside c.block-block.ensures.block (c.mark.ensures.marked _ c.requires.marked_2);
    }
