-- `is_finalized` meets its contract: where the finalize mask is a quorum, a height is finalized if it is linked, and
-- else it is not; nobody is no quorum.
use Prim.Native.Nat.{ℕ}
use mathlib.Core.Path.{sym, ap, ◌∙◌}
use Rattle.book_fields.specs.Book.{view_of}
use Rattle.book_fields.specs.Laws.WeightLaws.{nobody_no_quorum}
use Rattle.protocol.specs.View.{quorum}
use Rattle.linking.proofs.Walk.{finalized_by_link, not_finalized_without}
use Rattle.linking.proofs.linking.is_finalized.Goals as goal

pub returns-then-mask-eq0 : goal.returns-then-mask-eq0
returns-then-mask-eq0 g c = let mask = c.finalize_mask-mask in
    let v = view_of g.K.Kind.kind c.args.book.now in record {
      answer = sym (not_finalized_without v c.args.h (ap (λ (m : ℕ). quorum v m) (sym mask.ensures.0 ∙ c.if-mask-eq0.true)
          ∙ nobody_no_quorum v c.requires.shown.some_weight));
      memo = c.requires.memo_as;
    }

pub returns-then-quorum : goal.returns-then-quorum
returns-then-quorum g c = let mask = c.finalize_mask-mask in
    let v = view_of g.K.Kind.kind c.args.book.now in record {
      answer = c.linked.ensures.answer
          ∙ finalized_by_link v c.args.h (ap (λ (m : ℕ). quorum v m) (sym mask.ensures.0)
          ∙ sym c.quorum.ensures ∙ c.if-quorum.true);
      memo = c.linked.ensures.memo;
    }

pub returns-else-quorum : goal.returns-else-quorum
returns-else-quorum g c = let mask = c.finalize_mask-mask in
    let v = view_of g.K.Kind.kind c.args.book.now in record {
      answer = c.if-quorum.false ∙ sym (not_finalized_without v c.args.h (ap (λ (m : ℕ). quorum v m) (sym mask.ensures.0)
          ∙ sym c.quorum.ensures ∙ c.if-quorum.false));
      memo = c.requires.memo_as;
    }
