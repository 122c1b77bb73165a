-- `is_dummy` meets its contract: the dummy mask of the height is a quorum, and not where it holds nobody.
use Rattle.std.proofs.Common.{ℕ, sym, ap, ◌∙◌, eq-eqb}
use Rattle.protocol.specs.View.{quorum, is_dummy}
use Rattle.book_fields.specs.Book.{view_of}
use Rattle.book_fields.specs.Laws.WeightLaws.{nobody_no_quorum}
use Rattle.book_fields.proofs.kind.is_dummy.Goals as goal

pub returns-then-mask-ne0 : goal.returns-then-mask-ne0
unfolding is_dummy
returns-then-mask-ne0 g c = c.quorum.ensures ∙ rw c.dummy_mask-mask.ensures.0

pub returns-else-mask-ne0 : goal.returns-else-mask-ne0
unfolding is_dummy
returns-else-mask-ne0 g c = let v = view_of g.K.Kind.kind c.args.book.now in
    rw (eq-eqb c.dummy_mask-mask.result 0 c.if-mask-ne0.false)
    (sym (ap (λ (mask : ℕ). quorum v mask) (sym c.dummy_mask-mask.ensures.0 ∙ c.if-mask-ne0.false)
    ∙ nobody_no_quorum v c.requires.shown.some_weight))
