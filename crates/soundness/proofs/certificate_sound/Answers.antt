-- `certificate_sound` meets its contract: the mask counts only where a block is notarized.
use Rattle.std.proofs.Common.{ℕ, sym, ap, ◌∙◌}
use Rattle.protocol.specs.View.{quorum}
use Rattle.protocol.proofs.Laws.RowLaws.{where_held, where_none}
use Rattle.book_fields.specs.Book.{book_view}
use Rattle.soundness.proofs.certificate_sound.Goals as goal

pub returns-else-not-is_notarized : goal.returns-else-not-is_notarized
returns-else-not-is_notarized c = c.quorum.ensures ∙ ap (λ (m : ℕ). quorum (book_view c.args.book.now) m)
    c.mask_at.ensures.0
    ∙ sym (where_held _ _ (sym c.is_notarized.ensures ∙ c.if-not-is_notarized.false))

pub returns-then-not-is_notarized : goal.returns-then-not-is_notarized
returns-then-not-is_notarized c =
    rw c.if-not-is_notarized.true (sym (where_none _ _ (sym c.is_notarized.ensures ∙ c.if-not-is_notarized.true)))
