-- `finalized_sound` meets its contract: the walk is asked of the height that the head says.
use Rattle.std.proofs.Common.{ℕ, ap, sym, ◌∙◌, ◌||◌, eqb}
use Rattle.sha256.specs.Digest.{sha256}
use Rattle.protocol.specs.View.{is_finalized}
use Rattle.book_fields.specs.Book.{view_of}
use Rattle.soundness.proofs.sound.finalized_sound.Goals as goal

pub returns-clause-answer : goal.returns-clause-answer
returns-clause-answer g c =
    let v = view_of g.R.Book.Kind.kind c.args.book.now in
    c.zero_or_finalized.ensures.answer
    ∙ ap (λ (h : ℕ). eqb h 0 || is_finalized sha256 v h) c.finalized-g.ensures.0
    ∙ sym (g.met.R.Rows.final_is c.args.book.now)
