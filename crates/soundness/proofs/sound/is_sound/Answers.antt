-- `is_sound` meets its contract: its two tests are the groups of rows, and a slice has bytes.
use Rattle.std.proofs.Common.{ℕ, ap, sym, ◌∙◌, ◌||◌, eqb}
use Rattle.sha256.specs.Digest.{sha256}
use Rattle.protocol.specs.View.{is_finalized}
use Rattle.book_fields.specs.Book.{view_of}
use Rattle.soundness.proofs.sound.is_sound.Goals as goal

pub returns-then-not-rows_sound-clause-answer : goal.returns-then-not-rows_sound-clause-answer
returns-then-not-rows_sound-clause-answer g c = sym
    (rw (g.met.R.Rows.sound_is c.args.book.now, sym c.rows_sound.ensures.answer ∙ c.if-not-rows_sound.true))

pub returns-clause-answer : goal.returns-clause-answer
returns-clause-answer g c =
    let v = view_of g.R.Book.Kind.kind c.args.book.now in
    rw (g.met.R.Rows.sound_is c.args.book.now, sym c.rows_sound.ensures.answer ∙ c.if-not-rows_sound.false)
    (c.finalized_alone.ensures
    ∙ ap (λ (h : ℕ). eqb h 0 || is_finalized sha256 v h) c.finalized-g.ensures.0
    ∙ sym (g.met.R.Rows.final_is c.args.book.now))
