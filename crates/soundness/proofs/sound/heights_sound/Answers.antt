-- `heights_sound` meets its contract: each turn passes one height more, or finds one that fails.
use Rattle.std.proofs.Common.{◌≡◌, ◌+◌, refl, sym, ◌∙◌, arith}
use Rattle.protocol.specs.Tests.{every_height}
use Rattle.protocol.specs.State.{book_heights}
use Rattle.protocol.proofs.Laws.RowLaws.{every_height_fails, every_more}
use Rattle.soundness.proofs.sound.heights_sound.Goals as goal

pub loop-h-init : goal.loop-h-init
unfolding every_height
loop-h-init g c = record { inside = omega arith; passed = refl }

pub loop-h-preserved : goal.loop-h-preserved
loop-h-preserved g c = record {
  inside = omega arith;
  passed = every_more (g.R.Rows.height c.args.book.now) c.loop-h.h c.loop-h.invariant.passed
      (sym c.height_sound.ensures ∙ c.if-not-height_sound.false);
}

pub returns-then-not-height_sound : goal.returns-then-not-height_sound
returns-then-not-height_sound g c =
    sym (every_height_fails (g.R.Rows.height c.args.book.now) (book_heights c.args.book.now) (c.loop-h.h + 1) (omega arith)
    (omega arith) (sym c.height_sound.ensures ∙ c.if-not-height_sound.true))

pub returns : goal.returns
returns g c =
    let last : book_heights c.args.book.now ≡ c.loop-h.h = omega arith in rw last (sym c.loop-h.invariant.passed)
