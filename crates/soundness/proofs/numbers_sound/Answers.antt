-- `numbers_sound` meets its contract: its tests are the rows of the head's numbers.
use Rattle.soundness.proofs.SoundTests.{numbers_summed}
use native.Mathlib.Omega.{arith}
use Rattle.soundness.proofs.numbers_sound.Goals as goal

pub returns : goal.returns
returns c = rw (
  c.byte-pending.ensures.0,
  c.good_number-current.ensures.0,
  c.byte-flags.ensures.0,
  c.good_number-heights.ensures.0,
  c.byte-own.ensures.0,
  c.byte-n.ensures.0,
)
    (numbers_summed c.args.book.now (omega (arith, c.requires.in_bounds)) c.requires.book_value)
