-- `unused_sound` meets its contract: the part that it tests stands after the masks.
use mathlib.Core.Path.{◌∙◌}
use Rattle.soundness.proofs.SoundTests.{unused_are}
use Rattle.soundness.proofs.unused_sound.Goals as goal

pub returns : goal.returns
returns c = c.is_zero.ensures ∙ unused_are c.args.book.now c.args.h _ c.content_at-from.ensures
