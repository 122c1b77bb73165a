-- `height_sound` meets its contract: its tests are the rows of a height.
use Rattle.observer_soundness.proofs.ObserverTests.{height_are}
use Rattle.observer_soundness.proofs.OfObserverRows.height_sound.Goals as goal

pub returns : goal.returns
returns c = rw (
  c.byte-unused.ensures.0,
  c.block_sound-block.ensures,
  c.status-held.ensures.0,
  c.masks_sound-masks.ensures,
)
    (height_are c.args.book.now c.args.h _ c.content_at.ensures)
