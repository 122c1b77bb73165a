-- `masks_sound` meets its contract: its four tests are those of the four masks.
use Rattle.soundness.proofs.SoundTests.{masks_are}
use Rattle.protocol.specs.State.{at, decode}
use Rattle.soundness.proofs.masks_sound.Goals as goal

pub returns : goal.returns
returns c = rw (
  c.below-voters.ensures,
  c.mask_at-4.ensures.0,
  c.below-finalize.ensures,
  c.mask_at-3.ensures.0,
  c.below-dummy.ensures,
  c.mask_at-2.ensures.0,
  c.below-certificate.ensures,
  c.mask_at.ensures.0,
  c.replicas-n.ensures.0,
)
    (masks_are (decode c.args.book.now).n (at (decode c.args.book.now) c.args.h))
