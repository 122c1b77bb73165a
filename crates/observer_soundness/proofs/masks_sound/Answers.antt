-- `masks_sound` meets its contract: its three tests are those of the three masks, and an observer keeps no voters.
use Rattle.protocol.specs.Sound.{view}
use Rattle.protocol.specs.Observer.{observer_state}
use Rattle.observer_soundness.proofs.ObserverTests.{masks_are}
use Rattle.observer_soundness.proofs.masks_sound.Goals as goal

pub returns : goal.returns
unfolding view
returns c = rw (
  c.below-finalize.ensures,
  c.mask_at-3.ensures.0,
  c.below-dummy.ensures,
  c.mask_at-2.ensures.0,
  c.below-certificate.ensures,
  c.mask_at.ensures.0,
  c.replicas-n.ensures.0,
)
    (masks_are c.args.book.now c.args.h (observer_state c.args.book.now).n c.requires.within)
