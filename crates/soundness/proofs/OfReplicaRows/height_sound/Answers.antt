-- `height_sound` meets its contract: its tests are the rows of a height.
use Rattle.soundness.proofs.SoundTests.{height_are}
use Rattle.soundness.proofs.OfReplicaRows.height_sound.Goals as goal

pub returns : goal.returns
returns c = rw (
  c.unused_sound-unused.ensures,
  c.certificate_sound-certificate.ensures,
  c.block_sound-notarized.ensures,
  c.notarized.ensures,
  c.is_notarized.ensures,
  c.block_sound-proposal.ensures,
  c.proposal.ensures,
  c.holds_proposal.ensures,
  c.status-status.ensures.0,
  c.masks_sound-masks.ensures,
  c.replicas.ensures.0,
  c.leader.ensures.0,
)
    (height_are c.args.book.now c.args.h)
