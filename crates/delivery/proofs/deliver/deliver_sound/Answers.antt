-- `deliver_sound` meets its contract: a frame that is read names a height that the book has.
use Rattle.std.proofs.Common.{rules, sym}
use Rattle.sha256.specs.Digest.{sha256}
use Rattle.delivery.specs.Laws.FrameReadLaws.{frame_read}
use Rattle.delivery.proofs.deliver.deliver_sound.Goals as goal

pub deliver_read-requires-clause-read : goal.deliver_read-requires-clause-read
deliver_read-requires-clause-read c =
    frame_read sha256 c.args.book.now c.args.frame.now (λ i. search rules) c.requires
    (sym c.in_ok-read_refusal.ensures) c.frame_height.result c.frame_height.ensures.0
