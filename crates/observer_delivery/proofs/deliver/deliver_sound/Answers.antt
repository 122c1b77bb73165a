-- `deliver_sound` meets its contract: a certificate that passes the rows is kept.
use Rattle.std.proofs.Common.{refl, sym}
use Rattle.sha256.specs.Digest.{sha256}
use Rattle.observer_delivery.specs.Laws.KeptLaws.{deliver_kept, certificate_read}
use Rattle.observer_delivery.proofs.deliver.deliver_sound.Goals as goal

pub frame_height-requires : goal.frame_height-requires
frame_height-requires c =
    (certificate_read sha256 c.args.book.now c.args.frame.now c.requires (sym c.in_ok-frame_refusal.ensures) _
    refl).read.size

pub keep-requires : goal.keep-requires
keep-requires c =
    certificate_read sha256 c.args.book.now c.args.frame.now c.requires (sym c.in_ok-frame_refusal.ensures) _
    c.frame_height.ensures.0

pub returns : goal.returns
returns c =
    rw (deliver_kept sha256 c.args.book.now c.args.frame.now c.requires (sym c.in_ok-frame_refusal.ensures) _
    c.frame_height.ensures.0 _ _ c.keep.ensures) record { answer = refl; book = refl }
