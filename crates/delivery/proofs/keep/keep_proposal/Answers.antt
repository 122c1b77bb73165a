-- `keep_proposal` meets its contract: a proposal is written where none is held, and then its votes are counted.
use Rattle.std.proofs.Common.{sym, ap, ◌∙◌}
use Rattle.sha256.specs.Digest.{sha256}
use Rattle.protocol.specs.Bytes.{Bytes}
use Rattle.protocol.specs.State.{Height, decode, encode, at, with_height}
use Rattle.protocol.specs.Sound.{view}
use Rattle.protocol.proofs.Laws.ChangeLaws.{shaped_proposal}
use Rattle.protocol.specs.Deliver.{with_proposal, notarize, keep_proposal}
use Rattle.delivery.specs.Laws.KeepLaws.{known_frame, new_frame, shaped_here, kept_proposal, proposal_status}
use Rattle.delivery.specs.Laws.KeepLaws.{spot_after, height_after, notarized_after}
use Rattle.delivery.proofs.keep.keep_proposal.Goals as goal

pub notarize_with-requires : goal.notarize_with-requires
notarize_with-requires c =
    let book = c.args.book.now in
    let h = c.args.h in
    let spot = c.requires.spot in
    let x = at (decode book) h in
    let free = sym c.holds_proposal.ensures ∙ c.if-holds_proposal.false in
    let carried = c.frame_block.ensures in
    let fits = shaped_proposal x _ carried.1 (shaped_here book h spot) in
    let kept = c.set_proposal.ensures in
    let held = ap (λ (y : Height). y.proposal) (height_after book h spot _ fits _ kept) ∙ kept_proposal x _
    ∙ carried.0 in
    record {
      spot = spot_after book h spot _ fits _ kept (proposal_status x _ spot.status_small free);
      digest_value = c.frame_block_digest-digest.ensures ∙ sym (ap sha256 held);
    }

pub returns-then-holds_proposal : goal.returns-then-holds_proposal
unfolding keep_proposal
returns-then-holds_proposal c =
    known_frame c.args.book.now c.args.h _ _ (sym c.holds_proposal.ensures ∙ c.if-holds_proposal.true)

pub returns : goal.returns
unfolding keep_proposal
returns c =
    let book = c.args.book.now in
    let h = c.args.h in
    let spot = c.requires.spot in
    let free = sym c.holds_proposal.ensures ∙ c.if-holds_proposal.false in
    let carried = c.frame_block.ensures in
    let fits = shaped_proposal (at (decode book) h) _ carried.1 (shaped_here book h spot) in
    let counted = notarized_after book h spot _ fits sha256 _ _ c.set_proposal.ensures c.notarize_with.ensures in
    new_frame book h _ _ _ free (counted ∙ ap (λ (block : Bytes).
    encode (with_height (decode book) h (notarize sha256 (view (decode book)) (with_proposal
    (at (decode book) h) block)))) carried.0)
