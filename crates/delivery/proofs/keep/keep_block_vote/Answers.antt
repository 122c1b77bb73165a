-- `keep_block_vote` meets its contract: a vote is written where the signer has none, and then the votes are counted.
use Rattle.std.proofs.Common.{ℕ, arith, sym, ap, ap₂, ◌∙◌}
use Rattle.sha256.specs.Digest.{sha256}
use Rattle.protocol.specs.Bytes.{Bytes}
use Rattle.protocol.specs.Mask.{in_mask}
use Rattle.protocol.specs.State.{decode, encode, at, with_height}
use Rattle.protocol.specs.Sound.{view}
use Rattle.protocol.proofs.Laws.ChangeLaws.{shaped_vote}
use Rattle.protocol.specs.Deliver.{with_vote, notarize, keep_block_vote}
use Rattle.delivery.specs.Laws.KeepLaws.{known_frame, new_frame, room, shaped_here, vote_status}
use Rattle.wire.proofs.Masks.{same_bit}
use Rattle.delivery.specs.Laws.KeepLaws.{spot_after, notarized_after}
use Rattle.book_fields.specs.Laws.BookLaws.{few_replicas}
use Rattle.delivery.proofs.keep.keep_block_vote.Goals as goal

pub set_vote-requires : goal.set_vote-requires
set_vote-requires c = let book = c.args.book.now in
    let h = c.args.h in
    let given = c.requires.read in
    let x = at (decode book) h in
    let held = c.voter_mask.ensures.0 in
    let signed = c.frame_signer-s.ensures.0 in
    let here = c.frame_signer-s.result in
    let missing = sym (ap (λ (m : ℕ). in_mask m here) held) ∙ sym c.in_mask.ensures
    ∙ c.if-in_mask.false in
    let fits = room (decode book).n x.voter_mask here (omega (arith, signed, c.requires.frame_bound))
    given.range.voter_below given.range.mask_bound missing in record {
      ready = given.spot.ready;
      within = given.spot.within;
      s_lt_maximum_replicas = omega
          (arith, signed, c.requires.frame_bound, few_replicas _ given.spot.ready.readable);
      s_bound = fits;
      digest_len = c.frame_digest.ensures.1;
    }

pub notarize-requires : goal.notarize-requires
notarize-requires c = let book = c.args.book.now in
    let h = c.args.h in
    let given = c.requires.read in
    let x = at (decode book) h in
    let signed = c.frame_signer-s.ensures.0 in
    let here = c.frame_signer-s.result in
    let fits = shaped_vote x here _ (omega (
      arith,
      signed,
      c.requires.frame_bound,
      few_replicas _ given.spot.ready.readable,
    )) c.frame_digest.ensures.1
    (shaped_here book h given.spot) in
    spot_after book h given.spot _ fits _ c.set_vote.ensures
    (vote_status x _ _ given.spot.status_small)

pub returns-then-in_mask : goal.returns-then-in_mask
unfolding keep_block_vote
returns-then-in_mask c =
    known_frame c.args.book.now c.args.h _ _
    (same_bit c.voter_mask.ensures.0 c.frame_signer-s.ensures.0 c.in_mask.ensures ∙ c.if-in_mask.true)

pub returns : goal.returns
unfolding keep_block_vote
returns c =
    let book = c.args.book.now in
    let h = c.args.h in
    let given = c.requires.read in
    let x = at (decode book) h in
    let signed = c.frame_signer-s.ensures.0 in
    let missing = same_bit c.voter_mask.ensures.0 signed c.in_mask.ensures ∙ c.if-in_mask.false in
    let named = c.frame_digest.ensures in
    let small = few_replicas _ given.spot.ready.readable in
    let fits = shaped_vote x c.frame_signer-s.result _ (omega (arith, signed, c.requires.frame_bound, small)) named.1
    (shaped_here book h given.spot) in
    let counted = notarized_after book h given.spot _ fits sha256 _ _ c.set_vote.ensures c.notarize.ensures in
    new_frame book h _ _ _ missing
    (counted ∙ ap₂ (λ (k : ℕ) (digest : Bytes). encode
    (with_height (decode book) h (notarize sha256 (view (decode book)) (with_vote x k digest)))) signed named.0)
