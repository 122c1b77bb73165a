-- `write_proposal` meets its contract: the new block takes the place of the zero bytes of a frame without one.
use Rattle.std.proofs.Common.{arith, rules, ◌≡◌, length}
use Rattle.protocol.specs.Block.{new_block}
use Rattle.protocol.specs.State.{decode}
use Rattle.protocol.specs.Move.{offered}
use Rattle.protocol.proofs.Laws.FrontLaws.{front_in_part}
use Rattle.steps.specs.Laws.ProposeLaws.{wrote_proposal, proposed_size}
use Rattle.steps.proofs.write_proposal.Goals as goal

pub returns : goal.returns
returns c =
    let book = c.args.book.now in
    let sound = c.requires.sound_book in
    let j = c.args.j in
    let digest = c.parent_digest-digest.result in
    let plain = c.write_plain in
    let size : length digest ≡ 32 = search rules in
    let room = c.requires.in_bounds in
    let kept = plain.auto.out in
    wrote_proposal book sound _ plain.new.out _ digest _ _ j c.current-c.ensures.0 c.own-signer.ensures.0 size
    c.parent_digest-digest.ensures.answer plain.ensures
    (rw c.offer.ensures
    (front_in_part plain.new.out (new_block c.current-c.result j digest (offered (decode book) j)) 48 176
    (omega arith) (omega (arith, proposed_size book sound digest c.current-c.result j size))))
