-- `deliver_frames` meets its contract: after each turn the book and the counts are those of one frame more.
use Rattle.std.proofs.Common.{arith, refl, Bor}
use Rattle.std.proofs.lemmas.List.{map-append, length-map}
use Rattle.std.proofs.lemmas.Iterator.Consumers.{YieldsList-from_first, YieldsList-turn}
use Rattle.protocol.specs.Bytes.{Bytes}
use Rattle.protocol.specs.Packet.{no_frames, packet_frames}
use Rattle.answers.specs.Answers.{delivered_answer}
use Rattle.packets.specs.Left.{frames_left}
use Rattle.packets.specs.Laws.LeftLaws.{frames_counted}
use Rattle.packets.specs.Laws.ReachedLaws.{reached_none, reached_sum, reached_more}
use Rattle.packets.proofs.deliver.deliver_frames.Goals as goal

pub loop-frame-init : goal.loop-frame-init
unfolding no_frames
loop-frame-init c = reached_none c.args.book.now c.requires record { fresh = 0; known = 0; refused = 0 } refl

pub counted-counts-requires : goal.counted-counts-requires
counted-counts-requires c =
    let frames = packet_frames c.args.packet.now in
    let road = YieldsList-from_first (λ (frame : Bor Bytes). frame.now) frames_left
    {s = c.into_iter-frame-iterator.result} frames (rw c.into_iter-frame-iterator.ensures.into_iter_gives) in
    let turn = YieldsList-turn road c.loop-frame.yielded c.loop-frame.frame-iterator c.loop-frame.yielded_by
    c.next.result c.next.new.self c.in-Some.frame c.in-Some.is c.next.ensures.steps in
    let sum = reached_sum c.args.book.now c.loop-frame.book _ c.loop-frame.counts c.loop-frame.invariant in
    rw (sum, length-map) (omega (arith, turn.0, frames_counted c.args.packet.now))

pub loop-frame-preserved : goal.loop-frame-preserved
loop-frame-preserved c = rw map-append
    (reached_more c.args.book.now c.loop-frame.book _ c.loop-frame.counts c.loop-frame.invariant
    c.in-Some.frame.now (delivered_answer c.deliver_sound-answer.result) c.deliver_sound-answer.ensures.answer
    c.deliver_sound-answer.new.book c.deliver_sound-answer.ensures.book
    c.counted-counts.result c.counted-counts.ensures)
