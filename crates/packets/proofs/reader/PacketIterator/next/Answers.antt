-- `next` meets its contract: it gives the first frame that is left, if one is.
use Rattle.std.proofs.Common.{arith, ap, ◌<◌, length}
use Rattle.std.proofs.lemmas.Grind.{common_steps}
use Rattle.packets.specs.Left.{frames_left}
use Rattle.packets.specs.Laws.LeftLaws.{left_done, left_next}
use Rattle.packets.proofs.reader.PacketIterator.next.Goals as goal

pub returns-then-self-clause-steps : goal.returns-then-self-clause-steps
returns-then-self-clause-steps c =
    let none = left_done c.args.self.now.frames.now c.args.self.now.next c.if-self.true in (none, none)

pub returns-clause-steps : goal.returns-clause-steps
returns-clause-steps c =
    let more = left_next c.args.self.now.frames.now c.args.self.now.next c.next.new.reader.next c.if-self.false c.next.ensures.2 in
    rw (c.next.ensures.0, c.next.ensures.1) more

pub returns-clause-goes : goal.returns-clause-goes
returns-clause-goes c =
    let fewer : length (frames_left c.next.new.reader) < length (frames_left c.args.self.now) =
    omega (arith, ap length (returns-clause-steps c)) in
    grind (arith, common_steps)
