-- `deliver_frames` meets its contract: after each turn the book and the counts are those of one frame more.
use Rattle.std.proofs.Common.{map}
use Rattle.packets.specs.Reached.{Reached}
use Rattle.packets.proofs.deliver.deliver_frames.Given as goal

abbrev pub invariant-loop-frame : goal.invariant-loop-frame
invariant-loop-frame l = Reached l.initial.book l.book (map (λ frame. frame.now) l.yielded) l.counts
