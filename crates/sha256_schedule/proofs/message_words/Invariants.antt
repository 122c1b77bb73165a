-- `message_words` meets its contract. The loop's invariant: the first t words are those of the block. Assumes nothing.
use Rattle.std.proofs.Common.{◌≡◌, ◌-◌, ◌≤◌, length, take}
use Rattle.sha256_schedule.specs.Schedule.{message_words}
use Rattle.sha256_schedule.proofs.message_words.Given as goal

abbrev pub invariant-loop-t : goal.invariant-loop-t
invariant-loop-t l = (l.t ≤ 16) × (length l.w ≡ 64) × (take l.t l.w ≡ message_words l.block l.t)

abbrev pub decreases-loop-t : goal.decreases-loop-t
decreases-loop-t l = 16 - l.t
