-- `add_pending` meets its contract: after `k` places, those of their entries that the log lacks are in front of the
-- pool.
use Rattle.std.proofs.Common.{◌≡◌, length}
use Rattle.protocol.specs.State.{decode, encode}
use Rattle.protocol.proofs.Laws.PoolLaws.{moved}
use Rattle.chains.proofs.Closing.{staying}
use Rattle.chains.proofs.entries.add_pending.Given as goal

abbrev pub invariant-loop-k : goal.invariant-loop-k
invariant-loop-k l =
    (l.left ≡ length (staying (decode l.initial.book) l.k)) ×
    (l.book ≡ encode (moved (decode l.initial.book) (staying (decode l.initial.book) l.k)))
