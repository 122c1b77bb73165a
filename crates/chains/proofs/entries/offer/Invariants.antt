-- `offer` meets its contract: after `k` places the block has those of them that the chain lacks, eight at most.
use Rattle.std.proofs.Common.{◌≡◌, ◌≤◌, length, take}
use Rattle.protocol.specs.Bytes.{over_front, without}
use Rattle.protocol.specs.Block.{new_block}
use Rattle.protocol.specs.State.{decode, pending}
use Rattle.protocol.specs.Sound.{view}
use Rattle.protocol.specs.View.{log_at}
use Rattle.chains.proofs.entries.offer.Given as goal

abbrev pub invariant-loop-k : goal.invariant-loop-k
invariant-loop-k l =
    (l.taken ≡ length (without (log_at (view (decode l.book)) l.j) (take l.k (pending (decode l.book))))) ×
    (l.taken ≤ 8) ×
    (l.block ≡ over_front (new_block l.c l.j l.digest (without (log_at (view (decode l.book)) l.j)
    (take l.k (pending (decode l.book))))) l.initial.block)
