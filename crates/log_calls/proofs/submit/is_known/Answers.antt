-- `is_known` meets its contract: pending or in the log, which has the entries of the chain that ends at the finalized
-- height.
use Rattle.std.proofs.Common.{ℕ, sym, ap, ◌∙◌}
use Rattle.protocol.specs.Bytes.{holds}
use Rattle.protocol.specs.State.{decode, pending}
use Rattle.protocol.specs.View.{log_at}
use Rattle.protocol.specs.Sound.{view, log}
use Rattle.protocol.proofs.Laws.LogLaws.{log_holds}
use Rattle.log_calls.specs.Laws.ReadLaws.{walkable}
use Rattle.log_calls.proofs.Numbers.{first_holds, second_holds}
use Rattle.log_calls.proofs.submit.is_known.Goals as goal

pub chain_holds-requires : goal.chain_holds-requires
chain_holds-requires c =
    walkable c.args.book.now c.finalized.result c.requires c.finalized.ensures.0

pub returns-then-is_pending : goal.returns-then-is_pending
returns-then-is_pending c = c.if-is_pending.true ∙ first_holds _ _ (sym c.is_pending.ensures ∙ c.if-is_pending.true)

pub returns-else-is_pending : goal.returns-else-is_pending
returns-else-is_pending c = let s = decode c.args.book.now in
    let entry = c.args.entry.now in
    second_holds (holds entry (pending s)) (holds entry (log s)) c.chain_holds.result
    (sym c.is_pending.ensures ∙ c.if-is_pending.false)
    (c.chain_holds.ensures ∙ ap (λ (h : ℕ). holds entry (log_at (view s) h)) c.finalized.ensures.0
    ∙ sym (log_holds s entry))
