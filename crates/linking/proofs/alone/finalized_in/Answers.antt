-- `finalized_in` meets its contract: a memory of zeros knows nothing.
use Rattle.std.proofs.Common.{ℕ, arith, ap, sym}
use Rattle.std.proofs.lemmas.List.{length-replicate}
use Rattle.protocol.specs.Bytes.{zeros}
use Rattle.memory.specs.Laws.FreshLaws.{zero_known}
use Rattle.linking.proofs.alone.finalized_in.Goals as goal

pub zero_or_finalized-requires-clause-memo_as : goal.zero_or_finalized-requires-clause-memo_as
unfolding zeros
zero_or_finalized-requires-clause-memo_as g c =
    let size = length-replicate {A = ℕ} g.row.N 0 in
    zero_known _ _ _ (omega arith) (ap (λ (n : ℕ). zeros n) (sym size))
