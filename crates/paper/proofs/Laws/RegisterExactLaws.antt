-- `Blockchains.LogIsLinearized` and `Register.ReadsChainOf` leave no choice: every finalized blockchain whose last
-- block is that of the finalized height has the entries of the log, so what meets the one or the other is what is read.
use Rattle.std.specs.Prelude.{ℕ, ◌*◌, ◌≡◌, List, ◌++◌, length, drop}
use Rattle.std.proofs.Math.Path.{sym}
use Rattle.std.proofs.Common.{ap, ◌∙◌}
use Rattle.protocol.specs.Bytes.{Bytes, join}
use Rattle.protocol.specs.Distinct.{distinct}
use Rattle.protocol.specs.Block.{entry_size}
use Rattle.protocol.specs.State.{State}
use Rattle.protocol.specs.View.{View, log_at, log_of}
use Rattle.protocol.specs.Sound.{view, log}
use Rattle.protocol.proofs.Laws.ViewLaws.{log_zero}
use Rattle.paper.specs.Paper as Paper
use Rattle.paper.specs.Paper.{Sequence, linearize, last_block, FinalizedBlockchain}
use Rattle.paper.specs.Register.{ReadsChainOf}
use Rattle.paper.proofs.Laws.TracedLaws.{traced}

module _ (digest : Bytes → Bytes) (v : View) where
  -- the entries go by the last block that is no dummy
  entries_of : {c : Sequence} → FinalizedBlockchain digest v c → linearize c ≡ log_at v (last_block c)
  unfolding linearize last_block
  entries_of Paper.FinalizedBlockchain.start = sym (log_zero v)
  entries_of (Paper.FinalizedBlockchain.ended n f) = (traced digest v n).its_entries

  distinct_of : {c : Sequence} (g : ℕ) → FinalizedBlockchain digest v c → last_block c ≡ g →
      distinct (linearize c) ≡ log_of v g
  distinct_of g finalized is = ap distinct (entries_of finalized ∙ ap (log_at v) is)

  -- ---- the register
  module _ (g : ℕ) (part buffer after : Bytes) (size : ℕ) (reads : ReadsChainOf digest v g part buffer after size) where
    part_is : part ≡ join (log_of v g)
    part_is = reads.part_read_lem ∙ ap join (distinct_of g reads.finalized reads.its_last)

    size_is : size ≡ entry_size * length (log_of v g)
    size_is = reads.its_size ∙ ap (λ (l : List Bytes). entry_size * length l)
        (distinct_of g reads.finalized reads.its_last)

    after_is : after ≡ join (log_of v g) ++ drop (entry_size * length (log_of v g)) buffer
    after_is = reads.buffer_after ∙ rw (part_is, size_is)

  -- of one view, height and buffer one part is read, to one buffer, of one size
  pub reads_exact : (g : ℕ) (part part' buffer after after' : Bytes) (size size' : ℕ) →
      ReadsChainOf digest v g part buffer after size → ReadsChainOf digest v g part' buffer after' size' →
      (part' ≡ part) × (after' ≡ after) × (size' ≡ size)
  reads_exact g part part' buffer after after' size size' reads reads' = (
    part_is g part' buffer after' size' reads' ∙ sym (part_is g part buffer after size reads),
    after_is g part' buffer after' size' reads' ∙ sym (after_is g part buffer after size reads),
    size_is g part' buffer after' size' reads' ∙ sym (size_is g part buffer after size reads),
  )

-- ---- the log of a state, sound or not
pub log_exact : (digest : Bytes → Bytes) (s : State) (c : Sequence) → FinalizedBlockchain digest (view s) c →
    last_block c ≡ s.finalized → distinct (linearize c) ≡ log s
unfolding log
log_exact digest s c = distinct_of digest (view s) s.finalized
