-- The log of a state: whose entries it has, and of a sound one, that it ends at a linked height, and how many entries
-- and bytes it has.
use Prim.Native.Nat.{ℕ, zero, suc, ◌*◌, ◌≤◌}
use native.Mathlib.Omega.{arith}
use Rattle.std.specs.Prelude.{◌≡◌, ◌⊎◌, true, List, length}
use Rattle.std.proofs.Common.{ap, ◌∙◌, inl, inr}
use Rattle.protocol.specs.SoundState.{CertifiedState}
use Rattle.protocol.specs.Bytes.{Bytes, join, holds, without}
use Rattle.protocol.specs.Distinct.{none_twice}
use Rattle.protocol.specs.Block.{block_well_formed}
use Rattle.protocol.specs.State.{State, maximum_entries}
use Rattle.protocol.specs.View.{linked, is_finalized, quorum, log_at}
use Rattle.protocol.specs.Sound.{view, log}
use Rattle.protocol.proofs.Laws.TestsLaws.{and_both}
use Rattle.protocol.proofs.Laws.SoundLaws.{linked_in}
use Rattle.protocol.proofs.Laws.CodecLaws.{notarized_in}
use Rattle.protocol.proofs.Laws.LinkedLaws.{linked_zero}
use Rattle.protocol.proofs.Laws.DistinctLaws.{distinct_short, holds_distinct, without_distinct}
use Rattle.protocol.proofs.Laws.DistinctLaws.{distinct_once, distinct_same}
use Rattle.protocol.proofs.Laws.ChainLaws.{distinct_length, log_bound}

-- ---- of any state: the log has the finalized chain's entries, none of them twice
module _ (s : State) where
  pub log_once : none_twice (log s) ≡ true
  unfolding log
  log_once = distinct_once (log_at (view s) s.finalized)

  pub log_holds : (x : Bytes) → holds x (log s) ≡ holds x (log_at (view s) s.finalized)
  unfolding log
  log_holds x = holds_distinct x (log_at (view s) s.finalized)

  pub log_lacks : (es : List Bytes) → without (log s) es ≡ without (log_at (view s) s.finalized) es
  unfolding log
  log_lacks es = without_distinct (log_at (view s) s.finalized) es

  -- where the chain has none twice, the log is all its entries
  pub log_whole : none_twice (log_at (view s) s.finalized) ≡ true → log s ≡ log_at (view s) s.finalized
  unfolding log
  log_whole e = distinct_same (log_at (view s) s.finalized) e

-- ---- of a sound state
module _ (digest : Bytes → Bytes) (s : State) (facts : CertifiedState digest s) where
  -- every notarized block is well formed
  pub view_formed : (h : ℕ) → 1 ≤ h → (view s).has_block h ≡ true → block_well_formed h ((view s).block h) ≡ true
  unfolding view
  view_formed zero low e = absurd (omega arith)
  view_formed (suc i) low e = facts.formed (suc i) low (notarized_in s i e) e

  pub finalized_linked : linked digest (view s) s.finalized ≡ true
  finalized_linked = go facts.final
    where
      go : (s.finalized ≡ 0) ⊎ (is_finalized digest (view s) s.finalized ≡ true) →
          linked digest (view s) s.finalized ≡ true
      go (inl z) = ap (linked digest (view s)) z ∙ linked_zero digest (view s)
      go (inr z) = unfold is_finalized in (and_both _ (quorum (view s) ((view s).finalize_mask s.finalized)) z).0

  -- ---- the log
  pub log_bytes : length (join (log s)) ≡ 16 * length (log s)
  unfolding log
  log_bytes = distinct_length digest (view s) view_formed s.finalized finalized_linked

  pub log_few : length (log s) ≤ maximum_entries
  unfolding log
  log_few =
      let short = distinct_short (log_at (view s) s.finalized) in
      let bound = log_bound digest (view s) view_formed s.finalized finalized_linked in
      let within = linked_in digest s s.finalized finalized_linked in
      let heights = facts.last_high in
      omega arith
