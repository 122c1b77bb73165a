-- Written by tests/restated --write: what docs/statements has of
-- crates/paper/proofs/Laws/RegisterExactLaws.antt.
use Rattle.std.specs.Prelude.{ℕ, ◌≡◌}
use package.Rattle.protocol.specs.Bytes.{Bytes}
use package.Rattle.protocol.specs.Distinct.{distinct}
use package.Rattle.protocol.specs.State.{State}
use package.Rattle.protocol.specs.View.{View}
use package.Rattle.protocol.specs.Sound.{view, log}
use package.Rattle.paper.specs.Paper.{Sequence, linearize, last_block, FinalizedBlockchain}
use package.Rattle.paper.specs.Register.{ReadsChainOf}
use mathlib.Core.Path.{◌≡◌ as ◌is-kept◌, refl as by-text}
use package.Rattle.paper.proofs.Laws.RegisterExactLaws as page

module _ (digest : Bytes → Bytes) (v : View) where
  pub reads_exact-kept : (g : ℕ) (part part' buffer after after' : Bytes) (size size' : ℕ) →
      ReadsChainOf digest v g part buffer after size → ReadsChainOf digest v g part' buffer after' size' →
      (part' ≡ part) × (after' ≡ after) × (size' ≡ size)
  reads_exact-kept = page.reads_exact digest v

pub log_exact-kept : (digest : Bytes → Bytes) (s : State) (c : Sequence) → FinalizedBlockchain digest (view s) c →
    last_block c ≡ s.finalized → distinct (linearize c) ≡ log s
log_exact-kept = page.log_exact
