-- Written by tests/restated --write: what docs/statements has of
-- crates/paper/proofs/Laws/RegisterLaws.antt.
use Rattle.std.specs.Prelude.{ℕ, ◌≤◌, ◌≡◌}
use Rattle.std.proofs.Math.ListN.{length}
use package.Rattle.protocol.specs.Bytes.{Bytes}
use package.Rattle.protocol.specs.Answer.{accepted}
use package.Rattle.protocol.specs.Read.{size_call}
use package.Rattle.protocol.specs.ObserverCalls.{observer_size_call}
use package.Rattle.paper.specs.Register.{ReadsChain, ObserverReadsChain}
use mathlib.Core.Path.{◌≡◌ as ◌is-kept◌, refl as by-text}
use package.Rattle.paper.proofs.Laws.RegisterLaws as page

module _ (digest : Bytes → Bytes) (book : Bytes) where
  pub reads_chain-kept : (buffer : Bytes) (size : ℕ) → size_call digest book ≡ accepted size → size ≤ length buffer →
      ReadsChain digest book buffer size
  reads_chain-kept = page.reads_chain digest book

  pub observer_reads_chain-kept : (buffer : Bytes) (size : ℕ) → observer_size_call digest book ≡ accepted size →
      size ≤ length buffer → ObserverReadsChain digest book buffer size
  observer_reads_chain-kept = page.observer_reads_chain digest book
