-- Written by tests/restated --write: what docs/statements has of
-- crates/protocol/proofs/Laws/CallLaws.antt.
use Rattle.std.specs.Prelude.{◌≡◌, false}
use package.Rattle.protocol.specs.Bytes.{Bytes}
use package.Rattle.protocol.specs.Call.{Call}
use package.Rattle.protocol.specs.Call.{effect, leaves}
use mathlib.Core.Path.{◌≡◌ as ◌is-kept◌, refl as by-text}
use package.Rattle.protocol.proofs.Laws.CallLaws as page

module _ (digest : Bytes → Bytes) (book : Bytes) where
  pub refused_does_nothing-kept : (call : Call) → (effect digest book call).accepted ≡ false →
      effect digest book call ≡ leaves book false
  refused_does_nothing-kept = page.refused_does_nothing digest book
