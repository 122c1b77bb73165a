-- Written by tests/restated --write: what docs/statements has of
-- crates/call_laws/proofs/Laws/EquivocatingLaws.antt.
use Rattle.std.specs.Prelude.{◌≡◌, true}
use package.Rattle.protocol.specs.Bytes.{Bytes}
use package.Rattle.protocol.specs.State.{decode}
use package.Rattle.protocol.specs.Deliver.{leader_equivocates}
use package.Rattle.protocol.proofs.Laws.DeliverLaws.{Accepts}
use package.Rattle.call_laws.specs.Equivocating.{Equivocation}
use mathlib.Core.Path.{◌≡◌ as ◌is-kept◌, refl as by-text}
use package.Rattle.call_laws.proofs.Laws.EquivocatingLaws as page

module _ (digest : Bytes → Bytes) (book frame : Bytes) where
  pub equivocation-kept : Accepts digest book frame → leader_equivocates (decode book) frame ≡ true →
      Equivocation (decode book) frame
  equivocation-kept = page.equivocation digest book frame

  pub passes_test-kept : Equivocation (decode book) frame → leader_equivocates (decode book) frame ≡ true
  passes_test-kept = page.passes_test digest book frame
