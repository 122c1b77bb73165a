-- Written by tests/restated --write: what docs/statements has of
-- crates/paper/proofs/Laws/IdleLaws.antt.
use package.Rattle.protocol.specs.Bytes.{Bytes}
use package.Rattle.protocol.specs.State.{State}
use package.Rattle.paper.specs.Idle.{IdleMeansNoMove, MovesEnd}
use mathlib.Core.Path.{◌≡◌ as ◌is-kept◌, refl as by-text}
use package.Rattle.paper.proofs.Laws.IdleLaws as page

module _ (digest : Bytes → Bytes) where
  pub idle_means_no_move-kept : (s : State) → IdleMeansNoMove digest s
  idle_means_no_move-kept = page.idle_means_no_move digest

  pub moves_end-kept : (s : State) → MovesEnd digest s
  moves_end-kept = page.moves_end digest
