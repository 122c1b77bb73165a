-- Written by tests/restated --write: what docs/statements has of
-- crates/paper/proofs/Laws/TimerLaws.antt.
use Rattle.std.specs.Prelude.{◌≡◌}
use Rattle.std.proofs.Math.Bool.{true}
use package.Rattle.protocol.specs.Bytes.{Bytes}
use package.Rattle.protocol.specs.Sound.{sound}
use package.Rattle.protocol.specs.Call.{Call}
use package.Rattle.paper.specs.Timer.{Timer}
use mathlib.Core.Path.{◌≡◌ as ◌is-kept◌, refl as by-text}
use package.Rattle.paper.proofs.Laws.TimerLaws as page

module _ (digest : Bytes → Bytes) (book : Bytes) (was : sound digest book ≡ true) where
  pub timer-kept : (call : Call) → Timer digest book call
  timer-kept = page.timer digest book was
