-- Written by tests/restated --write: what docs/statements has of
-- crates/observer_laws/proofs/Laws/KindsApartLaws.antt.
use Rattle.std.specs.Prelude.{◌≡◌, true, false}
use package.Rattle.protocol.specs.Bytes.{Bytes}
use package.Rattle.protocol.specs.Sound.{sound}
use package.Rattle.protocol.specs.ObserverSound.{observer_sound}
use mathlib.Core.Path.{◌≡◌ as ◌is-kept◌, refl as by-text}
use package.Rattle.observer_laws.proofs.Laws.KindsApartLaws as page

module _ (digest : Bytes → Bytes) (book : Bytes) where
  pub replica_no_observer-kept : sound digest book ≡ true → observer_sound digest book ≡ false
  replica_no_observer-kept = page.replica_no_observer digest book
