-- Written by tests/restated --write: what docs/statements has of
-- crates/observer_laws/proofs/Laws/TwinsMovedLaws.antt.
use package.Rattle.protocol.specs.Bytes.{Bytes}
use package.Rattle.observer_laws.specs.Twins.{TwinsMoved}
use mathlib.Core.Path.{◌≡◌ as ◌is-kept◌, refl as by-text}
use package.Rattle.observer_laws.proofs.Laws.TwinsMovedLaws as page

pub twins_moved-kept : (digest : Bytes → Bytes) → TwinsMoved digest
twins_moved-kept = page.twins_moved
