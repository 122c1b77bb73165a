-- Written by tests/restated --write: what docs/statements has of
-- crates/observer_laws/proofs/Laws/TwinsMetLaws.antt.
use package.Rattle.protocol.specs.Bytes.{Bytes}
use package.Rattle.observer_laws.specs.TwinsMet.{TwinsMet}
use mathlib.Core.Path.{◌≡◌ as ◌is-kept◌, refl as by-text}
use package.Rattle.observer_laws.proofs.Laws.TwinsMetLaws as page

module _ (digest : Bytes → Bytes) where
  pub twins_met-kept : TwinsMet digest
  twins_met-kept = page.twins_met digest
