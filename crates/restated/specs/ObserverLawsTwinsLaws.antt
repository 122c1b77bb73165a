-- Written by tests/restated --write: what docs/statements has of
-- crates/observer_laws/proofs/Laws/TwinsLaws.antt.
use package.Rattle.protocol.specs.Bytes.{Bytes}
use package.Rattle.observer_laws.specs.Twins.{Twins, ObserverIdles}
use mathlib.Core.Path.{◌≡◌ as ◌is-kept◌, refl as by-text}
use package.Rattle.observer_laws.proofs.Laws.TwinsLaws as page

module _ (digest : Bytes → Bytes) where
  pub twins-kept : Twins digest
  twins-kept = page.twins digest

  pub observer_idles-kept : ObserverIdles digest
  observer_idles-kept = page.observer_idles digest
