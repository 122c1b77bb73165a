-- Written by tests/restated --write: what docs/statements has of
-- crates/agreement/proofs/Laws/WithoutObserversLaws.antt.
use package.Rattle.protocol.specs.Bytes.{Bytes}
use package.Rattle.agreement.specs.Lists.{Agreement}
use package.Rattle.agreement.specs.ObserverLists.{ObservedAgreement}
use mathlib.Core.Path.{◌≡◌ as ◌is-kept◌, refl as by-text}
use package.Rattle.agreement.proofs.Laws.WithoutObserversLaws as page

pub without_observers-kept : (digest : Bytes → Bytes) → ObservedAgreement digest → Agreement digest
without_observers-kept = page.without_observers
