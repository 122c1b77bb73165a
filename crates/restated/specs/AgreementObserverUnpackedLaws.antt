-- Written by tests/restated --write: what docs/statements has of
-- crates/agreement/proofs/Laws/ObserverUnpackedLaws.antt.
use mathlib.Core.List.{List}
use package.Rattle.protocol.specs.Bytes.{Bytes}
use package.Rattle.agreement.specs.ObserverLists.{AnyMember, ObservedAgreement}
use package.Rattle.agreement.specs.ObserverUnpacked.{ObservedAgreementOn, all_unpacked}
use mathlib.Core.Path.{◌≡◌ as ◌is-kept◌, refl as by-text}
use package.Rattle.agreement.proofs.Laws.ObserverUnpackedLaws as page

module _ (digest : Bytes → Bytes) where
  pub observed_deliveries_alone-kept : ObservedAgreement digest → (list : List AnyMember) →
      ObservedAgreementOn digest (all_unpacked digest list) list
  observed_deliveries_alone-kept = page.observed_deliveries_alone digest
