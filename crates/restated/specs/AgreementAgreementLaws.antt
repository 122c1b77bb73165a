-- Written by tests/restated --write: what docs/statements has of
-- crates/agreement/proofs/Laws/AgreementLaws.antt.
use package.Rattle.protocol.specs.Bytes.{Bytes}
use package.Rattle.agreement.specs.Lists.{Agreement}
use package.Rattle.agreement.specs.ObserverLists.{ObservedAgreement}
use mathlib.Core.Path.{◌≡◌ as ◌is-kept◌, refl as by-text}
use package.Rattle.agreement.proofs.Laws.AgreementLaws as page

pub observed_agreement-kept : (digest : Bytes → Bytes) → ObservedAgreement digest
observed_agreement-kept = page.observed_agreement

pub agreement-kept : (digest : Bytes → Bytes) → Agreement digest
agreement-kept = page.agreement
