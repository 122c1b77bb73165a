-- Written by tests/restated --write: what docs/statements has of
-- crates/agreement/proofs/Laws/ObserverMetLaws.antt.
use Rattle.std.specs.Prelude.{◌≡◌}
use package.Rattle.protocol.specs.Bytes.{Bytes}
use package.Rattle.agreement.proofs.Laws.MetLaws.{OneBegins}
use package.Rattle.agreement.specs.ObserverLists.{ObservedAgreement}
use package.Rattle.agreement.specs.ObserverMet.{ObservedClaim}
use mathlib.Core.Path.{◌≡◌ as ◌is-kept◌, refl as by-text}
use package.Rattle.agreement.proofs.Laws.ObserverMetLaws as page

module _ (digest : Bytes → Bytes) where
  pub claim_is_observed-kept : ◌≡◌ {A = Type 1} (ObservedClaim digest OneBegins) (ObservedAgreement digest)
  claim_is_observed-kept = page.claim_is_observed digest
