-- Written by tests/restated --write: what docs/statements has of
-- crates/agreement/proofs/Laws/ObserverUnpacksLaws.antt.
use Rattle.std.specs.Prelude.{◌≡◌}
use mathlib.Core.List.{List, Memᴰ}
use Rattle.std.proofs.Math.Option.{none}
use package.Rattle.protocol.specs.Bytes.{Bytes}
use package.Rattle.agreement.specs.Lists.{Member}
use package.Rattle.agreement.specs.Unpacked.{packet_in}
use package.Rattle.agreement.specs.ObserverLists.{AnyMember, ObservedAgreement}
use package.Rattle.agreement.specs.ObserverLists.{of_replica}
use package.Rattle.agreement.specs.ObserverUnpacked.{ObservedAgreementOn, ObserverUnpacks}
use mathlib.Core.Path.{◌≡◌ as ◌is-kept◌, refl as by-text}
use package.Rattle.agreement.proofs.Laws.ObserverUnpacksLaws as page

module _ (digest : Bytes → Bytes) (list : List AnyMember) where
  pub observer_unpacks-kept : ObserverUnpacks digest list
  observer_unpacks-kept = page.observer_unpacks digest list

pub observers_without_packets-kept : (digest : Bytes → Bytes) →
    ((list : List AnyMember) → ((m : Member) → Memᴰ (of_replica m) list → packet_in m.call ≡ none) →
    ObservedAgreementOn digest list list) → ObservedAgreement digest
observers_without_packets-kept = page.observers_without_packets
