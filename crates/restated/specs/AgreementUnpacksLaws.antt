-- Written by tests/restated --write: what docs/statements has of
-- crates/agreement/proofs/Laws/UnpacksLaws.antt.
use Rattle.std.specs.Prelude.{◌≡◌}
use mathlib.Core.List.{List, Memᴰ}
use Rattle.std.proofs.Math.Option.{none}
use package.Rattle.protocol.specs.Bytes.{Bytes}
use package.Rattle.agreement.specs.Lists.{Agreement, Member}
use package.Rattle.agreement.specs.Unpacked.{AgreementOn, Unpacks, packet_in, unpacked}
use mathlib.Core.Path.{◌≡◌ as ◌is-kept◌, refl as by-text}
use package.Rattle.agreement.proofs.Laws.UnpacksLaws as page

module _ (digest : Bytes → Bytes) (list : List Member) where
  pub unpacks-kept : Unpacks digest list
  unpacks-kept = page.unpacks digest list

  pub deliveries_alone-kept : Agreement digest → AgreementOn digest (unpacked digest list) list
  deliveries_alone-kept = page.deliveries_alone digest list

pub without_packets-kept : (digest : Bytes → Bytes) →
    ((list : List Member) → ((m : Member) → Memᴰ m list → packet_in m.call ≡ none) →
    AgreementOn digest list list) → Agreement digest
without_packets-kept = page.without_packets
