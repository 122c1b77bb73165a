-- Written by tests/restated --write: what docs/statements has of
-- crates/agreement/proofs/Laws/StandsForLaws.antt.
use Rattle.std.specs.Prelude.{◌≡◌}
use mathlib.Core.List.{List, []}
use package.Rattle.protocol.specs.Bytes.{Bytes}
use package.Rattle.protocol.specs.Packet.{packet_frames}
use package.Rattle.protocol.specs.Call.{packet_delivery}
use package.Rattle.agreement.specs.Lists.{Member, delivers, does}
use Rattle.std.proofs.Math.Option.{some}
use package.Rattle.protocol.specs.Deliver.{deliver_all}
use package.Rattle.protocol.specs.Packet.{accepted_of}
use package.Rattle.agreement.specs.Unpacked.{deliveries_of, stands_for}
use mathlib.Core.Path.{◌≡◌ as ◌is-kept◌, refl as by-text}
use package.Rattle.agreement.proofs.Laws.StandsForLaws as page

module _ (digest : Bytes → Bytes) where
  module _ (m : Member) (packet : Bytes) (is : m.call ≡ packet_delivery packet) where
    abbrev frames : List Bytes
    frames = packet_frames packet

    pub stands_for_lem-kept : (Q : List Member → List Bytes → Bytes → Type 0) → Q [] [] m.book →
        Q (deliveries_of digest m.replica m.book frames) (accepted_of digest m.book frames)
        (deliver_all digest m.book frames) →
        Q (stands_for digest m (some packet)) (delivers digest m) (does digest m).book
    stands_for_lem-kept = page.stands_for_lem digest m packet is
