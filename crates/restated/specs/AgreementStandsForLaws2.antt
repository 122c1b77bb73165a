-- Written by tests/restated --write: what docs/statements has of
-- crates/agreement/proofs/Laws/StandsForLaws.antt.
use Rattle.std.specs.Prelude.{ℕ, ◌≡◌}
use mathlib.Core.List.{List, [], Memᴰ}
use Rattle.std.proofs.Math.Option.{none}
use package.Rattle.protocol.specs.Bytes.{Bytes}
use package.Rattle.protocol.specs.Packet.{packet_frames}
use package.Rattle.protocol.specs.Call.{packet_delivery}
use package.Rattle.agreement.specs.Lists.{Member, delivers, does, writes}
use package.Rattle.agreement.specs.Unpacked.{packet_in}
use package.Rattle.protocol.specs.Packet.{accepted_of}
use package.Rattle.agreement.specs.Unpacked.{deliveries_of}
use mathlib.Core.Path.{◌≡◌ as ◌is-kept◌, refl as by-text}
use package.Rattle.agreement.proofs.Laws.StandsForLaws as page

module _ (digest : Bytes → Bytes) where
  abbrev IsDelivery : (t : ℕ) (frames : List Bytes) (d : Member) → Type 0
  IsDelivery = page.IsDelivery digest

  pub is_delivery-kept : (t : ℕ) (book : Bytes) (frames : List Bytes) (d : Member) →
      Memᴰ d (deliveries_of digest t book frames) → IsDelivery t (accepted_of digest book frames) d
  is_delivery-kept = page.is_delivery digest
