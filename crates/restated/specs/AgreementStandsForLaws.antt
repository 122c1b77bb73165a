-- Written by tests/restated --write: what docs/statements has of
-- crates/agreement/proofs/Laws/StandsForLaws.antt.
use Rattle.std.specs.Prelude.{ℕ, ◌≡◌}
use mathlib.Core.List.{List, [], Memᴰ}
use Rattle.std.proofs.Math.Option.{none}
use package.Rattle.protocol.specs.Bytes.{Bytes}
use package.Rattle.agreement.specs.Lists.{Member, delivers, does, writes}
use package.Rattle.agreement.specs.Unpacked.{packet_in}
use mathlib.Core.Path.{◌≡◌ as ◌is-kept◌, refl as by-text}
use package.Rattle.agreement.proofs.Laws.StandsForLaws as page

module _ (digest : Bytes → Bytes) where
  abbrev IsDelivery : (t : ℕ) (frames : List Bytes) (d : Member) → Type 0
  IsDelivery = page.IsDelivery digest

  IsDelivery-kept : (t : ℕ) (frames : List Bytes) (d : Member) (whose : d.replica ≡ t) (no_packet : packet_in d.call ≡ none) (writes_none : writes digest d ≡ []) (reads_none : (does digest d).reads ≡ none) (among : (frame : Bytes) → Memᴰ frame (delivers digest d) → Memᴰ frame frames) →
      IsDelivery t frames d
  IsDelivery-kept t frames d x0 x1 x2 x3 x4 = record { whose = x0; no_packet = x1; writes_none = x2; reads_none = x3; among = x4 }
