-- Written by tests/restated --write: what docs/statements has of
-- crates/call_laws/specs/PacketKeeping.antt.
use Rattle.std.specs.Prelude.{◌≡◌, List, [], ◌∷◌}
use Rattle.std.proofs.Math.Option.{some, none}
use package.Rattle.protocol.specs.Bytes.{Bytes}
use package.Rattle.protocol.specs.Tests.{first_refusal}
use package.Rattle.protocol.specs.Answer.{Answer, Counts, Delivery, refused, accepted}
use package.Rattle.protocol.specs.Deliver.{deliver_rows}
use package.Rattle.protocol.specs.Packet.{no_frames, counted_in}
use package.Rattle.call_laws.specs.Keeping.{Keeps}
use mathlib.Core.Path.{◌≡◌ as ◌is-kept◌, refl as by-text}
use package.Rattle.call_laws.specs.PacketKeeping as page

module _ (digest : Bytes → Bytes) where
  abbrev Delivers : Bytes → Bytes → Answer Delivery → Bytes → Type 0
  Delivers = page.Delivers digest

  Delivers-kept : Bytes → Bytes → Answer Delivery → Bytes → Type 0
  Delivers-kept book frame (refused number) after =
      (first_refusal (deliver_rows digest book frame) ≡ some number) × (after ≡ book)
  Delivers-kept book frame (accepted news) after =
      (first_refusal (deliver_rows digest book frame) ≡ none) × Keeps digest book frame news after

  same-Delivers : Delivers-kept is-kept page.Delivers digest
  unfolding Delivers-kept page.Delivers
  same-Delivers = by-text

  KeepsAll-kept : Bytes → List Bytes → Counts → Bytes → Type 0
  KeepsAll-kept book [] counts after = (counts ≡ no_frames) × (after ≡ book)
  KeepsAll-kept book (frame ∷ frames) counts after =
      (answer : Answer Delivery) × (next : Bytes) × (later : Counts) ×
      Delivers book frame answer next × KeepsAll-kept next frames later after × (counts ≡ counted_in answer later)

  same-KeepsAll : KeepsAll-kept is-kept page.KeepsAll digest
  unfolding KeepsAll-kept page.KeepsAll
  same-KeepsAll = by-text
