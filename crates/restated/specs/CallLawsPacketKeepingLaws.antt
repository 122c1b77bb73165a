-- Written by tests/restated --write: what docs/statements has of
-- crates/call_laws/proofs/Laws/PacketKeepingLaws.antt.
use Rattle.std.specs.Prelude.{◌≡◌}
use package.Rattle.protocol.specs.Bytes.{Bytes}
use package.Rattle.protocol.specs.Answer.{Counts, accepted}
use package.Rattle.protocol.specs.Packet.{packet_frames, packet_call}
use package.Rattle.call_laws.specs.PacketKeeping.{KeepsAll}
use mathlib.Core.Path.{◌≡◌ as ◌is-kept◌, refl as by-text}
use package.Rattle.call_laws.proofs.Laws.PacketKeepingLaws as page

module _ (digest : Bytes → Bytes) where
  pub packet_keeps-kept : (book packet : Bytes) (counts : Counts) → (packet_call digest book packet).answer ≡ accepted counts →
      KeepsAll digest book (packet_frames packet) counts (packet_call digest book packet).book
  packet_keeps-kept = page.packet_keeps digest
