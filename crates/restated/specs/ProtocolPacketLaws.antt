-- Written by tests/restated --write: what docs/statements has of
-- crates/protocol/proofs/Laws/PacketLaws.antt.
use Prim.Native.Nat.{◌+◌, ◌*◌}
use Rattle.std.specs.Prelude.{◌≡◌}
use mathlib.Core.List.{List, map}
use Rattle.std.proofs.Math.ListN.{length}
use package.Rattle.protocol.specs.Bytes.{Bytes}
use package.Rattle.protocol.specs.Frame.{frame_size}
use package.Rattle.protocol.specs.Answer.{Counts, accepted}
use package.Rattle.protocol.specs.Packet.{packet_frames, counted, count_all, accepted_of}
use package.Rattle.protocol.specs.Packet.{packet_call}
use package.Rattle.protocol.specs.Call.{delivery, book_after_all}
use mathlib.Core.Path.{◌≡◌ as ◌is-kept◌, refl as by-text}
use package.Rattle.protocol.proofs.Laws.PacketLaws as page

module _ (digest : Bytes → Bytes) where
  pub accepted_counted-kept : (book : Bytes) (frames : List Bytes) →
      length (accepted_of digest book frames) ≡
      (count_all digest book frames).fresh_frames + (count_all digest book frames).known_frames
  accepted_counted-kept = page.accepted_counted digest

module _ (digest : Bytes → Bytes) where
  module _ (book packet : Bytes) where
    module _ (counts : Counts) (unrefused : (packet_call digest book packet).answer ≡ accepted counts) where
      pub packet_sums-kept : frame_size * counted counts ≡ length packet
      packet_sums-kept = page.packet_sums digest book packet counts unrefused

      pub packet_delivered-kept : (packet_call digest book packet).book ≡
          book_after_all digest book (map delivery (packet_frames packet))
      packet_delivered-kept = page.packet_delivered digest book packet counts unrefused
