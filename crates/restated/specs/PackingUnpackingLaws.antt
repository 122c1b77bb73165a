-- Written by tests/restated --write: what docs/statements has of
-- crates/packing/proofs/Laws/UnpackingLaws.antt.
use Rattle.std.specs.Prelude.{ℕ, ◌≡◌, length}
use package.Rattle.protocol.specs.Bytes.{Bytes}
use package.Rattle.protocol.specs.Open.{Opening, open_call}
use package.Rattle.protocol.specs.Deliver.{deliver_call}
use package.Rattle.protocol.specs.Packet.{packet_call}
use package.Rattle.protocol.specs.Signal.{signal_call}
use package.Rattle.protocol.specs.Submit.{submit_call}
use package.Rattle.protocol.specs.Fetch.{fetch_call}
use package.Rattle.protocol.specs.Read.{size_call}
use package.Rattle.protocol.specs.Move.{move_call}
use package.Rattle.packing.specs.Packing.{packed_done, packed_delivery, packed_packet, packed_move, packed_size}
use package.Rattle.packing.specs.Unpacking.{unpacked_frames}
use package.Rattle.packing.specs.Unpacking.{DoneRead, DeliveryRead, PacketRead, MoveRead, SizeRead}
use mathlib.Core.Path.{◌≡◌ as ◌is-kept◌, refl as by-text}
use package.Rattle.packing.proofs.Laws.UnpackingLaws as page

pub open_read-kept : (way : Opening) (book : Bytes) (n own heights : ℕ) (leaders : Bytes) →
    DoneRead (packed_done (open_call way book n own heights leaders).answer)
    (open_call way book n own heights leaders).answer
open_read-kept = page.open_read

module _ (digest : Bytes → Bytes) (book : Bytes) where
  pub deliver_read-kept : (frame : Bytes) →
      DeliveryRead (packed_delivery (deliver_call digest book frame).answer) (deliver_call digest book frame).answer
  deliver_read-kept = page.deliver_read digest book

  pub packet_read-kept : (packet : Bytes) →
      PacketRead (packed_packet (packet_call digest book packet).answer) (packet_call digest book packet).answer
  packet_read-kept = page.packet_read digest book

  pub signal_read-kept : (h : ℕ) →
      DoneRead (packed_done (signal_call digest book h).answer) (signal_call digest book h).answer
  signal_read-kept = page.signal_read digest book

  pub submit_read-kept : (entry : Bytes) →
      DoneRead (packed_done (submit_call digest book entry).answer) (submit_call digest book entry).answer
  submit_read-kept = page.submit_read digest book

  pub fetch_read-kept : (k h : ℕ) (reply : Bytes) →
      DoneRead (packed_done (fetch_call digest book k h reply).answer) (fetch_call digest book k h reply).answer
  fetch_read-kept = page.fetch_read digest book

  pub size_read-kept : SizeRead (packed_size (size_call digest book)) (size_call digest book)
  size_read-kept = page.size_read digest book

  pub move_read-kept : (reply : Bytes) →
      MoveRead (packed_move (move_call digest book reply).answer) (move_call digest book reply).answer
  move_read-kept = page.move_read digest book

module _ (digest : Bytes → Bytes) where
  pub frames_read-kept : (book reply : Bytes) →
      unpacked_frames (packed_move (move_call digest book reply).answer) ≡ length (move_call digest book reply).frames
  frames_read-kept = page.frames_read digest
