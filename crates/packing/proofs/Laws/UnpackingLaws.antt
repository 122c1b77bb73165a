-- The header's functions give back what was packed, for every answer of every call.
use Rattle.std.specs.Prelude.{ℕ, ◌≡◌, length}
use Rattle.protocol.specs.Bytes.{Bytes}
use Rattle.protocol.specs.Open.{Opening, open_call}
use Rattle.protocol.specs.Deliver.{deliver_call}
use Rattle.protocol.specs.Packet.{packet_call}
use Rattle.protocol.specs.Signal.{signal_call}
use Rattle.protocol.specs.Submit.{submit_call}
use Rattle.protocol.specs.Fetch.{fetch_call}
use Rattle.protocol.specs.Read.{size_call}
use Rattle.protocol.specs.Move.{move_call}
use Rattle.packing.specs.Packing.{packed_done, packed_delivery, packed_packet, packed_move, packed_size}
use Rattle.packing.specs.Unpacking.{unpacked_frames}
use Rattle.packing.specs.Unpacking.{DoneRead, DeliveryRead, PacketRead, MoveRead, SizeRead}
use Rattle.packing.proofs.Laws.PackingLaws.{move_height_low}
use Rattle.packing.proofs.Laws.NumberedLaws.{open_numbered, deliver_numbered, packet_numbered, signal_numbered}
use Rattle.packing.proofs.Laws.NumberedLaws.{submit_numbered, fetch_numbered, size_numbered, move_numbered}
use Rattle.packing.proofs.Laws.ReadBackLaws.{done_read_back, delivery_read_back, packet_read_back}
use Rattle.packing.proofs.Laws.ReadBackLaws.{move_read_back, size_read_back}
use Rattle.packing.proofs.Laws.FrameCountLaws.{move_counted}

-- ---- each call
pub open_read : (way : Opening) (book : Bytes) (n own heights : ℕ) (leaders : Bytes) →
    DoneRead (packed_done (open_call way book n own heights leaders).answer)
    (open_call way book n own heights leaders).answer
open_read way book n own heights leaders = done_read_back _ (open_numbered way book n own heights leaders)

module _ (digest : Bytes → Bytes) (book : Bytes) where
  pub deliver_read : (frame : Bytes) →
      DeliveryRead (packed_delivery (deliver_call digest book frame).answer) (deliver_call digest book frame).answer
  deliver_read frame = delivery_read_back _ (deliver_numbered digest book frame)

  pub packet_read : (packet : Bytes) →
      PacketRead (packed_packet (packet_call digest book packet).answer) (packet_call digest book packet).answer
  packet_read packet = packet_read_back _ (packet_numbered digest book packet)

  pub signal_read : (h : ℕ) →
      DoneRead (packed_done (signal_call digest book h).answer) (signal_call digest book h).answer
  signal_read h = done_read_back _ (signal_numbered digest book h)

  pub submit_read : (entry : Bytes) →
      DoneRead (packed_done (submit_call digest book entry).answer) (submit_call digest book entry).answer
  submit_read entry = done_read_back _ (submit_numbered digest book entry)

  pub fetch_read : (k h : ℕ) (reply : Bytes) →
      DoneRead (packed_done (fetch_call digest book k h reply).answer) (fetch_call digest book k h reply).answer
  fetch_read k h reply = done_read_back _ (fetch_numbered digest book k h reply)

  pub size_read : SizeRead (packed_size (size_call digest book)) (size_call digest book)
  size_read = size_read_back _ (size_numbered digest book)

  pub move_read : (reply : Bytes) →
      MoveRead (packed_move (move_call digest book reply).answer) (move_call digest book reply).answer
  move_read reply = move_read_back _ (move_numbered digest book reply) (move_height_low digest book reply)

module _ (digest : Bytes → Bytes) where
  pub frames_read : (book reply : Bytes) →
      unpacked_frames (packed_move (move_call digest book reply).answer) ≡ length (move_call digest book reply).frames
  unfolding unpacked_frames
  frames_read book reply =
      let back = move_read digest book reply in
      rw (back.move, back.finalize) (move_counted digest book reply)
