-- What a reader of a packet has not read: the frame at its number and those behind it, or none.
use Rattle.std.specs.Prelude.{ℕ, ◌+◌, ◌/◌, ◌<◌, ◌≤◌, ◌≡◌, [], ◌∷◌, length, drop}
use Rattle.std.proofs.Common.{add-one}
use Rattle.protocol.specs.Bytes.{Bytes}
use Rattle.protocol.specs.Frame.{frame_size}
use Rattle.protocol.specs.Packet.{packet_frames}
use Rattle.protocol.proofs.Laws.PiecesLaws.{pieces_next, pieces_done, length_pieces}
use Rattle.packets.specs.Frames.{frame_at}

module _ (packet : Bytes) where
  pub frames_counted : length (packet_frames packet) ≡ length packet / frame_size
  unfolding packet_frames
  frames_counted = length_pieces frame_size (length packet / frame_size) packet

  pub left_done : (k : ℕ) → length packet / frame_size ≤ k → drop k (packet_frames packet) ≡ []
  unfolding packet_frames
  left_done k end = pieces_done frame_size (length packet / frame_size) packet k end

  pub left_next : (k next : ℕ) → k < length packet / frame_size → next ≡ k + 1 →
      drop k (packet_frames packet) ≡ frame_at packet k ∷ drop next (packet_frames packet)
  unfolding packet_frames
  left_next k next inside on = rw (on, add-one) (pieces_next frame_size (length packet / frame_size) packet k inside)
