-- What a reader of a packet has not read.
use Rattle.std.specs.Prelude.{List, drop}
use Rattle.protocol.specs.Bytes.{Bytes}
use Rattle.protocol.specs.Packet.{packet_frames}
use Rattle.packets.specs.declared.reader.Packet.{Packet}

-- the frames from its next one on
abbrev pub frames_left : Packet → List Bytes
frames_left reader = drop reader.next (packet_frames reader.frames.now)
