-- The frames of a packet, by number.
use Rattle.std.specs.Prelude.{ℕ, ◌*◌}
use Rattle.protocol.specs.Bytes.{Bytes, part}
use Rattle.protocol.specs.Frame.{frame_size}

-- frame `k` of a packet, counted from 0
abbrev pub frame_at : Bytes → ℕ → Bytes
frame_at packet k = part packet (frame_size * k) frame_size
