-- `frame_at` meets its contract: the part that it lends is that frame.
use Rattle.std.proofs.Common.{◌≡◌, ◌+◌, ◌-◌, ℕ, arith}
use Rattle.protocol.specs.Bytes.{part}
use Rattle.packets.proofs.reader.frame_at.Goals as goal

from_on : (start count : ℕ) → start + count - start ≡ count
from_on start count = omega arith

pub returns : goal.returns
unfolding part
returns c = rw (from_on _ 224)
