-- `has_room` meets its contract: it compares with 36 bytes for each height and for height 0.
use Prim.Native.Nat.{ℕ, ◌+◌, ◌*◌}
use mathlib.Core.Path.{ap}
use lib.Dec.{leb}
use Rattle.memory.proofs.has_room.Goals as goal

pub returns : goal.returns
returns g c = ap (λ (h : ℕ). leb (36 * (h + 1)) c.args.size) c.heights.ensures.0
