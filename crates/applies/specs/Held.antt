-- The second half of move 5's test, as the code makes it.
use Rattle.std.specs.Prelude.{Bool, ◌&&◌}
use Rattle.protocol.specs.Bytes.{Bytes}
use Rattle.protocol.specs.State.{State, at, holds_proposal}
use Rattle.protocol.specs.View.{extends}
use Rattle.protocol.specs.Sound.{view}

-- a proposal of the current height is held, and extends a linked height
unfoldable pub held_extends : (Bytes → Bytes) → State → Bool
held_extends digest s = holds_proposal (at s s.current) && extends digest (view s) s.current
    (at s s.current).proposal
