-- The number of the interface for C.
use Rattle.std.specs.Prelude.{ℕ}

-- goes up with each call that is added, with each change to a call's arguments or to what it may answer, and where a
-- replica would read another register from the same book; the header's MAVUNILAI_INTERFACE with it
unfoldable pub interface_number : ℕ
interface_number = 7
