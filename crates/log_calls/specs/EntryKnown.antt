-- When Submit knows an entry already.
use Rattle.std.specs.Prelude.{Bool, ◌||◌}
use Rattle.protocol.specs.Bytes.{Bytes, holds}
use Rattle.protocol.specs.State.{State, pending}
use Rattle.protocol.specs.Sound.{log}

-- an entry is pending, or the log has it
abbrev pub is_entry_known : State → Bytes → Bool
is_entry_known s entry = holds entry (pending s) || holds entry (log s)
