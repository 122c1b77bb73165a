-- The second frame of a pass, as the code writes it.
use Rattle.std.specs.Prelude.{Bool, cond}
use Rattle.protocol.specs.Bytes.{Bytes, zeros}
use Rattle.protocol.specs.Frame.{finalize}
use Rattle.protocol.specs.State.{State}

-- the finalize statement for the current height, or zero bytes
abbrev pub finalize_on : Bool → State → Bytes
finalize_on finalizes s = cond finalizes (finalize s.own s.current) (zeros 224)
