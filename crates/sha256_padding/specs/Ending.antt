-- The block in which a message ends, before its length is written. Assumes nothing.
use Rattle.std.specs.Prelude.{◌-◌, ◌∷◌, ◌++◌, length}
use Rattle.sha256_functions.specs.Bytes.{Bytes}
use Rattle.sha256_padding.specs.Padding.{zeros}

-- the last bytes of a message, fewer than a block, with the byte 0x80 and zeros after them
unfoldable pub opened : Bytes → Bytes
opened rest = rest ++ (0x80 ∷ zeros (63 - length rest))
