-- The first entries of a block.
use Rattle.std.specs.Prelude.{ℕ, List, drop}
use Rattle.protocol.specs.Bytes.{Bytes, pieces}

-- the entries in the first `count` places of a block; all of them where `count` is the block's own count
abbrev pub first_entries : ℕ → Bytes → List Bytes
first_entries count block = pieces 16 count (drop 48 block)
