-- The tests of a block in the groups in which the code makes them.
use Rattle.std.specs.Prelude.{ℕ, ◌+◌, ◌*◌, Bool, [], ◌∷◌, drop, eqb, leb, ltb}
use Rattle.protocol.specs.Bytes.{Bytes, part, is_zero}
use Rattle.protocol.specs.Tests.{all_of, implies}
use Rattle.protocol.specs.Block.{block_entries, entry_size, block_height, parent_height, entry_count, parent_digest}

-- the first five bytes of a block of height `h`
unfoldable pub block_fields : ℕ → Bytes → Bool
block_fields h block = all_of
    (eqb (block_height block) h ∷
    ltb (parent_height block) h ∷
    leb (entry_count block) block_entries ∷ [])

-- no digest without a parent
unfoldable pub block_parent : Bytes → Bool
block_parent block = implies (eqb (parent_height block) 0) (is_zero (parent_digest block))

-- the bytes of a block that nothing uses, and the parent's digest
unfoldable pub block_rest : Bytes → Bool
block_rest block = all_of
    (is_zero (part block 5 11) ∷
    block_parent block ∷
    is_zero (drop (48 + entry_size * entry_count block) block) ∷ [])
