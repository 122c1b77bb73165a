-- Blocks (document 01: pages), the 176 bytes that replicas vote into one order.
use Rattle.std.specs.Prelude.{ℕ, ◌+◌, ◌-◌, ◌*◌, Bool, List, [], ◌∷◌, ◌++◌, length, drop, eqb, leb, ltb}
use Rattle.protocol.specs.Bytes.{Bytes, byte_at, word16, le16, part, zeros, is_zero, join, pieces}
use Rattle.protocol.specs.Tests.{all_of, implies}

-- the largest number of heights of a book of any edition
abbrev pub maximum_heights : ℕ
maximum_heights = 1000

abbrev pub block_size : ℕ
block_size = 176

abbrev pub digest_size : ℕ
digest_size = 32

-- an entry is 16 free bytes, and a block has at most eight
abbrev pub entry_size : ℕ
entry_size = 16

abbrev pub block_entries : ℕ
block_entries = 8

unfoldable pub block_height : Bytes → ℕ
block_height block = word16 block 0

-- the height of the parent block (document 01: back height, j)
unfoldable pub parent_height : Bytes → ℕ
parent_height block = word16 block 2

unfoldable pub entry_count : Bytes → ℕ
entry_count block = byte_at block 4

-- the digest of the parent block (document 01: back digest)
unfoldable pub parent_digest : Bytes → Bytes
parent_digest block = part block 16 digest_size

unfoldable pub entries : Bytes → List Bytes
entries block = pieces entry_size (entry_count block) (drop 48 block)

-- a block as it must be at height `h`
unfoldable pub block_well_formed : ℕ → Bytes → Bool
block_well_formed h block = all_of
    (eqb (length block) block_size ∷
    eqb (block_height block) h ∷
    ltb (parent_height block) h ∷
    leb (entry_count block) block_entries ∷
    is_zero (part block 5 11) ∷
    implies (eqb (parent_height block) 0) (is_zero (parent_digest block)) ∷
    is_zero (drop (48 + entry_size * entry_count block) block) ∷ [])

-- the block of height `h` on a parent, with these entries
unfoldable pub new_block : ℕ → ℕ → Bytes → List Bytes → Bytes
new_block h parent digest es =
    (le16 h ++ (le16 parent ++ (length es ∷ zeros 11))) ++
    (digest ++ (join es ++ zeros (entry_size * block_entries - entry_size * length es)))

-- the entries of a list of blocks, in order
unfoldable pub all_entries : List Bytes → List Bytes
all_entries [] = []
all_entries (block ∷ blocks) = entries block ++ all_entries blocks
