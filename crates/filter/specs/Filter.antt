-- The filter: a key, then a bit for each place, and the place of an entry.
use Rattle.std.specs.Prelude.{ℕ, zero, suc, ◌+◌, ◌-◌, ◌*◌, ◌/◌, ◌%◌, ◌<◌, ◌≡◌, Bool, true, List, length}
use Rattle.protocol.specs.Bytes.{Bytes, byte_at, word16, holds}
use Rattle.protocol.specs.Mask.{in_mask}

-- the 32-bit number at `i`, its low byte first
unfoldable pub word32 : Bytes → ℕ → ℕ
word32 bytes i = word16 bytes i + 65536 * word16 bytes (i + 2)

-- the first `count` words of an entry, each times a number of the key with which the filter begins
unfoldable pub mixed : Bytes → Bytes → ℕ → ℕ
mixed filter e zero = 0
mixed filter e (suc i) = mixed filter e i + word32 filter (4 * i) * word16 e (2 * i)

-- The place of an entry. Any function of the bytes would be right; what it costs goes by how many entries share a bit.
-- With a key that nobody knew who chose the entries, two of them share one by chance alone: the modulus is a prime, and
-- larger than any word.
unfoldable pub place_of : Bytes → Bytes → ℕ
place_of filter e = mixed filter e 8 % 4294967291

-- where the byte of a place is in a filter of this size
unfoldable pub byte_of : ℕ → ℕ → ℕ
byte_of size place = 32 + place / 8 % (size - 32)

-- whether the bit of a place is set
unfoldable pub is_set : Bytes → ℕ → Bool
is_set filter place = in_mask (byte_at filter (byte_of (length filter) place)) (place % 8)

-- the filter has the bit of each of these entries set
pub record Marked (filter : Bytes) (es : List Bytes) : Type 0 where
  pub some : 32 < length filter
  pub marks : (x : Bytes) → holds x es ≡ true → is_set filter (place_of filter x) ≡ true
