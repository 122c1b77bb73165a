-- FIPS 180-4, sections 5.1.1 and 5.2.1: the padded message, and its blocks of 64 bytes. Assumes nothing.
use Rattle.std.specs.Prelude.{ℕ, zero, suc, ◌-◌, ◌*◌, ◌/◌, ◌%◌, ◌^◌, [], ◌∷◌, ◌++◌, length, take, drop, replicate}
use Rattle.sha256_functions.specs.Bytes.{Bytes}

-- the lowest `count` bytes of a number, the most significant first
unfoldable pub big_endian : ℕ → ℕ → Bytes
big_endian zero number = []
big_endian (suc count) number = number / 256 ^ count % 256 ∷ big_endian count number

unfoldable pub zeros : ℕ → Bytes
zeros count = replicate count 0

-- the least number of zero bytes that, after the byte 0x80, fills the last block up to its byte 56
unfoldable pub zero_count : ℕ → ℕ
zero_count size = (119 - size % 64) % 64

-- section 5.1.1: what follows a message of `size` bytes: a one bit, zero bits, and the number of bits in 64 bits.
-- The standard has no digest from 2 ^ 64 bits on; there the lowest 64 bits of the number are written.
unfoldable pub padding : ℕ → Bytes
padding size = 0x80 ∷ (zeros (zero_count size) ++ big_endian 8 (8 * size))

-- section 5.1.1: the padded message
unfoldable pub padded : Bytes → Bytes
padded message = message ++ padding (length message)

-- section 5.2.1: the block of 64 bytes at `index`, from 0; the standard writes M(index + 1)
unfoldable pub block : Bytes → ℕ → Bytes
block bytes index = take 64 (drop (64 * index) bytes)
