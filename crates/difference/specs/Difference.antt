-- How two byte strings differ, as one number.
use Rattle.std.specs.Prelude.{ℕ, zero, suc}
use Rattle.std.specs.Int.Bits.{bit_or, bit_xor}
use Rattle.protocol.specs.Bytes.{Bytes, byte_at}

-- the bits in which the first `count` bytes of two strings differ, gathered: 0 if and only if those bytes agree
unfoldable pub difference : Bytes → Bytes → ℕ → ℕ
difference a b zero = 0
difference a b (suc i) = bit_or (difference a b i) (bit_xor (byte_at a i) (byte_at b i))
