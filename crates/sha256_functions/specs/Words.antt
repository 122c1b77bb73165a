-- FIPS 180-4, sections 2.2.2 and 3.2: words of 32 bits as numbers below 2 ^ 32, and the operations on them. Assumes
-- nothing.
use Rattle.std.specs.Prelude.{ℕ, ◌+◌, ◌-◌, ◌*◌, ◌/◌, ◌%◌, ◌^◌}
use Rattle.std.specs.Int.Bits.{bit_and, bit_or, bit_xor}

infixl 70 ◌&◌
infixl 60 ◌⊕◌
-- section 2.2.2: bitwise AND
unfoldable pub ◌&◌ : ℕ → ℕ → ℕ
x & y = bit_and x y

-- section 2.2.2: bitwise XOR
unfoldable pub ◌⊕◌ : ℕ → ℕ → ℕ
x ⊕ y = bit_xor x y

-- section 2.2.2: the complement, each of the 32 bits flipped
unfoldable pub complement : ℕ → ℕ
complement x = x ⊕ (2 ^ 32 - 1)

-- section 2.2.2: addition modulo 2 ^ 32
unfoldable pub add : ℕ → ℕ → ℕ
add x y = (x + y) % 2 ^ 32

-- section 2.2.2: left shift, where the bits beyond the word are dropped
unfoldable pub shl : ℕ → ℕ → ℕ
shl n x = (x * 2 ^ n) % 2 ^ 32

-- section 3.2, operation 3: SHR, the right shift by n bits
unfoldable pub shr : ℕ → ℕ → ℕ
shr n x = x / 2 ^ n

-- section 3.2, operation 4: ROTR, the rotation to the right by n bits
unfoldable pub rotr : ℕ → ℕ → ℕ
rotr n x = bit_or (shr n x) (shl (32 - n) x)
