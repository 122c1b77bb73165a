-- FIPS 180-4, sections 5.3.3 and 6.2.2: the hash value over all blocks of the padded message, and the digest. Assumes
-- nothing.
use Rattle.std.specs.Prelude.{ℕ, zero, suc, ◌/◌, List, [], ◌∷◌, ◌++◌, length}
use Rattle.sha256.specs.Bytes.{Bytes}
use Rattle.sha256.specs.Compression.{compression}
use Rattle.sha256_padding.specs.Padding.{big_endian, padded, block}

-- section 5.3.3: the initial hash value H(0)
unfoldable pub initial_hash : List ℕ
initial_hash =
    0x6a09e667 ∷ 0xbb67ae85 ∷ 0x3c6ef372 ∷ 0xa54ff53a ∷ 0x510e527f ∷ 0x9b05688c ∷ 0x1f83d9ab ∷ 0x5be0cd19 ∷ []

-- the hash value after the first `count` blocks, which the standard writes H(count), where `hash` is H(0)
unfoldable pub hash_blocks : List ℕ → Bytes → ℕ → List ℕ
hash_blocks hash bytes zero = hash
hash_blocks hash bytes (suc count) = compression (hash_blocks hash bytes count) (block bytes count)

-- the hash value after all N blocks; bytes behind the last whole block count for nothing
unfoldable pub hash_all : List ℕ → Bytes → List ℕ
hash_all hash bytes = hash_blocks hash bytes (length bytes / 64)

-- words as bytes, four each, the most significant first
unfoldable pub words_bytes : List ℕ → Bytes
words_bytes [] = []
words_bytes (word ∷ words) = big_endian 4 word ++ words_bytes words

-- SHA-256 of a message: the last hash value's eight words, from the first to the last
unfoldable pub sha256 : Bytes → Bytes
sha256 message = words_bytes (hash_all initial_hash (padded message))
