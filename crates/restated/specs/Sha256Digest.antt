-- Written by tests/restated --write: what docs/statements has of
-- crates/sha256/specs/Digest.antt.
use Rattle.std.specs.Prelude.{ℕ, zero, suc, ◌/◌, List, [], ◌∷◌, ◌++◌, length}
use package.Rattle.sha256.specs.Bytes.{Bytes}
use package.Rattle.sha256.specs.Compression.{compression}
use package.Rattle.sha256_padding.specs.Padding.{big_endian, padded, block}
use package.Rattle.sha256.specs.Digest.{initial_hash, hash_blocks, hash_all, words_bytes}
use mathlib.Core.Path.{◌≡◌ as ◌is-kept◌, refl as by-text}
use package.Rattle.sha256.specs.Digest as page

initial_hash-kept : List ℕ
initial_hash-kept =
    0x6a09e667 ∷ 0xbb67ae85 ∷ 0x3c6ef372 ∷ 0xa54ff53a ∷ 0x510e527f ∷ 0x9b05688c ∷ 0x1f83d9ab ∷ 0x5be0cd19 ∷ []

same-initial_hash : initial_hash-kept is-kept page.initial_hash
unfolding initial_hash-kept page.initial_hash
same-initial_hash = by-text

hash_blocks-kept : List ℕ → Bytes → ℕ → List ℕ
hash_blocks-kept hash bytes zero = hash
hash_blocks-kept hash bytes (suc count) = compression (hash_blocks-kept hash bytes count) (block bytes count)

same-hash_blocks : hash_blocks-kept is-kept page.hash_blocks
unfolding hash_blocks-kept page.hash_blocks
same-hash_blocks = by-text

hash_all-kept : List ℕ → Bytes → List ℕ
hash_all-kept hash bytes = hash_blocks hash bytes (length bytes / 64)

same-hash_all : hash_all-kept is-kept page.hash_all
unfolding hash_all-kept page.hash_all
same-hash_all = by-text

words_bytes-kept : List ℕ → Bytes
words_bytes-kept [] = []
words_bytes-kept (word ∷ words) = big_endian 4 word ++ words_bytes-kept words

same-words_bytes : words_bytes-kept is-kept page.words_bytes
unfolding words_bytes-kept page.words_bytes
same-words_bytes = by-text

sha256-kept : Bytes → Bytes
sha256-kept message = words_bytes (hash_all initial_hash (padded message))

same-sha256 : sha256-kept is-kept page.sha256
unfolding sha256-kept page.sha256
same-sha256 = by-text
