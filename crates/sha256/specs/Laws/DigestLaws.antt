-- Laws of the digest: by parts, its length, its bytes. Assumes nothing.
use Rattle.std.specs.Prelude.{◌≡◌, ℕ, zero, suc, ◌+◌, ◌-◌, ◌*◌, ◌/◌, ◌%◌, ◌<◌, ◌≤◌, List, [], ◌∷◌, ◌++◌, length, take, drop, slice_index, refl}
use Rattle.std.proofs.Common.{sym, ◌∙◌, append_assoc, arith, add-zero, add-suc, length-append, length-drop, drop_of_length-le, take_all}
use Rattle.std.proofs.lemmas.List.{drop-append-le}
use Rattle.sha256.specs.Bytes.{Bytes}
use Rattle.sha256.specs.Digest.{initial_hash, hash_blocks, hash_all, words_bytes, sha256}
use Rattle.sha256.specs.Compression.{compression}
use Rattle.sha256.specs.Laws.CompressionLaws.{compression_length}
use Rattle.sha256_padding.specs.Padding.{big_endian, padding, padded, block}
use Rattle.sha256_padding.specs.Laws.PaddingLaws.{big_endian-length, block_front_lem, block_drop}

pub words_bytes-length : (words : List ℕ) → length (words_bytes words) ≡ 4 * length words
unfolding words_bytes
words_bytes-length [] = refl
words_bytes-length (word ∷ words) = simp (length-append, big_endian-length, words_bytes-length words) (omega arith)

pub words_bytes-append : (first more : List ℕ) → words_bytes (first ++ more) ≡ words_bytes first ++ words_bytes more
unfolding words_bytes
words_bytes-append [] more = refl
words_bytes-append (word ∷ first) more = rw (words_bytes-append first more, append_assoc)

-- the blocks of the front are hashed first
pub hash_blocks-front : (hash : List ℕ) (bytes more : Bytes) (count : ℕ) → 64 * count ≤ length bytes
    → hash_blocks hash (bytes ++ more) count ≡ hash_blocks hash bytes count
unfolding hash_blocks
hash_blocks-front hash bytes more zero fits = refl
hash_blocks-front hash bytes more (suc count) fits =
    rw (hash_blocks-front hash bytes more count (omega arith), block_front_lem bytes more count (omega arith))

-- and what follows them from the hash that they leave
pub hash_blocks-add : (hash : List ℕ) (bytes : Bytes) (first more : ℕ)
    → hash_blocks hash bytes (first + more) ≡ hash_blocks (hash_blocks hash bytes first) (drop (64 * first) bytes) more
unfolding hash_blocks
hash_blocks-add hash bytes first zero = rw add-zero
hash_blocks-add hash bytes first (suc more) = rw (add-suc, hash_blocks-add hash bytes first more, block_drop)

-- a message's whole blocks come first, and then the rest with what follows it
pub hash_all-rest : (hash : List ℕ) (message more : Bytes) (start : ℕ) → start ≡ length message - length message % 64
    → hash_all (hash_all hash message) (drop start message ++ more) ≡ hash_all hash (message ++ more)
unfolding hash_all
hash_all-rest hash message more start e =
    let whole : start ≡ 64 * (length message / 64) = omega arith in
    let counts : length (message ++ more) / 64 ≡ length message / 64 + length (drop start message ++ more) / 64
    = simp (length-append, length-drop) (omega arith) in
    rw (
      counts,
      hash_blocks-add hash (message ++ more) (length message / 64) (length (drop start message ++ more) / 64),
      hash_blocks-front hash message more (length message / 64) (omega arith),
      ← whole,
      drop-append-le start message more (omega arith),
    )

-- the digest by parts: the whole blocks where they lie, then the rest with the padding
pub sha256_parts : (message : Bytes)
    → words_bytes
    (hash_all (hash_all initial_hash message)
    (take (length message - (length message - length message % 64))
    (drop (length message - length message % 64) message)
    ++ padding (length message)))
    ≡ sha256 message
unfolding sha256 padded
sha256_parts message =
    let start = length message - length message % 64 in
    let all : take (length message - start) (drop start message) ≡ drop start message
    = take_all (length message - start) (drop start message) (simp length-drop (omega arith)) in
    rw (all, hash_all-rest initial_hash message (padding (length message)) start refl)

-- the next block, where `at` is the place that the blocks before it reach
pub hash_blocks-next : (hash : List ℕ) (bytes : Bytes) (at : ℕ) → at % 64 ≡ 0
    → compression (hash_blocks hash bytes (at / 64)) (take (at + 64 - at) (drop at bytes)) ≡ hash_blocks hash bytes
    ((at + 64) / 64)
unfolding hash_blocks block
hash_blocks-next hash bytes at whole =
    let count : (at + 64) / 64 ≡ suc (at / 64) = omega arith in
    let size : at + 64 - at ≡ 64 = omega arith in
    let place : 64 * (at / 64) ≡ at = omega arith in
    rw (count, size, place)

-- a whole block and what follows it
pub hash_all-block : (hash : List ℕ) (first more : Bytes) → length first ≡ 64 →
    hash_all hash (first ++ more) ≡ hash_all (hash_all hash first) more
hash_all-block hash first more whole =
    sym (hash_all-rest hash first more 64 (rw whole)) ∙ rw (drop_of_length-le first {i = 64} (omega arith))

-- a digest has 32 bytes, whatever the message
pub hash_blocks-length : (hash : List ℕ) (bytes : Bytes) (count : ℕ) → length hash ≡ 8 →
    length (hash_blocks hash bytes count) ≡ 8
unfolding hash_blocks
hash_blocks-length hash bytes zero whole = whole
hash_blocks-length hash bytes (suc count) whole =
    compression_length (hash_blocks hash bytes count) (block bytes count)

pub sha256_length : (message : Bytes) → length (sha256 message) ≡ 32
unfolding sha256 hash_all initial_hash
sha256_length message =
    let words : length (hash_blocks initial_hash (padded message) (length (padded message) / 64)) ≡ 8
    = hash_blocks-length initial_hash (padded message) (length (padded message) / 64) refl in
    rw (words_bytes-length, words)

-- and each of them is a byte; past the end `get_or` gives 0
append_byte : (first more : Bytes) → ((i : ℕ) → slice_index first i < 256) → ((i : ℕ) → slice_index more i < 256) → (i : ℕ) →
    slice_index (first ++ more) i < 256
append_byte [] more p q i = q i
append_byte (x ∷ first) more p q zero = p zero
append_byte (x ∷ first) more p q (suc i) = append_byte first more (λ j. p (suc j)) q i

big_endian-byte : (count number i : ℕ) → slice_index (big_endian count number) i < 256
unfolding big_endian
big_endian-byte zero number i = omega arith
big_endian-byte (suc count) number zero = omega arith
big_endian-byte (suc count) number (suc i) = big_endian-byte count number i

pub words_bytes-byte : (words : List ℕ) (i : ℕ) → slice_index (words_bytes words) i < 256
unfolding words_bytes
words_bytes-byte [] i = omega arith
words_bytes-byte (word ∷ words) i =
    append_byte (big_endian 4 word) (words_bytes words) (big_endian-byte 4 word) (words_bytes-byte words) i

pub sha256_byte : (message : Bytes) (i : ℕ) → slice_index (sha256 message) i < 256
unfolding sha256
sha256_byte message i = words_bytes-byte (hash_all initial_hash (padded message)) i
