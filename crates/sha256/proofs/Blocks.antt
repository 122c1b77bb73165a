-- The blocks of a message as they are cut from it, hashed one after the other. Assumes nothing.
use Rattle.std.specs.Simd.{first_chunks}
use Rattle.std.proofs.Common.{◌≡◌, ℕ, zero, suc, ◌*◌, ◌/◌, ◌-◌, ◌%◌, List, ◌++◌, length, take, drop, fold, refl, sym, ap, ◌∙◌, arith, one-add}
use Rattle.sha256.specs.Bytes.{Bytes}
use Rattle.sha256.specs.Compression.{compression}
use Rattle.sha256.specs.Digest.{initial_hash, hash_blocks, hash_all, words_bytes, sha256}
use Rattle.sha256.specs.Laws.DigestLaws.{hash_blocks-add, hash_all-rest}
use Rattle.sha256_padding.specs.Padding.{block, padded, padding}

pub folded : (hash : List ℕ) (bytes : Bytes) (count : ℕ)
    → fold compression hash (first_chunks 64 count bytes) ≡ hash_blocks hash bytes count
unfolding hash_blocks block
folded hash bytes zero = refl
folded hash bytes (suc count) =
    folded (compression hash (take 64 bytes)) (drop 64 bytes) count
    ∙ sym (ap (hash_blocks hash bytes) (sym (one-add count)) ∙ hash_blocks-add hash bytes 1 count)

-- all blocks that are cut from a byte string
pub all_blocks : (hash : List ℕ) (bytes : Bytes)
    → fold compression hash (first_chunks 64 (length bytes / 64) bytes) ≡ hash_all hash bytes
unfolding hash_all
all_blocks hash bytes = folded hash bytes (length bytes / 64)

-- the digest by parts: the blocks that are cut from the message, then the rest with the padding
pub parts : (message rest : Bytes) (blocks : List Bytes) → blocks ≡ first_chunks 64 (length message / 64) message
    → rest ≡ drop (length message / 64 * 64) message
    → words_bytes (hash_all (fold compression initial_hash blocks) (rest ++ padding (length message))) ≡ sha256 message
unfolding sha256 padded
parts message rest blocks cut left =
    let start : length message / 64 * 64 ≡ length message - length message % 64 = omega arith in
    let whole : fold compression initial_hash blocks ≡ hash_all initial_hash message =
    ap (fold compression initial_hash) cut ∙ all_blocks initial_hash message in
    rw (whole, left, hash_all-rest initial_hash message (padding (length message)) (length message / 64 * 64) start)
