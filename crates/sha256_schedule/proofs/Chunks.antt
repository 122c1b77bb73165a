-- The chunks of a slice, by their place, and a chunk of four bytes as a word. Assumes nothing.
use Rattle.std.specs.Simd.{first_chunks}
use Rattle.std.proofs.Common.{◌≡◌, ℕ, zero, suc, ◌+◌, ◌*◌, ◌^◌, ◌<◌, [], get_or, take, drop, ◌∙◌, arith, slice_index, add-zero, mul-zero, mul-suc, drop-drop, get_or-take, get_or-drop}
use Rattle.sha256_functions.specs.Bytes.{Bytes}
use Rattle.sha256_schedule.specs.Schedule.{message_word}

pub chunk_at : (n k : ℕ) (bytes : Bytes) (i : ℕ) → i < k → get_or (first_chunks n k bytes) i [] ≡ take n (drop (n * i) bytes)
chunk_at n zero bytes i h = absurd (omega arith)
chunk_at n (suc k) bytes zero h = rw mul-zero
chunk_at n (suc k) bytes (suc i) h =
    let place : n * suc i ≡ n + n * i = omega (arith, mul-suc n i) in
    chunk_at n k (drop n bytes) i (omega arith) ∙ rw (drop-drop, place)

chunk_byte : (block : Bytes) (at i : ℕ) → i < 4 → slice_index (take 4 (drop at block)) i ≡ slice_index block (at + i)
chunk_byte block at i h = get_or-take 4 (drop at block) i 0 h ∙ rw get_or-drop

-- the bytes of a chunk of four are those of the word at its place
pub chunk_word : (block : Bytes) (k t : ℕ) → t < k →
    let chunk = get_or (first_chunks 4 k block) t [] in
    slice_index chunk 0 * 2 ^ 24 + slice_index chunk 1 * 2 ^ 16 + slice_index chunk 2 * 2 ^ 8 + slice_index chunk 3
    ≡ message_word block t
unfolding message_word
chunk_word block k t h =
    rw (
      chunk_at 4 k block t h,
      chunk_byte block (4 * t) 0 (omega arith),
      chunk_byte block (4 * t) 1 (omega arith),
      chunk_byte block (4 * t) 2 (omega arith),
      chunk_byte block (4 * t) 3 (omega arith),
      add-zero,
    )
