-- FIPS 180-4, sections 5.2.1 and 6.2.2, step 1: the message schedule of a block of 64 bytes. Assumes nothing.
use Rattle.std.specs.Prelude.{ℕ, zero, suc, ◌+◌, ◌-◌, ◌*◌, ◌^◌, List, [], ◌∷◌, ◌++◌, slice_index, slice_index_or}
use Rattle.sha256_functions.specs.Bytes.{Bytes}
use Rattle.sha256_functions.specs.Words.{add}
use Rattle.sha256_functions.specs.Functions.{σ0, σ1}

-- section 5.2.1: the word M t of a block, its bytes with the highest first
unfoldable pub message_word : Bytes → ℕ → ℕ
message_word block t =
    slice_index block (4 * t) * 2 ^ 24 + slice_index block (4 * t + 1) * 2 ^ 16 + slice_index block (4 * t + 2) * 2 ^ 8 + slice_index_or block
    (4 * t + 3) 0

-- step 1, for t below 16: the first n words are those of the block
unfoldable pub message_words : Bytes → ℕ → List ℕ
message_words block zero = []
message_words block (suc t) = message_words block t ++ (message_word block t ∷ [])

-- step 1, for t from 16: the word W t, by the words W before it
unfoldable pub next_word : List ℕ → ℕ → ℕ
next_word W t = add (add (add (σ1 (slice_index W (t - 2))) (slice_index W (t - 7))) (σ0 (slice_index W (t - 15)))) (slice_index W (t - 16))

-- the sixteen words of the block and the n words after them
unfoldable pub schedule_to : Bytes → ℕ → List ℕ
schedule_to block zero = message_words block 16
schedule_to block (suc n) =
    let W = schedule_to block n in
    W ++ (next_word W (16 + n) ∷ [])

-- step 1: the 64 words of the schedule
unfoldable pub schedule : Bytes → List ℕ
schedule block = schedule_to block 48
