-- FIPS 180-4, section 6.2.2, steps 1 to 4: the eight words of the hash value after one more block. Assumes nothing.
use Rattle.std.specs.Prelude.{ℕ, List, [], ◌∷◌, slice_index}
use Rattle.sha256_functions.specs.Words.{add}
use Rattle.sha256_schedule.specs.Schedule.{schedule}
use Rattle.sha256_rounds.specs.Rounds.{rounds}
use Rattle.sha256.specs.Bytes.{Bytes}

-- step 4: the working variables s are added to the hash value, word by word
unfoldable pub add_words : List ℕ → List ℕ → List ℕ
add_words s hash =
    add (slice_index s 0) (slice_index hash 0) ∷ add (slice_index s 1) (slice_index hash 1) ∷ add (slice_index s 2) (slice_index hash 2) ∷ add
    (slice_index s 3) (slice_index hash 3)
    ∷ add (slice_index s 4) (slice_index hash 4) ∷ add (slice_index s 5) (slice_index hash 5) ∷ add (slice_index s 6) (slice_index hash 6) ∷ add
    (slice_index s 7) (slice_index hash 7) ∷ []

-- steps 1 to 4: the hash value after the block
unfoldable pub compression : List ℕ → Bytes → List ℕ
compression hash block = add_words (rounds hash (schedule block) 64) hash
