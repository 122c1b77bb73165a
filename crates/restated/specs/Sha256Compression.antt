-- Written by tests/restated --write: what docs/statements has of
-- crates/sha256/specs/Compression.antt.
use Rattle.std.specs.Prelude.{ℕ, List, [], ◌∷◌, slice_index}
use package.Rattle.sha256_functions.specs.Words.{add}
use package.Rattle.sha256_schedule.specs.Schedule.{schedule}
use package.Rattle.sha256_rounds.specs.Rounds.{rounds}
use package.Rattle.sha256.specs.Bytes.{Bytes}
use package.Rattle.sha256.specs.Compression.{add_words}
use mathlib.Core.Path.{◌≡◌ as ◌is-kept◌, refl as by-text}
use package.Rattle.sha256.specs.Compression as page

add_words-kept : List ℕ → List ℕ → List ℕ
add_words-kept s hash =
    add (slice_index s 0) (slice_index hash 0) ∷ add (slice_index s 1) (slice_index hash 1) ∷ add (slice_index s 2) (slice_index hash 2) ∷ add
    (slice_index s 3) (slice_index hash 3)
    ∷ add (slice_index s 4) (slice_index hash 4) ∷ add (slice_index s 5) (slice_index hash 5) ∷ add (slice_index s 6) (slice_index hash 6) ∷ add
    (slice_index s 7) (slice_index hash 7) ∷ []

same-add_words : add_words-kept is-kept page.add_words
unfolding add_words-kept page.add_words
same-add_words = by-text

compression-kept : List ℕ → Bytes → List ℕ
compression-kept hash block = add_words (rounds hash (schedule block) 64) hash

same-compression : compression-kept is-kept page.compression
unfolding compression-kept page.compression
same-compression = by-text
