-- Written by tests/restated --write: what docs/statements has of
-- crates/sha256_schedule/specs/Schedule.antt.
use Rattle.std.specs.Prelude.{ℕ, zero, suc, ◌+◌, ◌-◌, ◌*◌, ◌^◌, List, [], ◌∷◌, ◌++◌, slice_index, slice_index_or}
use package.Rattle.sha256_functions.specs.Bytes.{Bytes}
use package.Rattle.sha256_functions.specs.Words.{add}
use package.Rattle.sha256_functions.specs.Functions.{σ0, σ1}
use package.Rattle.sha256_schedule.specs.Schedule.{message_word, message_words, next_word, schedule_to}
use mathlib.Core.Path.{◌≡◌ as ◌is-kept◌, refl as by-text}
use package.Rattle.sha256_schedule.specs.Schedule as page

message_word-kept : Bytes → ℕ → ℕ
message_word-kept block t =
    slice_index block (4 * t) * 2 ^ 24 + slice_index block (4 * t + 1) * 2 ^ 16 + slice_index block (4 * t + 2) * 2 ^ 8 + slice_index_or block
    (4 * t + 3) 0

same-message_word : message_word-kept is-kept page.message_word
unfolding message_word-kept page.message_word
same-message_word = by-text

message_words-kept : Bytes → ℕ → List ℕ
message_words-kept block zero = []
message_words-kept block (suc t) = message_words-kept block t ++ (message_word block t ∷ [])

same-message_words : message_words-kept is-kept page.message_words
unfolding message_words-kept page.message_words
same-message_words = by-text

next_word-kept : List ℕ → ℕ → ℕ
next_word-kept W t = add (add (add (σ1 (slice_index W (t - 2))) (slice_index W (t - 7))) (σ0 (slice_index W (t - 15)))) (slice_index W (t - 16))

same-next_word : next_word-kept is-kept page.next_word
unfolding next_word-kept page.next_word
same-next_word = by-text

schedule_to-kept : Bytes → ℕ → List ℕ
schedule_to-kept block zero = message_words block 16
schedule_to-kept block (suc n) =
    let W = schedule_to-kept block n in
    W ++ (next_word W (16 + n) ∷ [])

same-schedule_to : schedule_to-kept is-kept page.schedule_to
unfolding schedule_to-kept page.schedule_to
same-schedule_to = by-text

schedule-kept : Bytes → List ℕ
schedule-kept block = schedule_to block 48

same-schedule : schedule-kept is-kept page.schedule
unfolding schedule-kept page.schedule
same-schedule = by-text
