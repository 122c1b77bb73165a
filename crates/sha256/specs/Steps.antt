-- Rounds in groups, and the schedule's array as it is extended beside them: how the code takes the steps of `rounds`
-- and `schedule`. Assumes nothing.
use Rattle.std.specs.Prelude.{ℕ, zero, suc, ◌+◌, List, slice_index, slice_set}
use Rattle.sha256_schedule.specs.Schedule.{next_word}
use Rattle.sha256_rounds.specs.Rounds.{round}

-- n rounds from round t on, with the round constants k and the words W
unfoldable pub rounds_from : List ℕ → List ℕ → List ℕ → ℕ → ℕ → List ℕ
rounds_from k W s t zero = s
rounds_from k W s t (suc n) = round (slice_index k (t + n)) (slice_index W (t + n)) (rounds_from k W s t n)

-- the array W with n more words of the schedule, from the word 16 + t on
unfoldable pub extended_from : List ℕ → ℕ → ℕ → List ℕ
extended_from W t zero = W
extended_from W t (suc n) =
    let before = extended_from W t n in
    slice_set before (16 + (t + n)) (next_word before (16 + (t + n)))
