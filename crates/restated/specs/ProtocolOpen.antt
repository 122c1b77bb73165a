-- Written by tests/restated --write: what docs/statements has of
-- crates/protocol/specs/Open.antt.
use Rattle.std.specs.Prelude.{ℕ, ◌*◌, Bool, true, ◌&&◌, List, [], ◌∷◌, map, length, replicate, eqb, ltb}
use package.Rattle.protocol.specs.Bytes.{Bytes, zeros, all}
use package.Rattle.protocol.specs.Tests.{all_of, in_range, Row, first_refusal}
use package.Rattle.protocol.specs.State.{most_heights}
use package.Rattle.protocol.specs.State.{State, Height, encode, book_size, pool_size, maximum_replicas, maximum_weight}
use package.Rattle.protocol.specs.State.{padded, words}
use package.Rattle.protocol.specs.Answer.{Outcome, Done, done, accepted, unless_refused}
use package.Rattle.protocol.specs.Open.{new_height, Opening, unweighed, weighed, long, opened_edition, opened_weights, weights_in_range, start_state, new_state, open_in_range, open_rows}
use mathlib.Core.Path.{◌≡◌ as ◌is-kept◌, refl as by-text}
use package.Rattle.protocol.specs.Open as page

new_height-kept : ℕ → Height
new_height-kept leader = record {
  leader = leader;
  status = 0;
  certificate_mask = 0;
  dummy_mask = 0;
  finalize_mask = 0;
  voter_mask = 0;
  proposal = zeros 176;
  notarized = zeros 176;
  vote_digests = zeros 512;
}

same-new_height : new_height-kept is-kept page.new_height
unfolding new_height-kept page.new_height
same-new_height = by-text

Opening-unweighed-kept : Opening
Opening-unweighed-kept = page.Opening.unweighed

Opening-weighed-kept : (weights : Bytes) → Opening
Opening-weighed-kept = page.Opening.weighed

Opening-long-kept : (weights : Bytes) → Opening
Opening-long-kept = page.Opening.long

Opening-apart : Opening → Unit {0}
Opening-apart (page.Opening.unweighed) = tt
Opening-apart (page.Opening.weighed _) = tt
Opening-apart (page.Opening.long _) = tt

opened_edition-kept : Opening → ℕ
opened_edition-kept unweighed = 1
opened_edition-kept (weighed weights) = 2
opened_edition-kept (long weights) = 3

same-opened_edition : opened_edition-kept is-kept page.opened_edition
unfolding opened_edition-kept page.opened_edition
same-opened_edition = by-text

opened_weights-kept : ℕ → Opening → List ℕ
opened_weights-kept n unweighed = replicate n 1
opened_weights-kept n (weighed weights) = words n weights
opened_weights-kept n (long weights) = words n weights

same-opened_weights : opened_weights-kept is-kept page.opened_weights
unfolding opened_weights-kept page.opened_weights
same-opened_weights = by-text

weights_in_range-kept : ℕ → Opening → Bool
weights_in_range-kept n unweighed = true
weights_in_range-kept n (weighed weights) =
    eqb (length weights) (2 * n) && all (λ w. in_range 1 maximum_weight w) (words n weights)
weights_in_range-kept n (long weights) =
    eqb (length weights) (2 * n) && all (λ w. in_range 1 maximum_weight w) (words n weights)

same-weights_in_range : weights_in_range-kept is-kept page.weights_in_range
unfolding weights_in_range-kept page.weights_in_range
same-weights_in_range = by-text

abbrev start_state-kept : (edition n : ℕ) (weights : List ℕ) (own flags : ℕ) → List Height → State
start_state-kept edition n weights own flags heights = record {
  edition = edition;
  n = n;
  weights = padded weights;
  own = own;
  flags = flags;
  current = 1;
  finalized = 0;
  pending_count = 0;
  pool = zeros pool_size;
  heights = heights;
}

same-start_state : start_state-kept is-kept page.start_state
same-start_state = by-text

new_state-kept : Opening → ℕ → ℕ → Bytes → State
new_state-kept way n own leaders = start_state (opened_edition way) n (opened_weights n way) own 0 (map new_height leaders)

same-new_state : new_state-kept is-kept page.new_state
unfolding new_state-kept page.new_state
same-new_state = by-text

open_in_range-kept : Opening → ℕ → ℕ → ℕ → Bytes → Bool
open_in_range-kept way n own heights leaders = all_of
    (in_range 1 maximum_replicas n ∷
    ltb own n ∷
    in_range 1 (most_heights (opened_edition way)) heights ∷
    eqb (length leaders) heights ∷
    all (λ leader. ltb leader n) leaders ∷
    weights_in_range n way ∷ [])

same-open_in_range : open_in_range-kept is-kept page.open_in_range
unfolding open_in_range-kept page.open_in_range
same-open_in_range = by-text

open_rows-kept : Opening → Bytes → ℕ → ℕ → ℕ → Bytes → List Row
open_rows-kept way book n own heights leaders =
    (2, open_in_range way n own heights leaders) ∷
    (1, eqb (length book) (book_size heights)) ∷ []

same-open_rows : open_rows-kept is-kept page.open_rows
unfolding open_rows-kept page.open_rows
same-open_rows = by-text

open_call-kept : Opening → Bytes → ℕ → ℕ → ℕ → Bytes → Outcome Done
open_call-kept way book n own heights leaders =
    unless_refused (first_refusal (open_rows way book n own heights leaders)) book
    (record { answer = accepted done; book = encode (new_state way n own leaders) })

same-open_call : open_call-kept is-kept page.open_call
unfolding open_call-kept page.open_call
same-open_call = by-text
