-- Open: a new book for `n` replicas, their weights, the replica's own number, and the leader of each height. Document
-- 01 opens books of edition 1, in which every replica weighs 1, and request 2.6 those of edition 2, with weights.
use Rattle.std.specs.Prelude.{ℕ, ◌*◌, Bool, true, ◌&&◌, List, [], ◌∷◌, map, length, replicate, eqb, ltb}
use Rattle.protocol.specs.Bytes.{Bytes, zeros, all}
use Rattle.protocol.specs.Tests.{all_of, in_range, Row, first_refusal}
use Rattle.protocol.specs.State.{most_heights}
use Rattle.protocol.specs.State.{State, Height, encode, book_size, pool_size, maximum_replicas, maximum_weight}
use Rattle.protocol.specs.State.{padded, words}
use Rattle.protocol.specs.Answer.{Outcome, Done, done, accepted, unless_refused}

unfoldable pub new_height : ℕ → Height
new_height leader = record {
  leader = leader;
  status = 0;
  certificate_mask = 0;
  dummy_mask = 0;
  finalize_mask = 0;
  voter_mask = 0;
  proposal = zeros 176;
  notarized = zeros 176;
  vote_digests = zeros 512;
}

-- ---- the ways to open a book, a replica's or an observer's
pub data Opening : Type 0 where
  -- document 01 and, of observers, request 2.3: every replica weighs 1
  unweighed : Opening
  -- request 2.6: the weights are given, two bytes for each replica
  weighed : (weights : Bytes) → Opening
  -- 2.7: the same, and as many as 1,000 heights
  long : (weights : Bytes) → Opening

-- the edition that it makes
unfoldable pub opened_edition : Opening → ℕ
opened_edition unweighed = 1
opened_edition (weighed weights) = 2
opened_edition (long weights) = 3

-- the weights of the `n` replicas
unfoldable pub opened_weights : ℕ → Opening → List ℕ
opened_weights n unweighed = replicate n 1
opened_weights n (weighed weights) = words n weights
opened_weights n (long weights) = words n weights

-- there are n weights, each of 1 to 1,000
unfoldable pub weights_in_range : ℕ → Opening → Bool
weights_in_range n unweighed = true
weights_in_range n (weighed weights) =
    eqb (length weights) (2 * n) && all (λ w. in_range 1 maximum_weight w) (words n weights)
weights_in_range n (long weights) =
    eqb (length weights) (2 * n) && all (λ w. in_range 1 maximum_weight w) (words n weights)

-- a state at height 1 with nothing pending
abbrev pub start_state : (edition n : ℕ) (weights : List ℕ) (own flags : ℕ) → List Height → State
start_state edition n weights own flags heights = record {
  edition = edition;
  n = n;
  weights = padded weights;
  own = own;
  flags = flags;
  current = 1;
  finalized = 0;
  pending_count = 0;
  pool = zeros pool_size;
  heights = heights;
}

unfoldable pub new_state : Opening → ℕ → ℕ → Bytes → State
new_state way n own leaders = start_state (opened_edition way) n (opened_weights n way) own 0 (map new_height leaders)

-- the ranges that refusal 2 asks for
unfoldable pub open_in_range : Opening → ℕ → ℕ → ℕ → Bytes → Bool
open_in_range way n own heights leaders = all_of
    (in_range 1 maximum_replicas n ∷
    ltb own n ∷
    in_range 1 (most_heights (opened_edition way)) heights ∷
    eqb (length leaders) heights ∷
    all (λ leader. ltb leader n) leaders ∷
    weights_in_range n way ∷ [])

unfoldable pub open_rows : Opening → Bytes → ℕ → ℕ → ℕ → Bytes → List Row
open_rows way book n own heights leaders =
    (2, open_in_range way n own heights leaders) ∷
    (1, eqb (length book) (book_size heights)) ∷ []

unfoldable pub open_call : Opening → Bytes → ℕ → ℕ → ℕ → Bytes → Outcome Done
open_call way book n own heights leaders =
    unless_refused (first_refusal (open_rows way book n own heights leaders)) book
    (record { answer = accepted done; book = encode (new_state way n own leaders) })
