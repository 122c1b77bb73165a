-- The book that an example opens is a new one at its first height.
use Rattle.std.specs.Prelude.{ℕ, ◌≡◌, refl, List, [], ◌∷◌, map, replicate, ltb}
use Rattle.std.proofs.Common.{arith, ap, ◌∙◌, ltb-true}
use Rattle.std.proofs.Math.Option.{Option, some, none}
use Rattle.protocol.specs.Bytes.{Bytes, all}
use Rattle.protocol.specs.Tests.{first_refusal}
use Rattle.protocol.proofs.Laws.TestsLaws.{and_both}
use Rattle.protocol.proofs.Laws.TestedLaws.{OpenRanges, open_ranges, open_tested}
use Rattle.protocol.specs.State.{encode, most_heights}
use Rattle.protocol.specs.Answer.{Outcome, accepted, Done, done, unless_refused}
use Rattle.protocol.specs.Open.{Opening, opened_edition, opened_weights, new_state, new_height, start_state}
use Rattle.protocol.specs.Open.{open_rows, open_call}
use Rattle.protocol.proofs.Laws.NewStateLaws.{opened_known}
use Rattle.protocol.specs.Deliver.{with_masks}
use Rattle.protocol.specs.Examples.{Start, opened}
use Rattle.protocol.proofs.Laws.NewBookLaws.{Ranges, early, first_height}

-- the edition of the new book
abbrev pub edition_of : Start → ℕ
edition_of x = opened_edition x.way

pub record Opened (x : Start) : Type 0 where
  pub leader : ℕ
  pub leaders : Bytes
  pub roll : x.leaders ≡ leader ∷ leaders
  pub ranges : Ranges (edition_of x) x.n x.own leader leaders
  pub book : opened x ≡ encode (early (edition_of x) x.n x.own 0 0 0 leader leaders)

new_early : (way : Opening) (n own leader : ℕ) (leaders : Bytes) → opened_weights n way ≡ replicate n 1 →
    new_state way n own (leader ∷ leaders) ≡ early (opened_edition way) n own 0 0 0 leader leaders
unfolding new_state first_height with_masks new_height
new_early way n own leader leaders even =
    ap (λ (ws : List ℕ). start_state (opened_edition way) n ws own 0 (new_height leader ∷ map new_height leaders)) even

open_answer : (o : Option ℕ) (book : Bytes) (w : Outcome Done) → (unless_refused o book w).answer ≡ accepted done →
    o ≡ none
unfolding unless_refused
open_answer none book w q = refl
open_answer (some number) book w q = let y : ◌≡◌ {A = ℕ} 0 1 = cc in absurd (omega arith)

open_rows_lem : (x : Start) → first_refusal (open_rows x.way x.old x.n x.own x.heights x.leaders) ≡ none
unfolding open_call
open_rows_lem x =
    open_answer (first_refusal (open_rows x.way x.old x.n x.own x.heights x.leaders)) x.old
    (record { answer = accepted done; book = encode (new_state x.way x.n x.own x.leaders) }) x.opens

-- the ranges that Open tests are those of a first leader and of the leaders after it
ranges_of : (way : Opening) (n own heights : ℕ) (leaders : Bytes) → OpenRanges way n own heights leaders →
    (leader : ℕ) × (rest : Bytes) × (leaders ≡ leader ∷ rest) × Ranges (opened_edition way) n own leader rest
unfolding all
ranges_of way n own heights [] is = absurd (omega arith)
ranges_of way n own heights (leader ∷ rest) is =
    let below = and_both (ltb leader n) (all (λ x. ltb x n) rest) is.leaders_below in (
      leader,
      rest,
      refl,
      record {
        known_edition = opened_known way;
        some_replica = is.n_low;
        few_replicas = is.n_high;
        own_below = is.own_below;
        leader_below = ltb-true leader n below.0;
        leaders_below = below.1;
        few_heights = omega (arith, is.heights_most);
      },
    )

opened_new : (x : Start) → opened x ≡ encode (new_state x.way x.n x.own x.leaders)
unfolding opened open_call unless_refused
opened_new x = rw (open_rows_lem x, opened)

pub opening : (x : Start) → Opened x
opening x =
    let tested = open_tested x.way x.n x.own x.heights x.leaders x.old (open_rows_lem x) in
    let r = ranges_of x.way x.n x.own x.heights x.leaders
    (open_ranges x.way x.n x.own x.heights x.leaders tested.in_ranges_lem) in
    record {
      leader = r.0;
      leaders = r.1;
      roll = r.2;
      ranges = r.3;
      book = opened_new x ∙ (ap (λ (m : Bytes). encode (new_state x.way x.n x.own m)) r.2
          ∙ ap encode (new_early x.way x.n x.own r.0 r.1 x.even));
    }
