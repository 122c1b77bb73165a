-- What opens an observer's book is an opening, and what reads a part is a reading.
use Rattle.std.specs.Prelude.{ℕ, ◌≤◌, ◌≡◌, List, Bool, true, false}
use Rattle.std.proofs.Common.{arith, sym}
use Rattle.std.proofs.Math.Path.{refl}
use Rattle.std.proofs.Math.Bool.{cond}
use Rattle.std.proofs.Math.Option.{Option, some, none}
use Rattle.protocol.specs.Bytes.{Bytes}
use Rattle.protocol.specs.Answer.{Done, Outcome, accepted, done, is_accepted, unless_refused}
use Rattle.protocol.specs.Tests.{first_refusal}
use Rattle.protocol.specs.State.{maximum_replicas}
use Rattle.protocol.proofs.Laws.RowLaws.{by_rows, by_tested, in_range_lem}
use Rattle.protocol.specs.Open.{Opening, opened_weights}
use Rattle.protocol.specs.Observer.{encode_observer}
use Rattle.protocol.specs.ObserverCalls.{new_observer, observer_open_call, observer_open_rows, observer_read_part}
use Rattle.protocol.specs.ObserverCall.{ObserverCall, observation, observer_delivery, observer_moving}
use Rattle.protocol.specs.ObserverCall.{observer_opening, observer_reading, observer_sizing}

nothing : {A B : Type 0} {x : A} → none ≡ some x → B
nothing e = let z : ◌≡◌ {A = ℕ} 0 1 = cc in absurd (omega arith)

-- an opening makes a new book, or is refused and leaves the one that it gets
pub observer_opening_cases : (way : Opening) (book : Bytes) (n heights : ℕ) (P : Bool → Bytes → Type 0) →
    (first_refusal (observer_open_rows way book n heights) ≡ none → P true (encode_observer (new_observer way n heights))) →
    P false book →
    P (is_accepted (observer_open_call way book n heights).answer) (observer_open_call way book n heights).book
unfolding observer_open_call unless_refused is_accepted
observer_opening_cases way book n heights P makes stays = go (first_refusal (observer_open_rows way book n heights)) makes
  where
    opened : Outcome Done
    opened = record { answer = accepted done; book = encode_observer (new_observer way n heights) }

    go : (refusal : Option ℕ) → (refusal ≡ none → P true (encode_observer (new_observer way n heights))) →
        P (is_accepted (unless_refused refusal book opened).answer) (unless_refused refusal book opened).book
    go none made = made refl
    go (some number) made = stays

-- one that is not refused is for 16 replicas at most
pub observer_open_few : (way : Opening) (book : Bytes) (n heights : ℕ) →
    first_refusal (observer_open_rows way book n heights) ≡ none → n ≤ maximum_replicas
unfolding observer_open_rows
observer_open_few way book n heights e =
    by_tested _ e λ ranges exact. by_rows _ ranges λ few many weights. (in_range_lem 1 maximum_replicas n few).1

module _ (digest : Bytes → Bytes) (book : Bytes) where
  -- the opening that opened such a book, and the book that it made
  abbrev pub ObserverOpensBy : ObserverCall → List ℕ → Type 0
  ObserverOpensBy call weights = (way : Opening) × (n : ℕ) × (heights : ℕ) × (call ≡ observer_opening way n heights) ×
      (opened_weights n way ≡ weights) × (first_refusal (observer_open_rows way book n heights) ≡ none) ×
      ((observation digest book call).book ≡ encode_observer (new_observer way n heights))

  -- the reading that returned such a part
  abbrev pub ObserverReadsBy : ObserverCall → Bytes → Type 0
  ObserverReadsBy call part =
      (buffer : Bytes) × (call ≡ observer_reading buffer) × (part ≡ observer_read_part digest book buffer)

  pub only_observer_opening : (call : ObserverCall) (weights : List ℕ) →
      (observation digest book call).opens ≡ some weights → ObserverOpensBy call weights
  unfolding observation
  only_observer_opening (observer_opening way n heights) weights e =
      observer_opening_cases way book n heights (λ (b : Bool) (after : Bytes).
      cond {A = Option (List ℕ)} b (some (opened_weights n way)) none ≡ some weights →
      (w : Opening) × (k : ℕ) × (h : ℕ) × (observer_opening way n heights ≡ observer_opening w k h) ×
      (opened_weights k w ≡ weights) × (first_refusal (observer_open_rows w book k h) ≡ none) ×
      (after ≡ encode_observer (new_observer w k h)))
      (λ passed e. (way, n, heights, refl, cc, passed, refl)) (λ e. nothing e) e
  only_observer_opening (observer_delivery frame) n e = nothing e
  only_observer_opening observer_moving n e = nothing e
  only_observer_opening observer_sizing n e = nothing e
  only_observer_opening (observer_reading buffer) n e = nothing e

  -- a refused opening leaves the book
  pub observer_opens_nothing : (way : Opening) (n heights : ℕ) →
      (observation digest book (observer_opening way n heights)).opens ≡ none →
      (observation digest book (observer_opening way n heights)).book ≡ book
  unfolding observation
  observer_opens_nothing way n heights =
      observer_opening_cases way book n heights (λ (b : Bool) (after : Bytes).
      cond {A = Option (List ℕ)} b (some (opened_weights n way)) none ≡ none → after ≡ book)
      (λ passed e. nothing (sym e)) (λ e. refl)

  pub only_observer_reading : (call : ObserverCall) (part : Bytes) → (observation digest book call).reads ≡ some part →
      ObserverReadsBy call part
  unfolding observation
  only_observer_reading (observer_opening way n heights) part e = nothing e
  only_observer_reading (observer_delivery frame) part e = nothing e
  only_observer_reading observer_moving part e = nothing e
  only_observer_reading observer_sizing part e = nothing e
  only_observer_reading (observer_reading buffer) part e = (buffer, refl, cc)
