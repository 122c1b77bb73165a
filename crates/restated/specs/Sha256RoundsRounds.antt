-- Written by tests/restated --write: what docs/statements has of
-- crates/sha256_rounds/specs/Rounds.antt.
use Rattle.std.specs.Prelude.{ℕ, zero, suc, List, [], ◌∷◌, slice_index}
use package.Rattle.sha256_functions.specs.Words.{add}
use package.Rattle.sha256_functions.specs.Functions.{Ch, Maj, Σ0, Σ1}
use package.Rattle.sha256_rounds.specs.Constants.{K}
use package.Rattle.sha256_rounds.specs.Rounds.{variables, round}
use mathlib.Core.Path.{◌≡◌ as ◌is-kept◌, refl as by-text}
use package.Rattle.sha256_rounds.specs.Rounds as page

variables-kept : (Kt Wt a b c d e f g h : ℕ) → List ℕ
variables-kept Kt Wt a b c d e f g h =
    let T1 = add (add (add (add h (Σ1 e)) (Ch e f g)) Kt) Wt in
    let T2 = add (Σ0 a) (Maj a b c) in
    add T1 T2 ∷ a ∷ b ∷ c ∷ add d T1 ∷ e ∷ f ∷ g ∷ []

same-variables : variables-kept is-kept page.variables
unfolding variables-kept page.variables
same-variables = by-text

round-kept : ℕ → ℕ → List ℕ → List ℕ
round-kept Kt Wt s =
    variables Kt Wt (slice_index s 0) (slice_index s 1) (slice_index s 2) (slice_index s 3) (slice_index s 4) (slice_index s 5) (slice_index s 6)
    (slice_index s 7)

same-round : round-kept is-kept page.round
unfolding round-kept page.round
same-round = by-text

rounds-kept : List ℕ → List ℕ → ℕ → List ℕ
rounds-kept hash W zero = hash
rounds-kept hash W (suc t) = round (slice_index K t) (slice_index W t) (rounds-kept hash W t)

same-rounds : rounds-kept is-kept page.rounds
unfolding rounds-kept page.rounds
same-rounds = by-text
