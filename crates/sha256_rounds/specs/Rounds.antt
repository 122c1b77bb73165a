-- FIPS 180-4, section 6.2.2, steps 2 and 3: the rounds on the eight working variables. Assumes nothing.
use Rattle.std.specs.Prelude.{ℕ, zero, suc, List, [], ◌∷◌, slice_index}
use Rattle.sha256_functions.specs.Words.{add}
use Rattle.sha256_functions.specs.Functions.{Ch, Maj, Σ0, Σ1}
use Rattle.sha256_rounds.specs.Constants.{K}

-- step 3: T1 and T2, and the working variables a to h that follow from them
unfoldable pub variables : (Kt Wt a b c d e f g h : ℕ) → List ℕ
variables Kt Wt a b c d e f g h =
    let T1 = add (add (add (add h (Σ1 e)) (Ch e f g)) Kt) Wt in
    let T2 = add (Σ0 a) (Maj a b c) in
    add T1 T2 ∷ a ∷ b ∷ c ∷ add d T1 ∷ e ∷ f ∷ g ∷ []

-- step 3: one round on the eight words s
unfoldable pub round : ℕ → ℕ → List ℕ → List ℕ
round Kt Wt s =
    variables Kt Wt (slice_index s 0) (slice_index s 1) (slice_index s 2) (slice_index s 3) (slice_index s 4) (slice_index s 5) (slice_index s 6)
    (slice_index s 7)

-- steps 2 and 3: the working variables start as the hash value, and these are they after the rounds 0 to n - 1
unfoldable pub rounds : List ℕ → List ℕ → ℕ → List ℕ
rounds hash W zero = hash
rounds hash W (suc t) = round (slice_index K t) (slice_index W t) (rounds hash W t)
