-- Tests: lists of rows that must all pass, tests over heights, and refusals by number.
use Rattle.std.specs.Prelude.{ℕ, zero, suc, Bool, true, ◌&&◌, ◌||◌, not, cond, List, [], ◌∷◌, leb}
use Rattle.std.proofs.Math.Option.{Option, some, none}

-- every row passes
unfoldable pub all_of : List Bool → Bool
all_of [] = true
all_of (row ∷ rows) = row && all_of rows

-- where the first holds, so does the second
unfoldable pub implies : Bool → Bool → Bool
implies a b = not a || b

-- a number from `low` to `high`
unfoldable pub in_range : ℕ → ℕ → ℕ → Bool
in_range low high x = leb low x && leb x high

-- each height from 1 to the given one passes a test
unfoldable pub every_height : (ℕ → Bool) → ℕ → Bool
every_height test zero = true
every_height test (suc h) = every_height test h && test (suc h)

-- a refusal: its number, and the test that a call must pass not to be refused by it
abbrev pub Row : Type 0
Row = ℕ × Bool

-- the number of the first row whose test fails, if one does
unfoldable pub first_refusal : List Row → Option ℕ
first_refusal [] = none
first_refusal (row ∷ rows) = cond row.1 (first_refusal rows) (some row.0)
