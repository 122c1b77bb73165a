-- Written by tests/restated --write: what docs/statements has of
-- crates/protocol/specs/Tests.antt.
use Rattle.std.specs.Prelude.{ℕ, zero, suc, Bool, true, ◌&&◌, ◌||◌, not, cond, List, [], ◌∷◌, leb}
use Rattle.std.proofs.Math.Option.{Option, some, none}
use package.Rattle.protocol.specs.Tests.{Row}
use mathlib.Core.Path.{◌≡◌ as ◌is-kept◌, refl as by-text}
use package.Rattle.protocol.specs.Tests as page

all_of-kept : List Bool → Bool
all_of-kept [] = true
all_of-kept (row ∷ rows) = row && all_of-kept rows

same-all_of : all_of-kept is-kept page.all_of
unfolding all_of-kept page.all_of
same-all_of = by-text

implies-kept : Bool → Bool → Bool
implies-kept a b = not a || b

same-implies : implies-kept is-kept page.implies
unfolding implies-kept page.implies
same-implies = by-text

in_range-kept : ℕ → ℕ → ℕ → Bool
in_range-kept low high x = leb low x && leb x high

same-in_range : in_range-kept is-kept page.in_range
unfolding in_range-kept page.in_range
same-in_range = by-text

every_height-kept : (ℕ → Bool) → ℕ → Bool
every_height-kept test zero = true
every_height-kept test (suc h) = every_height-kept test h && test (suc h)

same-every_height : every_height-kept is-kept page.every_height
unfolding every_height-kept page.every_height
same-every_height = by-text

abbrev Row-kept : Type 0
Row-kept = ℕ × Bool

same-Row : Row-kept is-kept page.Row
same-Row = by-text

first_refusal-kept : List Row → Option ℕ
first_refusal-kept [] = none
first_refusal-kept (row ∷ rows) = cond row.1 (first_refusal-kept rows) (some row.0)

same-first_refusal : first_refusal-kept is-kept page.first_refusal
unfolding first_refusal-kept page.first_refusal
same-first_refusal = by-text
