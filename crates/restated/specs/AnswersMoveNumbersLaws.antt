-- Written by tests/restated --write: what docs/statements has of
-- crates/answers/proofs/Laws/MoveNumbersLaws.antt.
use Rattle.std.specs.Prelude.{ℕ, ◌≡◌, Result}
use package.Rattle.answers.specs.declared.answer.Moved.{Moved}
use package.Rattle.answers.specs.declared.refusal.Refusal.{Refusal}
use package.Rattle.answers.specs.Answers.{answer_with, move_of, moved_answer}
use package.Rattle.answers.specs.MoveNumbers.{moved_numbers_with, moved_numbers, answer_numbers}
use mathlib.Core.Path.{◌≡◌ as ◌is-kept◌, refl as by-text}
use package.Rattle.answers.proofs.Laws.MoveNumbersLaws as page

pub moved_numbers_with_lem-kept : {R : Type 0} (number : R → ℕ) (m : Result Moved R) →
    moved_numbers_with number m ≡ answer_numbers (answer_with number move_of m)
moved_numbers_with_lem-kept = page.moved_numbers_with_lem

pub moved_numbers_lem-kept : (m : Result Moved Refusal) → moved_numbers m ≡ answer_numbers (moved_answer m)
moved_numbers_lem-kept = page.moved_numbers_lem
