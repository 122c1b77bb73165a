-- The numbers of each case of an answer are those of the protocol's answer that the case means.
use Rattle.std.specs.Prelude.{ℕ, ◌≡◌, refl, Result, Ok, Err}
use Rattle.protocol.specs.Answer.{move_number, move_height}
use Rattle.answers.specs.declared.answer.Moved.{Moved}
use Rattle.answers.specs.declared.refusal.Refusal.{Refusal}
use Rattle.answers.specs.Answers.{answer_with, move_of, moved_answer}
use Rattle.answers.specs.MoveNumbers.{moved_numbers_with, moved_numbers, answer_numbers}
use Rattle.answers.specs.MoveNumbers.{move_certificate, move_finalize}
use Rattle.answers.specs.Refusal.{number_of}

-- whatever gives a refusal its number
pub moved_numbers_with_lem : {R : Type 0} (number : R → ℕ) (m : Result Moved R) →
    moved_numbers_with number m ≡ answer_numbers (answer_with number move_of m)
unfolding moved_numbers_with answer_numbers move_number move_height move_certificate move_finalize
moved_numbers_with_lem number (Ok Moved.Idle) = refl
moved_numbers_with_lem number (Ok (Moved.Dummy h)) = refl
moved_numbers_with_lem number (Ok (Moved.Final g)) = refl
moved_numbers_with_lem number (Ok (Moved.Pass h certificate finalised)) = refl
moved_numbers_with_lem number (Ok (Moved.Offer h)) = refl
moved_numbers_with_lem number (Ok (Moved.Vote h)) = refl
moved_numbers_with_lem number (Err refusal) = refl

-- the same where the refusal has its name
pub moved_numbers_lem : (m : Result Moved Refusal) → moved_numbers m ≡ answer_numbers (moved_answer m)
unfolding moved_numbers
moved_numbers_lem = moved_numbers_with_lem number_of
