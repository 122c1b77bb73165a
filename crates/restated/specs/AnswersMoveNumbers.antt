-- Written by tests/restated --write: what docs/statements has of
-- crates/answers/specs/MoveNumbers.antt.
use Rattle.std.specs.Prelude.{ℕ, Result, Ok, Err}
use package.Rattle.protocol.specs.Answer as protocol
use package.Rattle.protocol.specs.Answer.{refused, accepted, certificate_kind, finalize_kind, move_number, move_height}
use package.Rattle.protocol.specs.Answer.{Move, idle, vote_dummy, output, pass, propose, vote_block}
use package.Rattle.answers.specs.declared.answer.Moved.{Moved}
use package.Rattle.answers.specs.declared.refusal.Refusal.{Refusal}
use package.Rattle.answers.specs.Answers.{certificate_of}
use package.Rattle.answers.specs.Refusal.{number_of}
use package.Rattle.answers.specs.MoveNumbers.{MoveNumbers, moved_numbers_with, move_certificate, move_finalize}
use mathlib.Core.Path.{◌≡◌ as ◌is-kept◌, refl as by-text}
use package.Rattle.answers.specs.MoveNumbers as page

abbrev plain_move : ℕ → ℕ → MoveNumbers
plain_move number h = record { refusal = 0; move = number; height = h; certificate = 0; finalize = 0 }

MoveNumbers-kept : (refusal : ℕ) (move : ℕ) (height : ℕ) (certificate : ℕ) (finalize : ℕ) →
    MoveNumbers
MoveNumbers-kept x0 x1 x2 x3 x4 = record { refusal = x0; move = x1; height = x2; certificate = x3; finalize = x4 }

moved_numbers_with-kept : {R : Type 0} → (R → ℕ) → Result Moved R → MoveNumbers
moved_numbers_with-kept number (Ok Moved.Idle) = plain_move 0 0
moved_numbers_with-kept number (Ok (Moved.Dummy h)) = plain_move 1 h
moved_numbers_with-kept number (Ok (Moved.Final g)) = plain_move 2 g
moved_numbers_with-kept number (Ok (Moved.Pass h certificate finalised)) = record {
  refusal = 0;
  move = 3;
  height = h;
  certificate = certificate_kind (certificate_of certificate);
  finalize = finalize_kind finalised;
}
moved_numbers_with-kept number (Ok (Moved.Offer h)) = plain_move 4 h
moved_numbers_with-kept number (Ok (Moved.Vote h)) = plain_move 5 h
moved_numbers_with-kept number (Err refusal) =
    record { refusal = number refusal; move = 0; height = 0; certificate = 0; finalize = 0 }

same-moved_numbers_with : {R : Type 0} → moved_numbers_with-kept {R = R} is-kept page.moved_numbers_with {R = R}
unfolding moved_numbers_with-kept page.moved_numbers_with
same-moved_numbers_with = by-text

moved_numbers-kept : Result Moved Refusal → MoveNumbers
moved_numbers-kept = moved_numbers_with number_of

same-moved_numbers : moved_numbers-kept is-kept page.moved_numbers
unfolding moved_numbers-kept page.moved_numbers
same-moved_numbers = by-text

move_certificate-kept : Move → ℕ
move_certificate-kept idle = 0
move_certificate-kept (vote_dummy h) = 0
move_certificate-kept (output g) = 0
move_certificate-kept (pass h certificate finalized) = certificate_kind certificate
move_certificate-kept (propose h) = 0
move_certificate-kept (vote_block h) = 0

same-move_certificate : move_certificate-kept is-kept page.move_certificate
unfolding move_certificate-kept page.move_certificate
same-move_certificate = by-text

move_finalize-kept : Move → ℕ
move_finalize-kept idle = 0
move_finalize-kept (vote_dummy h) = 0
move_finalize-kept (output g) = 0
move_finalize-kept (pass h certificate finalized) = finalize_kind finalized
move_finalize-kept (propose h) = 0
move_finalize-kept (vote_block h) = 0

same-move_finalize : move_finalize-kept is-kept page.move_finalize
unfolding move_finalize-kept page.move_finalize
same-move_finalize = by-text

answer_numbers-kept : protocol.Answer Move → MoveNumbers
answer_numbers-kept (refused number) =
    record { refusal = number; move = 0; height = 0; certificate = 0; finalize = 0 }
answer_numbers-kept (accepted m) = record {
  refusal = 0;
  move = move_number m;
  height = move_height m;
  certificate = move_certificate m;
  finalize = move_finalize m;
}

same-answer_numbers : answer_numbers-kept is-kept page.answer_numbers
unfolding answer_numbers-kept page.answer_numbers
same-answer_numbers = by-text
