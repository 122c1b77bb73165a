-- Document 01's number and values for each case of Move's answer, of the code's enum and of the protocol's answer.
use Rattle.std.specs.Prelude.{ℕ, Result, Ok, Err}
use Rattle.protocol.specs.Answer as protocol
use Rattle.protocol.specs.Answer.{refused, accepted, certificate_kind, finalize_kind, move_number, move_height}
use Rattle.protocol.specs.Answer.{Move, idle, vote_dummy, output, pass, propose, vote_block}
use Rattle.answers.specs.declared.answer.Moved.{Moved}
use Rattle.answers.specs.declared.refusal.Refusal.{Refusal}
use Rattle.answers.specs.Answers.{certificate_of}
use Rattle.answers.specs.Refusal.{number_of}

-- a refusal's number, or the move's number and height, and for a pass the kinds of its two frames; 0 for all else
pub record MoveNumbers : Type 0 where
  pub refusal : ℕ
  pub move : ℕ
  pub height : ℕ
  pub certificate : ℕ
  pub finalize : ℕ

-- a move with a height that is no pass
abbrev plain_move : ℕ → ℕ → MoveNumbers
plain_move number h = record { refusal = 0; move = number; height = h; certificate = 0; finalize = 0 }

-- whatever gives a refusal its number
unfoldable pub moved_numbers_with : {R : Type 0} → (R → ℕ) → Result Moved R → MoveNumbers
moved_numbers_with number (Ok Moved.Idle) = plain_move 0 0
moved_numbers_with number (Ok (Moved.Dummy h)) = plain_move 1 h
moved_numbers_with number (Ok (Moved.Final g)) = plain_move 2 g
moved_numbers_with number (Ok (Moved.Pass h certificate finalised)) = record {
  refusal = 0;
  move = 3;
  height = h;
  certificate = certificate_kind (certificate_of certificate);
  finalize = finalize_kind finalised;
}
moved_numbers_with number (Ok (Moved.Offer h)) = plain_move 4 h
moved_numbers_with number (Ok (Moved.Vote h)) = plain_move 5 h
moved_numbers_with number (Err refusal) =
    record { refusal = number refusal; move = 0; height = 0; certificate = 0; finalize = 0 }

-- the same where the refusal has its name
unfoldable pub moved_numbers : Result Moved Refusal → MoveNumbers
moved_numbers = moved_numbers_with number_of

-- the kind of a pass's certificate, and 0 for other moves
unfoldable pub move_certificate : Move → ℕ
move_certificate idle = 0
move_certificate (vote_dummy h) = 0
move_certificate (output g) = 0
move_certificate (pass h certificate finalized) = certificate_kind certificate
move_certificate (propose h) = 0
move_certificate (vote_block h) = 0

-- the kind of a pass's second frame, and 0 where there is none and for other moves
unfoldable pub move_finalize : Move → ℕ
move_finalize idle = 0
move_finalize (vote_dummy h) = 0
move_finalize (output g) = 0
move_finalize (pass h certificate finalized) = finalize_kind finalized
move_finalize (propose h) = 0
move_finalize (vote_block h) = 0

unfoldable pub answer_numbers : protocol.Answer Move → MoveNumbers
answer_numbers (refused number) =
    record { refusal = number; move = 0; height = 0; certificate = 0; finalize = 0 }
answer_numbers (accepted m) = record {
  refusal = 0;
  move = move_number m;
  height = move_height m;
  certificate = move_certificate m;
  finalize = move_finalize m;
}
