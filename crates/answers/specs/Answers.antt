-- The answers of the code, case by case, as the protocol's answers: document 01's numbers and values.
use Rattle.std.specs.Prelude.{ℕ, ⊤, Result, Ok, Err}
use Rattle.protocol.specs.Answer as protocol
use Rattle.protocol.specs.Answer.{refused, accepted, Done, done, Delivery, known, fresh, Move, idle, vote_dummy}
use Rattle.protocol.specs.Answer.{output, pass, propose, vote_block, on_block, on_dummy}
use Rattle.answers.specs.Refusal.{number_of}
use Rattle.answers.specs.declared.answer.Certificate.{Certificate}
use Rattle.answers.specs.declared.answer.Counts.{Counts}
use Rattle.answers.specs.declared.answer.Delivered.{Delivered}
use Rattle.answers.specs.declared.answer.Moved.{Moved}
use Rattle.answers.specs.declared.refusal.Refusal.{Refusal}

-- an answer with a refusal or without, by what gives a refusal its number and what the answer without one means
abbrev pub answer_with : {A B R : Type 0} → (R → ℕ) → (A → B) → Result A R → protocol.Answer B
answer_with number meaning (Ok answer) = accepted (meaning answer)
answer_with number meaning (Err refusal) = refused (number refusal)

-- the same where the refusal has its name
abbrev pub answer_by : {A B : Type 0} → (A → B) → Result A Refusal → protocol.Answer B
answer_by = answer_with number_of

-- Open, Signal, Submit and Fetch
abbrev pub done_answer : Result ⊤ Refusal → protocol.Answer Done
done_answer = answer_by (λ _. done)

abbrev pub delivery_of : Delivered → Delivery
delivery_of Delivered.Fresh = fresh
delivery_of Delivered.Known = known

abbrev pub delivered_answer : Result Delivered Refusal → protocol.Answer Delivery
delivered_answer = answer_by delivery_of

abbrev pub counts_of : Counts → protocol.Counts
counts_of counts =
    record { fresh_frames = counts.fresh; known_frames = counts.known; refused_frames = counts.refused }

abbrev pub counted_answer : Result Counts Refusal → protocol.Answer protocol.Counts
counted_answer = answer_by counts_of

abbrev pub certificate_of : Certificate → protocol.Certificate
certificate_of Certificate.Page = on_block
certificate_of Certificate.Blank = on_dummy

abbrev pub move_of : Moved → Move
move_of Moved.Idle = idle
move_of (Moved.Dummy h) = vote_dummy h
move_of (Moved.Final g) = output g
move_of (Moved.Pass h certificate finalised) = pass h (certificate_of certificate) finalised
move_of (Moved.Offer h) = propose h
move_of (Moved.Vote h) = vote_block h

abbrev pub moved_answer : Result Moved Refusal → protocol.Answer Move
moved_answer = answer_by move_of

-- Register size
abbrev pub size_answer : Result ℕ Refusal → protocol.Answer ℕ
size_answer = answer_by (λ bytes. bytes)
