-- Written by tests/restated --write: what docs/statements has of
-- crates/answers/specs/Answers.antt.
use Rattle.std.specs.Prelude.{ℕ, ⊤, Result, Ok, Err}
use package.Rattle.protocol.specs.Answer as protocol
use package.Rattle.protocol.specs.Answer.{refused, accepted, Done, done, Delivery, known, fresh, Move, idle, vote_dummy}
use package.Rattle.protocol.specs.Answer.{output, pass, propose, vote_block, on_block, on_dummy}
use package.Rattle.answers.specs.Refusal.{number_of}
use package.Rattle.answers.specs.declared.answer.Certificate.{Certificate}
use package.Rattle.answers.specs.declared.answer.Counts.{Counts}
use package.Rattle.answers.specs.declared.answer.Delivered.{Delivered}
use package.Rattle.answers.specs.declared.answer.Moved.{Moved}
use package.Rattle.answers.specs.declared.refusal.Refusal.{Refusal}
use package.Rattle.answers.specs.Answers.{answer_with, answer_by, delivery_of, counts_of, certificate_of, move_of}
use mathlib.Core.Path.{◌≡◌ as ◌is-kept◌, refl as by-text}
use package.Rattle.answers.specs.Answers as page

abbrev answer_with-kept : {A B R : Type 0} → (R → ℕ) → (A → B) → Result A R → protocol.Answer B
answer_with-kept number meaning (Ok answer) = accepted (meaning answer)
answer_with-kept number meaning (Err refusal) = refused (number refusal)

same-answer_with : {A B R : Type 0} → answer_with-kept {A = A} {B = B} {R = R} is-kept page.answer_with {A = A} {B = B} {R = R}
same-answer_with = by-text

abbrev answer_by-kept : {A B : Type 0} → (A → B) → Result A Refusal → protocol.Answer B
answer_by-kept = answer_with number_of

same-answer_by : {A B : Type 0} → answer_by-kept {A = A} {B = B} is-kept page.answer_by {A = A} {B = B}
same-answer_by = by-text

abbrev done_answer-kept : Result ⊤ Refusal → protocol.Answer Done
done_answer-kept = answer_by (λ _. done)

same-done_answer : done_answer-kept is-kept page.done_answer
same-done_answer = by-text

abbrev delivery_of-kept : Delivered → Delivery
delivery_of-kept Delivered.Fresh = fresh
delivery_of-kept Delivered.Known = known

same-delivery_of : delivery_of-kept is-kept page.delivery_of
same-delivery_of = by-text

abbrev delivered_answer-kept : Result Delivered Refusal → protocol.Answer Delivery
delivered_answer-kept = answer_by delivery_of

same-delivered_answer : delivered_answer-kept is-kept page.delivered_answer
same-delivered_answer = by-text

abbrev counts_of-kept : Counts → protocol.Counts
counts_of-kept counts =
    record { fresh_frames = counts.fresh; known_frames = counts.known; refused_frames = counts.refused }

same-counts_of : counts_of-kept is-kept page.counts_of
same-counts_of = by-text

abbrev counted_answer-kept : Result Counts Refusal → protocol.Answer protocol.Counts
counted_answer-kept = answer_by counts_of

same-counted_answer : counted_answer-kept is-kept page.counted_answer
same-counted_answer = by-text

abbrev certificate_of-kept : Certificate → protocol.Certificate
certificate_of-kept Certificate.Page = on_block
certificate_of-kept Certificate.Blank = on_dummy

same-certificate_of : certificate_of-kept is-kept page.certificate_of
same-certificate_of = by-text

abbrev move_of-kept : Moved → Move
move_of-kept Moved.Idle = idle
move_of-kept (Moved.Dummy h) = vote_dummy h
move_of-kept (Moved.Final g) = output g
move_of-kept (Moved.Pass h certificate finalised) = pass h (certificate_of certificate) finalised
move_of-kept (Moved.Offer h) = propose h
move_of-kept (Moved.Vote h) = vote_block h

same-move_of : move_of-kept is-kept page.move_of
same-move_of = by-text

abbrev moved_answer-kept : Result Moved Refusal → protocol.Answer Move
moved_answer-kept = answer_by move_of

same-moved_answer : moved_answer-kept is-kept page.moved_answer
same-moved_answer = by-text

abbrev size_answer-kept : Result ℕ Refusal → protocol.Answer ℕ
size_answer-kept = answer_by (λ bytes. bytes)

same-size_answer : size_answer-kept is-kept page.size_answer
same-size_answer = by-text
