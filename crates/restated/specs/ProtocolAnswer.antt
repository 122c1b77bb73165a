-- Written by tests/restated --write: what docs/statements has of
-- crates/protocol/specs/Answer.antt.
use Rattle.std.specs.Prelude.{ℕ, Bool, true, false}
use Rattle.std.proofs.Math.Option.{Option, some, none}
use package.Rattle.protocol.specs.Bytes.{Bytes}
use package.Rattle.protocol.specs.Answer.{Answer, refused, accepted, Done, done, Delivery, known, fresh, Counts, Certificate, on_block, on_dummy, Move, idle, vote_dummy, output, pass, propose, vote_block, Outcome}
use mathlib.Core.Path.{◌≡◌ as ◌is-kept◌, refl as by-text}
use package.Rattle.protocol.specs.Answer as page

Answer-refused-kept : (A : Type 0) → ℕ → Answer A
Answer-refused-kept _ = page.Answer.refused

Answer-accepted-kept : (A : Type 0) → A → Answer A
Answer-accepted-kept _ = page.Answer.accepted

Answer-apart : (A : Type 0) → Answer A → Unit {0}
Answer-apart _ (page.Answer.refused _) = tt
Answer-apart _ (page.Answer.accepted _) = tt

is_accepted-kept : {A : Type 0} → Answer A → Bool
is_accepted-kept (refused number) = false
is_accepted-kept (accepted a) = true

same-is_accepted : {A : Type 0} → is_accepted-kept {A = A} is-kept page.is_accepted {A = A}
unfolding is_accepted-kept page.is_accepted
same-is_accepted = by-text

Done-done-kept : Done
Done-done-kept = page.Done.done

Done-apart : Done → Unit {0}
Done-apart (page.Done.done) = tt

Delivery-known-kept : Delivery
Delivery-known-kept = page.Delivery.known

Delivery-fresh-kept : Delivery
Delivery-fresh-kept = page.Delivery.fresh

Delivery-apart : Delivery → Unit {0}
Delivery-apart (page.Delivery.known) = tt
Delivery-apart (page.Delivery.fresh) = tt

Counts-kept : (fresh_frames : ℕ) (known_frames : ℕ) (refused_frames : ℕ) →
    Counts
Counts-kept x0 x1 x2 = record { fresh_frames = x0; known_frames = x1; refused_frames = x2 }

Certificate-on_block-kept : Certificate
Certificate-on_block-kept = page.Certificate.on_block

Certificate-on_dummy-kept : Certificate
Certificate-on_dummy-kept = page.Certificate.on_dummy

Certificate-apart : Certificate → Unit {0}
Certificate-apart (page.Certificate.on_block) = tt
Certificate-apart (page.Certificate.on_dummy) = tt

Move-idle-kept : Move
Move-idle-kept = page.Move.idle

Move-vote_dummy-kept : ℕ → Move
Move-vote_dummy-kept = page.Move.vote_dummy

Move-output-kept : ℕ → Move
Move-output-kept = page.Move.output

Move-pass-kept : ℕ → Certificate → Bool → Move
Move-pass-kept = page.Move.pass

Move-propose-kept : ℕ → Move
Move-propose-kept = page.Move.propose

Move-vote_block-kept : ℕ → Move
Move-vote_block-kept = page.Move.vote_block

Move-apart : Move → Unit {0}
Move-apart (page.Move.idle) = tt
Move-apart (page.Move.vote_dummy _) = tt
Move-apart (page.Move.output _) = tt
Move-apart (page.Move.pass _ _ _) = tt
Move-apart (page.Move.propose _) = tt
Move-apart (page.Move.vote_block _) = tt

Outcome-kept : (A : Type 0) (answer : Answer A) (book : Bytes) →
    Outcome A
Outcome-kept A x0 x1 = record { answer = x0; book = x1 }

unless_refused-kept : {A : Type 0} → Option ℕ → Bytes → Outcome A → Outcome A
unless_refused-kept none book outcome = outcome
unless_refused-kept (some number) book outcome = record { answer = refused number; book = book }

same-unless_refused : {A : Type 0} → unless_refused-kept {A = A} is-kept page.unless_refused {A = A}
unfolding unless_refused-kept page.unless_refused
same-unless_refused = by-text

refusal_number-kept : {A : Type 0} → Answer A → ℕ
refusal_number-kept (refused number) = number
refusal_number-kept (accepted a) = 0

same-refusal_number : {A : Type 0} → refusal_number-kept {A = A} is-kept page.refusal_number {A = A}
unfolding refusal_number-kept page.refusal_number
same-refusal_number = by-text

certificate_kind-kept : Certificate → ℕ
certificate_kind-kept on_block = 5
certificate_kind-kept on_dummy = 6

same-certificate_kind : certificate_kind-kept is-kept page.certificate_kind
unfolding certificate_kind-kept page.certificate_kind
same-certificate_kind = by-text

finalize_kind-kept : Bool → ℕ
finalize_kind-kept true = 4
finalize_kind-kept false = 0

same-finalize_kind : finalize_kind-kept is-kept page.finalize_kind
unfolding finalize_kind-kept page.finalize_kind
same-finalize_kind = by-text

move_number-kept : Move → ℕ
move_number-kept idle = 0
move_number-kept (vote_dummy h) = 1
move_number-kept (output g) = 2
move_number-kept (pass h certificate finalized) = 3
move_number-kept (propose h) = 4
move_number-kept (vote_block h) = 5

same-move_number : move_number-kept is-kept page.move_number
unfolding move_number-kept page.move_number
same-move_number = by-text

move_height-kept : Move → ℕ
move_height-kept idle = 0
move_height-kept (vote_dummy h) = h
move_height-kept (output g) = g
move_height-kept (pass h certificate finalized) = h
move_height-kept (propose h) = h
move_height-kept (vote_block h) = h

same-move_height : move_height-kept is-kept page.move_height
unfolding move_height-kept page.move_height
same-move_height = by-text
