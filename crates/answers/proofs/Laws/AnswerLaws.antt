-- The code's answer and what it leaves, where the protocol's outcome is known.
use Rattle.std.specs.Prelude.{ℕ, ⊤, ◌≡◌, List, [], Ok, Err}
use Rattle.std.proofs.Common.{sym, ap, ◌∙◌}
use Rattle.protocol.specs.Bytes.{Bytes}
use Rattle.protocol.specs.Answer.{Outcome, Done, done, refused, accepted}
use Rattle.protocol.specs.Fetch.{FetchOutcome}
use Rattle.answers.specs.declared.refusal.Refusal.{Refusal}
use Rattle.answers.specs.Answers.{answer_with, done_answer}
use Rattle.answers.specs.Refusal.{number_of}

pub outcome_done : {o : Outcome Done} {book after : Bytes} → o ≡ record { answer = accepted done; book = book } →
    after ≡ book →
    (done_answer (Ok _) ≡ o.answer) × (after ≡ o.book)
outcome_done e written = (
  sym (ap (λ (o : Outcome Done). o.answer) e),
  written
      ∙ sym (ap (λ (o : Outcome Done). o.book) e),
)

-- whatever gives a refusal its number
pub outcome_refused_with : {R : Type 0} (number : R → ℕ) {o : Outcome Done} (refusal : R) {book : Bytes} →
    o ≡ record { answer = refused (number refusal); book = book } →
    (answer_with {A = ⊤} number (λ _. done) (Err refusal) ≡ o.answer) × (book ≡ o.book)
outcome_refused_with number refusal e =
    (sym (ap (λ (o : Outcome Done). o.answer) e), sym (ap (λ (o : Outcome Done). o.book) e))

-- the same where the refusal has its name
pub outcome_refused : {o : Outcome Done} (refusal : Refusal) {book : Bytes} →
    o ≡ record { answer = refused (number_of refusal); book = book } →
    (done_answer (Err refusal) ≡ o.answer) × (book ≡ o.book)
outcome_refused refusal e = outcome_refused_with number_of refusal e

pub fetch_answered : {o : FetchOutcome} {reply after : Bytes} {frames : List Bytes} →
    o ≡ record { answer = accepted done; reply = reply; frames = frames } → after ≡ reply →
    (done_answer (Ok _) ≡ o.answer) × (after ≡ o.reply)
fetch_answered e written = (
  sym (ap (λ (o : FetchOutcome). o.answer) e),
  written
      ∙ sym (ap (λ (o : FetchOutcome). o.reply) e),
)

-- whatever gives a refusal its number
pub fetch_refused_with : {R : Type 0} (number : R → ℕ) {o : FetchOutcome} (refusal : R) {reply : Bytes} →
    o ≡ record { answer = refused (number refusal); reply = reply; frames = [] } →
    (answer_with {A = ⊤} number (λ _. done) (Err refusal) ≡ o.answer) × (reply ≡ o.reply)
fetch_refused_with number refusal e =
    (sym (ap (λ (o : FetchOutcome). o.answer) e), sym (ap (λ (o : FetchOutcome). o.reply) e))

-- the same where the refusal has its name
pub fetch_refused : {o : FetchOutcome} (refusal : Refusal) {reply : Bytes} →
    o ≡ record { answer = refused (number_of refusal); reply = reply; frames = [] } →
    (done_answer (Err refusal) ≡ o.answer) × (reply ≡ o.reply)
fetch_refused refusal e = fetch_refused_with number_of refusal e
