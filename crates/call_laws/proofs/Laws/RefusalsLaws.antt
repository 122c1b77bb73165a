-- Every call refuses as `Refusals` says.
use Prim.Native.Nat.{ℕ}
use Rattle.std.specs.Prelude.{◌≡◌, Bool, true, false, cond, List, [], ◌∷◌}
use Rattle.std.proofs.Math.Path.{refl}
use Rattle.std.proofs.Common.{sym, ap, subst, ◌∙◌, true≢false}
use Rattle.std.proofs.Math.Option.{Option, some, none}
use Rattle.protocol.specs.Bytes.{Bytes}
use Rattle.protocol.specs.Tests.{Row, first_refusal}
use Rattle.protocol.specs.Answer.{Answer, Outcome, Done, Delivery, Counts, Move, refused, accepted, unless_refused}
use Rattle.protocol.specs.State.{decode}
use Rattle.protocol.specs.Sound.{sound}
use Rattle.protocol.specs.Open.{Opening, open_rows, open_call}
use Rattle.protocol.specs.Deliver.{deliver_rows, heard, deliver_call}
use Rattle.protocol.specs.Packet.{packet_rows, packet_call}
use Rattle.protocol.specs.Move.{MoveOutcome, moved, step, unless_move_refused, move_rows, move_call}
use Rattle.protocol.specs.Signal.{signal_rows, signal_call}
use Rattle.protocol.specs.Submit.{submit_rows, submit_call}
use Rattle.protocol.specs.Read.{log_size, size_call}
use Rattle.protocol.specs.Fetch.{unless_fetch_refused, fetch_rows, fetch_call}
use Rattle.protocol.specs.Certificates.{certificate_frame}
use Rattle.protocol.proofs.Laws.DeliverLaws.{heard_accepted}
use Rattle.call_laws.specs.Refusals.{Refuses}

pub refused≢accepted : {A : Type 0} (number : ℕ) (answer : A) → refused number ≡ accepted answer → ⊥
refused≢accepted number answer e = true≢false (let impossible : true ≡ false = cc in impossible)

same_number : {A : Type 0} {m n : ℕ} → ◌≡◌ {A = Answer A} (refused m) (refused n) → m ≡ n
same_number e = cc

-- by the first row that fails, if one does
by_row : {A : Type 0} (rows : List Row) (answer : Option ℕ → Answer A) (before : List Bytes)
    (after : Option ℕ → List Bytes) (a : A) →
    answer none ≡ accepted a → ((number : ℕ) → answer (some number) ≡ refused number) →
    ((number : ℕ) → after (some number) ≡ before) →
    Refuses A rows (answer (first_refusal rows)) before (after (first_refusal rows))
by_row rows answer before after a passes refuses stays = record {
  by_number = λ number. (forth number (first_refusal rows), back number);
  unchanged = λ number. same number (first_refusal rows);
}
  where
    forth : (number : ℕ) (r : Option ℕ) → answer r ≡ refused number → r ≡ some number
    forth number none e = absurd (refused≢accepted number a (sym e ∙ passes))
    forth number (some other) e = ap some (same_number (sym (refuses other) ∙ e))

    back : (number : ℕ) → first_refusal rows ≡ some number → answer (first_refusal rows) ≡ refused number
    back number e = ap answer e ∙ refuses number

    same : (number : ℕ) (r : Option ℕ) → answer r ≡ refused number → after r ≡ before
    same number none e = absurd (refused≢accepted number a (sym e ∙ passes))
    same number (some other) e = stays other

pub outcome_refuses : {A : Type 0} (rows : List Row) (book : Bytes) (outcome : Outcome A) (a : A) →
    outcome.answer ≡ accepted a →
    Refuses A rows (unless_refused (first_refusal rows) book outcome).answer (book ∷ [])
    ((unless_refused (first_refusal rows) book outcome).book ∷ [])
unfolding unless_refused
outcome_refuses rows book outcome a e =
    by_row rows (λ r. (unless_refused r book outcome).answer) (book ∷ [])
    (λ r. (unless_refused r book outcome).book ∷ []) a e (λ _. refl) (λ _. refl)

-- a call with one row, by whether it passes
pub test_refuses : {A : Type 0} (test : Bool) (a : A) →
    Refuses A ((1, test) ∷ []) (cond test (accepted a) (refused 1)) [] []
unfolding first_refusal
test_refuses {A} test a = subst (λ (z : Answer A). Refuses A ((1, test) ∷ []) z [] []) (sym (by_test test))
    (by_row ((1, test) ∷ []) answered [] (λ _. []) a refl (λ _. refl) (λ _. refl))
  where
    answered : Option ℕ → Answer A
    answered none = accepted a
    answered (some number) = refused number

    by_test : (b : Bool) → cond b (accepted a) (refused 1) ≡ answered (first_refusal ((1, b) ∷ []))
    by_test true = refl
    by_test false = refl

pub open_refuses : (way : Opening) (book : Bytes) (n own heights : ℕ) (leaders : Bytes) →
    Refuses Done (open_rows way book n own heights leaders) (open_call way book n own heights leaders).answer (book ∷ [])
    ((open_call way book n own heights leaders).book ∷ [])
unfolding open_call
open_refuses way book n own heights leaders = outcome_refuses (open_rows way book n own heights leaders) book _ _ refl

module _ (digest : Bytes → Bytes) (book : Bytes) where
  pub deliver_refuses : (frame : Bytes) →
      Refuses Delivery (deliver_rows digest book frame) (deliver_call digest book frame).answer (book ∷ [])
      ((deliver_call digest book frame).book ∷ [])
  unfolding deliver_call
  deliver_refuses frame =
      let (news, accepts) = heard_accepted digest book frame in
      outcome_refuses (deliver_rows digest book frame) book (heard digest book frame) news accepts

  pub packet_refuses : (packet : Bytes) →
      Refuses Counts (packet_rows digest book packet) (packet_call digest book packet).answer (book ∷ [])
      ((packet_call digest book packet).book ∷ [])
  unfolding packet_call
  packet_refuses packet = outcome_refuses (packet_rows digest book packet) book _ _ refl

  pub move_refuses : (reply : Bytes) →
      Refuses Move (move_rows digest book reply) (move_call digest book reply).answer (book ∷ reply ∷ [])
      ((move_call digest book reply).book ∷ (move_call digest book reply).reply ∷ [])
  unfolding move_call unless_move_refused moved
  move_refuses reply =
      by_row (move_rows digest book reply) (λ r. (made r).answer) (book ∷ reply ∷ [])
      (λ r. (made r).book ∷ (made r).reply ∷ []) _ refl (λ _. refl) (λ _. refl)
    where
      made : Option ℕ → MoveOutcome
      made r = unless_move_refused r book reply (step digest (decode book))

  pub signal_refuses : (h : ℕ) → Refuses Done (signal_rows digest book h) (signal_call digest book h).answer
      (book ∷ []) ((signal_call digest book h).book ∷ [])
  unfolding signal_call
  signal_refuses h = outcome_refuses (signal_rows digest book h) book _ _ refl

  pub submit_refuses : (entry : Bytes) → Refuses Done (submit_rows digest book entry)
      (submit_call digest book entry).answer (book ∷ []) ((submit_call digest book entry).book ∷ [])
  unfolding submit_call
  submit_refuses entry = outcome_refuses (submit_rows digest book entry) book _ _ refl

  pub fetch_refuses : (k h : ℕ) (reply : Bytes) →
      Refuses Done (fetch_rows digest book k h reply) (fetch_call digest book k h reply).answer (reply ∷ [])
      ((fetch_call digest book k h reply).reply ∷ [])
  unfolding fetch_call unless_fetch_refused
  fetch_refuses k h reply = by_row (fetch_rows digest book k h reply) (λ r. (unless_fetch_refused r frame reply).answer)
      (reply ∷ [])
      (λ r. (unless_fetch_refused r frame reply).reply ∷ []) _ refl (λ _. refl) (λ _. refl)
    where
      frame : Bytes
      frame = certificate_frame (decode book) k h

  -- Register size has one row, and nothing is lent to it that it could change
  pub size_refuses : Refuses ℕ ((1, sound digest book) ∷ []) (size_call digest book) [] []
  unfolding size_call
  size_refuses = test_refuses (sound digest book) (log_size book)
