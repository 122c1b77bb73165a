-- A refusal of any call has one of the documents' numbers, so that it fits the lowest byte and is not 0.
use Rattle.std.specs.Prelude.{ℕ, ◌≤◌, ◌≡◌, Bool, true, ◌&&◌, List, [], ◌∷◌}
use native.Mathlib.Omega.{arith}
use Rattle.std.proofs.Math.Path.{refl}
use Rattle.std.proofs.Math.Option.{Option, some, none}
use Rattle.protocol.specs.Bytes.{Bytes}
use Rattle.protocol.specs.Tests.{Row, in_range, first_refusal}
use Rattle.protocol.proofs.Laws.TestsLaws.{and_both, cond-elim}
use Rattle.protocol.proofs.Laws.RowLaws.{in_range_lem}
use Rattle.protocol.specs.Sound.{sound}
use Rattle.protocol.specs.Answer.{refused, accepted, Outcome, unless_refused}
use Rattle.protocol.specs.Open.{Opening, open_rows, open_call}
use Rattle.protocol.specs.Deliver.{read_rows, clash_rows, deliver_rows, deliver_call}
use Rattle.protocol.specs.Packet.{packet_rows, packet_call}
use Rattle.protocol.specs.Signal.{signal_rows, signal_call}
use Rattle.protocol.specs.Submit.{submit_rows, submit_call}
use Rattle.protocol.specs.Fetch.{unless_fetch_refused, fetch_rows, fetch_call}
use Rattle.protocol.specs.Read.{size_call}
use Rattle.protocol.specs.Move.{Step, moved, unless_move_refused, move_rows, move_call}
use Rattle.protocol.proofs.Laws.DeliverLaws.{heard_accepted}
use Rattle.packing.specs.Unpacking.{last_refusal, Numbered}

-- ---- rows of refusals
-- the number of every row is one of the documents'
unfoldable pub all_numbered : List Row → Bool
all_numbered [] = true
all_numbered (row ∷ rows) = in_range 1 last_refusal row.0 && all_numbered rows

abbrev NumberedRows : Option ℕ → Type 0
NumberedRows r = (number : ℕ) → r ≡ some number → (1 ≤ number) × (number ≤ last_refusal)

first_numbered : (rows : List Row) → all_numbered rows ≡ true → NumberedRows (first_refusal rows)
unfolding first_refusal all_numbered
first_numbered [] e = λ number f. let z : ◌≡◌ {A = ℕ} 0 1 = cc in absurd (omega arith)
first_numbered (row ∷ rows) e =
    let t = and_both (in_range 1 last_refusal row.0) (all_numbered rows) e in
    cond-elim NumberedRows row.1
    (λ _. first_numbered rows t.1)
    (λ _ number f. let same : row.0 ≡ number = cc in rw same at (in_range_lem 1 last_refusal row.0 t.0))

pub accepted_numbered : {A : Type 0} (x : A) → Numbered (accepted x)
accepted_numbered x number e = let z : ◌≡◌ {A = ℕ} 0 1 = cc in absurd (omega arith)

pub refused_numbered : {A : Type 0} (number : ℕ) → (1 ≤ number) × (number ≤ last_refusal) →
    Numbered {A = A} (refused number)
refused_numbered number low other e = let same : number ≡ other = cc in rw same at low

pub outcome_numbered : {A : Type 0} (rows : List Row) → all_numbered rows ≡ true → (book : Bytes) (o : Outcome A) →
    Numbered o.answer → Numbered (unless_refused (first_refusal rows) book o).answer
outcome_numbered rows all book o ok = go (first_refusal rows) (first_numbered rows all)
  where
    go : (r : Option ℕ) → NumberedRows r → Numbered (unless_refused r book o).answer
    go none e = unfold unless_refused in ok
    go (some number) e = unfold unless_refused in refused_numbered number (e number refl)

-- ---- each call
pub open_numbered : (way : Opening) (book : Bytes) (n own heights : ℕ) (leaders : Bytes) →
    Numbered (open_call way book n own heights leaders).answer
unfolding open_call open_rows all_numbered in_range
open_numbered way book n own heights leaders = outcome_numbered _ refl book _ (accepted_numbered _)

module _ (digest : Bytes → Bytes) (book : Bytes) where
  pub deliver_numbered : (frame : Bytes) → Numbered (deliver_call digest book frame).answer
  unfolding deliver_call deliver_rows read_rows clash_rows all_numbered in_range
  deliver_numbered frame =
      let (news, e) = heard_accepted digest book frame in
      outcome_numbered _ refl book _ (rw e (accepted_numbered news))

  pub packet_numbered : (packet : Bytes) → Numbered (packet_call digest book packet).answer
  unfolding packet_call packet_rows all_numbered in_range
  packet_numbered packet = outcome_numbered _ refl book _ (accepted_numbered _)

  pub signal_numbered : (h : ℕ) → Numbered (signal_call digest book h).answer
  unfolding signal_call signal_rows all_numbered in_range
  signal_numbered h = outcome_numbered _ refl book _ (accepted_numbered _)

  pub submit_numbered : (entry : Bytes) → Numbered (submit_call digest book entry).answer
  unfolding submit_call submit_rows all_numbered in_range
  submit_numbered entry = outcome_numbered _ refl book _ (accepted_numbered _)

  pub fetch_numbered : (k h : ℕ) (reply : Bytes) → Numbered (fetch_call digest book k h reply).answer
  unfolding fetch_call fetch_rows all_numbered in_range
  fetch_numbered k h reply = go _ (first_numbered _ refl) _
    where
      go : (r : Option ℕ) → NumberedRows r → (frame : Bytes) → Numbered (unless_fetch_refused r frame reply).answer
      go none e frame = unfold unless_fetch_refused in accepted_numbered _
      go (some number) e frame = unfold unless_fetch_refused in refused_numbered number (e number refl)

  pub move_numbered : (reply : Bytes) → Numbered (move_call digest book reply).answer
  unfolding move_call move_rows all_numbered in_range
  move_numbered reply = go _ (first_numbered _ refl) _
    where
      go : (r : Option ℕ) → NumberedRows r → (st : Step) → Numbered (unless_move_refused r book reply st).answer
      go none e st = unfold unless_move_refused moved in accepted_numbered _
      go (some number) e st = unfold unless_move_refused in refused_numbered number (e number refl)

  pub size_numbered : Numbered (size_call digest book)
  unfolding size_call
  size_numbered =
      cond-elim Numbered (sound digest book)
      (λ _. accepted_numbered _)
      (λ _. refused_numbered 1 (omega arith, omega arith))
