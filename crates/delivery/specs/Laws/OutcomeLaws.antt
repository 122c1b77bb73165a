-- Deliver's outcome by the row that fails, and what it is where none does.
use Rattle.std.specs.Prelude.{ℕ, ◌≡◌, true, false}
use Rattle.std.proofs.Math.Path.{ap, refl}
use Rattle.std.proofs.Common.{◌∙◌}
use Rattle.std.proofs.Math.Option.{Option, some, none}
use Rattle.protocol.specs.Bytes.{Bytes}
use Rattle.protocol.specs.Tests.{first_refusal}
use Rattle.protocol.specs.Frame.{frame_height}
use Rattle.protocol.specs.State.{Height, decode}
use Rattle.protocol.specs.Sound.{sound}
use Rattle.protocol.specs.Answer.{Outcome, Delivery, refused, unless_refused}
use Rattle.protocol.proofs.Laws.RowLaws.{pass_row, refuse_row, pass_rows, refuse_rows}
use Rattle.protocol.specs.Deliver.{read_rows, clash_rows, deliver_rows, kept, heard, deliver_call}
use Rattle.answers.specs.declared.answer.Delivered.{Delivered}
use Rattle.contradictions.specs.Accepted.{accepted_book}
use Rattle.delivery.specs.Kept.{kept_at, read_outcome}

abbrev refused_by : ℕ → Bytes → Outcome Delivery
refused_by number book = record { answer = refused number; book = book }

module _ (digest : Bytes → Bytes) (book frame : Bytes) where
  pub read_refused : (number : ℕ) → first_refusal (clash_rows (decode book) frame) ≡ some number →
      read_outcome digest book frame ≡ refused_by number book
  unfolding read_outcome unless_refused
  read_refused number e = rw e

  pub read_heard : first_refusal (clash_rows (decode book) frame) ≡ none → (answer : Delivered) (after : Bytes) →
      accepted_book answer after ≡ heard digest book frame → read_outcome digest book frame ≡ accepted_book answer after
  unfolding read_outcome unless_refused
  read_heard e answer after hears = rw (e, ← hears)

  pub call_unsound : sound digest book ≡ false → deliver_call digest book frame ≡ refused_by 1 book
  unfolding deliver_call deliver_rows unless_refused
  call_unsound e = ap (λ (o : Option ℕ). unless_refused o book (heard digest book frame))
      (refuse_row (1, sound digest book) _ e)

  pub call_refused : (number : ℕ) → sound digest book ≡ true →
      first_refusal (read_rows (decode book) frame) ≡ some number → deliver_call digest book frame ≡ refused_by number book
  unfolding deliver_call deliver_rows unless_refused
  call_refused number e f =
      ap (λ (o : Option ℕ). unless_refused o book (heard digest book frame))
      (pass_row (1, sound digest book) _ e ∙ refuse_rows (read_rows (decode book) frame) (clash_rows (decode book) frame)
      number f)

  pub call_read : sound digest book ≡ true → first_refusal (read_rows (decode book) frame) ≡ none →
      deliver_call digest book frame ≡ read_outcome digest book frame
  unfolding deliver_call deliver_rows read_outcome
  call_read e f =
      ap (λ (o : Option ℕ). unless_refused o book (heard digest book frame))
      (pass_row (1, sound digest book) _ e ∙ pass_rows (read_rows (decode book) frame) (clash_rows (decode book) frame) f)

  -- ---- what is kept
  pub kept_accepted : (h : ℕ) → h ≡ frame_height frame → (o : Option Height) → kept_at book h o ≡ kept digest book frame o
  unfolding kept_at kept
  kept_accepted h is none = refl
  kept_accepted h is (some x) = rw is
