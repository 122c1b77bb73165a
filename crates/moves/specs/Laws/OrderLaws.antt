-- The order of the moves: which step is taken, by the tests that failed before it, and what the call then answers.
use Rattle.std.specs.Prelude.{ℕ, ◌≤◌, ◌<◌, ◌≡◌, refl, true, false, length, leb, Result, Ok, Err}
use Rattle.std.proofs.Common.{arith, ap, sym, subst}
use Rattle.std.proofs.lemmas.Bool.{lt-ltb, le-ltb}
use Rattle.sha256.specs.Digest.{sha256}
use Rattle.protocol.specs.Bytes.{Bytes, zeros, join, over_front}
use Rattle.protocol.specs.Tests.{first_refusal}
use Rattle.protocol.proofs.Laws.TestsLaws.{and_both}
use Rattle.protocol.specs.State.{State, decode, encode}
use Rattle.protocol.specs.Sound.{sound}
use Rattle.protocol.specs.Answer.{accepted}
use Rattle.protocol.specs.Move.{Step, first_step, step, written, unused, moved, unless_move_refused, move_rows, move_call}
use Rattle.protocol.specs.Move.{is_running, new_finalized, dummy_vote_applies, dummy_vote_step}
use Rattle.protocol.specs.Move.{output_applies, output_step, pass_applies, pass_step, propose_applies, propose_step}
use Rattle.protocol.specs.Move.{block_vote_applies, block_vote_step, idle_step}
use Rattle.answers.specs.declared.answer.Moved.{Moved}
use Rattle.answers.specs.declared.refusal.Refusal.{Refusal}
use Rattle.answers.specs.Answers.{move_of, moved_answer}
use Rattle.applies.specs.Took.{Took}
use Rattle.moves.specs.Later.{later_step}

-- ---- which step
module _ (s : State) where
  pub later_pass : pass_applies sha256 s ≡ true → later_step s ≡ pass_step sha256 s
  unfolding later_step first_step
  later_pass e = rw e

  pub later_propose : pass_applies sha256 s ≡ false → propose_applies sha256 s ≡ true → later_step s ≡ propose_step sha256 s
  unfolding later_step first_step
  later_propose e f = rw (e, f)

  pub later_vote : pass_applies sha256 s ≡ false → propose_applies sha256 s ≡ false → block_vote_applies sha256 s ≡ true →
      later_step s ≡ block_vote_step sha256 s
  unfolding later_step first_step
  later_vote e f g = rw (e, f, g)

  pub later_idle : pass_applies sha256 s ≡ false → propose_applies sha256 s ≡ false → block_vote_applies sha256 s ≡ false →
      later_step s ≡ idle_step s
  unfolding later_step first_step
  later_idle e f g = rw (e, f, g)

  pub step_dummy : dummy_vote_applies s ≡ true → step sha256 s ≡ dummy_vote_step s
  unfolding step first_step
  step_dummy e = rw e

  pub step_output : dummy_vote_applies s ≡ false → output_applies sha256 s ≡ true → step sha256 s ≡ output_step sha256 s
  unfolding step first_step
  step_output e f = rw (e, f)

  pub step_later : dummy_vote_applies s ≡ false → output_applies sha256 s ≡ false → step sha256 s ≡ later_step s
  unfolding step first_step later_step
  step_later e f = rw (e, f)

  -- ---- what a test that passed says
  pub pass_running : pass_applies sha256 s ≡ true → is_running s ≡ true
  unfolding pass_applies
  pass_running e = (and_both _ _ e).0

  module _ (g settled : ℕ) (g-is : g ≡ new_finalized sha256 s) (settled_is : settled ≡ s.finalized) where
    pub outputs : settled < g → output_applies sha256 s ≡ true
    unfolding output_applies
    outputs h = lt-ltb s.finalized (new_finalized sha256 s) (omega arith)

    pub outputs_not : g ≤ settled → output_applies sha256 s ≡ false
    unfolding output_applies
    outputs_not h = le-ltb s.finalized (new_finalized sha256 s) (omega arith)

-- ---- what it leaves
pub took_as : {st other : Step} {reply : Bytes} {r : Moved} {book_after replyAfter : Bytes} → other ≡ st →
    Took st reply r book_after replyAfter → Took other reply r book_after replyAfter
took_as {reply = reply} {r = r} {book_after = book_after} {replyAfter = replyAfter} e t =
    subst (λ (st : Step). Took st reply r book_after replyAfter) (sym e) t

pub took_output : (s : State) (reply book_after : Bytes) (r : Moved) →
    move_of r ≡ (output_step sha256 s).move → book_after ≡ encode (output_step sha256 s).after →
    Took (output_step sha256 s) reply r book_after reply
unfolding output_step written unused join zeros over_front
took_output s reply book_after r a b = record { answer = a; book = b; reply_is = refl }

pub took_idle : (book reply : Bytes) → encode (decode book) ≡ book →
    Took (idle_step (decode book)) reply Moved.Idle book reply
unfolding idle_step written unused join zeros over_front
took_idle book reply whole = record { answer = refl; book = sym whole; reply_is = refl }

-- ---- the call
abbrev pub Called : Bytes → Bytes → Result Moved Refusal → Bytes → Bytes → Type 0
Called book reply r book_after replyAfter =
    (moved_answer r ≡ (move_call sha256 book reply).answer) ×
    ((book_after ≡ (move_call sha256 book reply).book) ×
    (replyAfter ≡ (move_call sha256 book reply).reply))

module _ (book reply : Bytes) where
  pub called : sound sha256 book ≡ true → leb 448 (length reply) ≡ true → (r : Moved) (book_after replyAfter : Bytes) →
      Took (step sha256 (decode book)) reply r book_after replyAfter → Called book reply (Ok r) book_after replyAfter
  unfolding move_call move_rows first_refusal unless_move_refused moved
  called e f r book_after replyAfter t = rw (e, f) (ap accepted t.answer, (t.book, t.reply_is))

  pub called_short : sound sha256 book ≡ true → leb 448 (length reply) ≡ false →
      Called book reply (Err Refusal.ShortReply) book reply
  unfolding move_call move_rows first_refusal unless_move_refused
  called_short e f = rw (e, f) (refl, (refl, refl))

  pub called_unsound : sound sha256 book ≡ false → Called book reply (Err Refusal.Unsound) book reply
  unfolding move_call move_rows first_refusal unless_move_refused
  called_unsound e = rw e (refl, (refl, refl))
