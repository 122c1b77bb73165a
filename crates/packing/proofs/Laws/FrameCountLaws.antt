-- A move wrote as many frames as its number and its second frame's kind say.
use Rattle.std.specs.Prelude.{ℕ, ◌≡◌, Bool, ◌||◌, not, [], ◌∷◌, eqb}
use Rattle.std.proofs.Math.Path.{refl}
use Rattle.std.proofs.Math.Bool.{true, false, cond}
use Rattle.std.proofs.Math.Option.{Option, some, none}
use Rattle.std.proofs.Math.ListN.{length}
use Rattle.protocol.specs.Bytes.{Bytes}
use Rattle.protocol.proofs.Laws.TestsLaws.{cond-elim}
use Rattle.protocol.specs.Frame.{finalize}
use Rattle.protocol.specs.State.{State, decode, flag}
use Rattle.protocol.specs.Answer.{certificate_kind, finalize_kind, move_number}
use Rattle.protocol.specs.Certificates.{certificate_frame}
use Rattle.protocol.specs.Move.{Step, first_step, step, dummy_vote_applies, dummy_vote_step, output_applies, output_step}
use Rattle.protocol.specs.Move.{pass_applies, passes_by, pass_step, propose_applies, propose_step}
use Rattle.protocol.specs.Move.{block_vote_applies, block_vote_step, idle_step}
use Rattle.protocol.specs.Move.{MoveOutcome, moved, unless_move_refused, move_call}
use Rattle.answers.specs.MoveNumbers.{answer_numbers, move_finalize}

-- as many as the header's function says, of an answer's move and second frame
abbrev pub frame_count : ℕ → ℕ → ℕ
frame_count number finalize = cond (eqb number 0 || eqb number 2) 0 (cond (eqb finalize 0) 1 2)

module _ (digest : Bytes → Bytes) where
  module _ (s : State) where
    abbrev Counted : Step → Type 0
    Counted st = frame_count (move_number st.move) (move_finalize st.move) ≡ length st.frames

    pass_counted : Counted (pass_step digest s)
    unfolding pass_step move_number move_finalize finalize_kind
    pass_counted = go (not (flag 1 s))
      where
        go : (inTime : Bool) →
            cond (eqb (finalize_kind inTime) 0) 1 2
            ≡ length (certificate_frame s (certificate_kind (passes_by digest s)) s.current ∷ cond inTime
            (finalize s.own s.current ∷ []) [])
        go true = unfold finalize_kind in refl
        go false = unfold finalize_kind in refl

    step_counted : Counted (step digest s)
    unfolding step first_step move_number move_finalize dummy_vote_step output_step propose_step block_vote_step idle_step
    step_counted =
        cond-elim Counted (dummy_vote_applies s) (λ _. refl) λ _.
        cond-elim Counted (output_applies digest s) (λ _. refl) λ _.
        cond-elim Counted (pass_applies digest s) (λ _. pass_counted) λ _.
        cond-elim Counted (propose_applies digest s) (λ _. refl) λ _.
        cond-elim Counted (block_vote_applies digest s) (λ _. refl) λ _. refl

  abbrev pub AllCounted : MoveOutcome → Type 0
  AllCounted m =
      frame_count (answer_numbers m.answer).move (answer_numbers m.answer).finalize ≡ length m.frames

  pub move_counted : (book reply : Bytes) → AllCounted (move_call digest book reply)
  unfolding move_call
  move_counted book reply = go _
    where
      go : (r : Option ℕ) → AllCounted (unless_move_refused r book reply (step digest (decode book)))
      go none = unfold unless_move_refused moved answer_numbers in step_counted (decode book)
      go (some number) = unfold unless_move_refused answer_numbers in refl
