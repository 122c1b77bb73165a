-- Proofs of `Idle`: Move idles if and only if no move applies, and moving until idle ends, since each move lowers a
-- number that is at most H + 4 − c.
use Prim.Native.Nat.{ℕ, zero, suc, ◌+◌, ◌-◌, ◌≤◌, ◌<◌}
use native.Mathlib.Omega.{arith}
use Rattle.std.specs.Prelude.{◌≡◌, ◌⊎◌, true, length}
use Rattle.std.proofs.Common.{sym, ◌∙◌, inl, inr}
use Rattle.std.proofs.Math.Path.{ap}
use borrow.Author.Tests.{le-leb}
use Rattle.protocol.specs.Bytes.{Bytes, zeros, join}
use Rattle.protocol.specs.Tests.{first_refusal}
use Rattle.protocol.proofs.Laws.FrontLaws.{front_none}
use Rattle.protocol.proofs.Laws.SoundLaws.{encode_decode}
use Rattle.protocol.proofs.Laws.MoveLaws.{step_cases}
use Rattle.protocol.specs.State.{State, decode, last}
use Rattle.protocol.specs.Sound.{sound}
use Rattle.protocol.specs.Answer.{accepted, Move, idle, move_number}
use Rattle.protocol.specs.Move.{MoveOutcome, move_rows, move_call, unless_move_refused, moved, written, unused, Step, step}
use Rattle.protocol.specs.Move.{after_moves, first_step, idle_step, dummy_vote_step, output_step, pass_step, propose_step}
use Rattle.protocol.specs.Move.{block_vote_step}
use Rattle.paper.specs.Idle.{NoMove, IdleMeansNoMove, IdlesJustThen, IdleWithin, MovesEnd}
use Rattle.paper.proofs.Laws.MeasureLaws.{measure, measure_most, measure_full}
use Rattle.paper.proofs.Laws.FallingLaws.{lowers}

module _ (digest : Bytes → Bytes) where
  pub no_move_idle : (s : State) → NoMove digest s → (step digest s).move ≡ idle
  unfolding step first_step idle_step
  no_move_idle s q = rw (q.no_dummy_vote, q.no_output, q.no_pass, q.no_proposal, q.no_block_vote)

  pub idle_no_move : (s : State) → (step digest s).move ≡ idle → NoMove digest s
  unfolding dummy_vote_step output_step pass_step propose_step block_vote_step move_number
  idle_no_move s = step_cases digest s (λ (st : Step). st.move ≡ idle → NoMove digest s)
      (λ _ q. absurd (omega (arith, ap move_number q)))
      (λ _ _ q. absurd (omega (arith, ap move_number q)))
      (λ _ _ _ q. absurd (omega (arith, ap move_number q)))
      (λ _ _ _ _ q. absurd (omega (arith, ap move_number q)))
      (λ _ _ _ _ _ q. absurd (omega (arith, ap move_number q)))
      (λ a b c d e q. record { no_dummy_vote = a; no_output = b; no_pass = c; no_proposal = d; no_block_vote = e })

  pub idle_means_no_move : (s : State) → IdleMeansNoMove digest s
  unfolding IdleMeansNoMove
  idle_means_no_move s = (idle_no_move s, no_move_idle s)

-- ---- over bytes
-- the step taken where no move applies
pub step_idle : (digest : Bytes → Bytes) (s : State) → NoMove digest s → step digest s ≡ idle_step s
unfolding step first_step
step_idle digest s q = rw (q.no_dummy_vote, q.no_output, q.no_pass, q.no_proposal, q.no_block_vote)

module _ (digest : Bytes → Bytes) (book reply : Bytes) (ok : sound digest book ≡ true)
    (room : 448 ≤ length reply) where
  move_made : move_call digest book reply ≡ moved reply (step digest (decode book))
  unfolding move_call move_rows first_refusal unless_move_refused
  move_made = rw (ok, le-leb 448 (length reply) room)

  answer_made : (move_call digest book reply).answer ≡ accepted (step digest (decode book)).move
  unfolding moved
  answer_made = ap (λ (o : MoveOutcome). o.answer) move_made

  same_move : {m n : Move} → accepted m ≡ accepted n → m ≡ n
  same_move e = cc

  idle_move : (move_call digest book reply).answer ≡ accepted idle → NoMove digest (decode book)
  idle_move e = idle_no_move digest (decode book) (same_move (sym answer_made ∙ e))

  idle_made : NoMove digest (decode book) → move_call digest book reply ≡ moved reply (idle_step (decode book))
  idle_made q = move_made ∙ ap (moved reply) (step_idle digest (decode book) q)

  pub idles_just_then : IdlesJustThen digest book reply
  unfolding moved idle_step written join unused
  idles_just_then = record {
    just_then = (idle_move, λ q. ap (λ (o : MoveOutcome). o.answer) (idle_made q));
    unchanged = λ small e.
        let made = idle_made (idle_move e) in (
          ap (λ (o : MoveOutcome). o.book) made ∙ encode_decode digest book ok small,
          ap (λ (o : MoveOutcome). o.reply) made ∙ unfold zeros in front_none reply,
        );
  }

module _ (digest : Bytes → Bytes) where
  -- ---- moving until idle ends
  ends : (most : ℕ) (s : State) → measure digest s ≤ most → IdleWithin digest most s
  unfolding IdleWithin after_moves
  ends zero s le = go (lowers digest s)
    where
      go : NoMove digest s ⊎ (measure digest (step digest s).after < measure digest s) →
          (k : ℕ) × (k ≤ 0) × ((step digest (after_moves digest k s)).move ≡ idle)
      go (inl q) = (0, omega arith, no_move_idle digest s q)
      go (inr q) = absurd (omega arith)
  ends (suc most) s le = go (lowers digest s) (λ q. ends most (step digest s).after q)
    where
      go : NoMove digest s ⊎ (measure digest (step digest s).after < measure digest s) →
          (measure digest (step digest s).after ≤ most → IdleWithin digest most (step digest s).after) →
          IdleWithin digest (suc most) s
      go (inl q) later = (0, omega arith, no_move_idle digest s q)
      go (inr q) later = let (k, le', e) = later (omega arith) in (suc k, omega arith, e)

  pub moves_end : (s : State) → MovesEnd digest s
  unfolding MovesEnd
  moves_end s = (
    (λ le. ends (last s + 4 - s.current) s (measure_most digest s le)),
    (λ le. ends 1 s (measure_full digest s le)),
  )
