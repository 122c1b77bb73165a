-- What the calls answer is small: a move's height is at most 1,000 and a size at most 128,000, so that each has room in
-- its place of the packing.
use Rattle.std.specs.Prelude.{ℕ, ◌≤◌, ◌≡◌, refl}
use native.Mathlib.Omega.{arith}
use Rattle.std.proofs.Math.Bool.{true}
use Rattle.std.proofs.Math.Option.{Option, some, none}
use borrow.Author.Tests.{leb-true}
use Rattle.protocol.specs.Bytes.{Bytes}
use Rattle.protocol.specs.Tests.{first_refusal}
use Rattle.protocol.specs.State.{State, last, decode}
use Rattle.protocol.specs.Sound.{view, sound}
use Rattle.protocol.specs.Answer.{Answer, move_height}
use Rattle.protocol.specs.Move.{Step, step, is_running, new_finalized, dummy_vote_step, output_step, pass_applies, pass_step}
use Rattle.protocol.specs.Move.{propose_step, block_vote_step, idle_step, moved, unless_move_refused, move_rows, move_call}
use Rattle.protocol.specs.Read.{log_size, size_call}
use Rattle.protocol.proofs.Laws.TestsLaws.{and_both, cond-elim}
use Rattle.protocol.proofs.Laws.TestedLaws.{move_tested}
use Rattle.protocol.proofs.Laws.MoveLaws.{step_cases, dummy_vote_rows, propose_rows, block_vote_rows}
use Rattle.protocol.proofs.Laws.ParentLaws.{largest_finalized-is}
use Rattle.protocol.proofs.Laws.SoundLaws.{sound_decode, last_high, certified_state}
use Rattle.protocol.proofs.Laws.LogLaws.{log_few}
use Rattle.protocol.specs.Block.{maximum_heights}
use Rattle.packing.specs.Packing.{answered_height, answered_size}

module _ (digest : Bytes → Bytes) where
  -- ---- Move: a step names a height of the book, or is idle and names 0
  module _ (s : State) where
    abbrev Within : Step → Type 0
    Within st = move_height st.move ≤ last s

    running : is_running s ≡ true → s.current ≤ last s
    unfolding is_running
    running = leb-true _ _

    output_within : new_finalized digest s ≤ last s
    unfolding new_finalized
    output_within = (largest_finalized-is digest (view s) (last s)).within

    step_within : Within (step digest s)
    unfolding move_height dummy_vote_step output_step pass_applies pass_step propose_step block_vote_step idle_step
    step_within = step_cases digest s Within
        (λ e. running (dummy_vote_rows s e).running)
        (λ _ _. output_within)
        (λ _ _ e. running (and_both _ _ e).0)
        (λ _ _ _ e. running (propose_rows digest s e).running)
        (λ _ _ _ _ e. running (block_vote_rows digest s e).running)
        (λ _ _ _ _ _. omega arith)

  pub move_height_low : (book reply : Bytes) → answered_height (move_call digest book reply).answer ≤ maximum_heights
  unfolding move_call
  move_height_low book reply = go (first_refusal (move_rows digest book reply)) is_sound_lem
    where
      is_sound_lem : first_refusal (move_rows digest book reply) ≡ none → sound digest book ≡ true
      is_sound_lem passes = (move_tested digest book reply passes).was_sound

      go : (r : Option ℕ) → (r ≡ none → sound digest book ≡ true) →
          answered_height (unless_move_refused r book reply (step digest (decode book))).answer ≤ maximum_heights
      go none e = unfold unless_move_refused moved in
          omega (arith, step_within (decode book), last_high (sound_decode digest book (e refl)))
      go (some number) e = unfold unless_move_refused in omega arith

  -- ---- Register size: 16 bytes for each of at most 8,000 entries
  pub size_low : (book : Bytes) → answered_size (size_call digest book) ≤ 128000
  unfolding size_call log_size
  size_low book =
      cond-elim (λ (a : Answer ℕ). answered_size a ≤ 128000) (sound digest book)
      (λ e. omega (arith, log_few digest (decode book) (certified_state (sound_decode digest book e))))
      (λ _. omega arith)
