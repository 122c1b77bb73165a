-- Move and Signal leave a sound state.
use Rattle.std.specs.Prelude.{ℕ, ◌+◌, ◌^◌, ◌≤◌, ◌<◌, ◌≡◌, ◌⊎◌, true, false}
use Rattle.std.proofs.Common.{arith}
use Rattle.std.proofs.Math.Logic.{inl, inr}
use borrow.Author.Tests.{leb-true}
use Rattle.protocol.specs.SoundState.{SoundState}
use Rattle.protocol.specs.Bytes.{Bytes}
use Rattle.protocol.specs.State.{State, last, flag, with_head, with_timer_fired}
use Rattle.protocol.specs.View.{is_finalized}
use Rattle.protocol.specs.Sound.{view}
use Rattle.protocol.specs.Move.{Step, is_running, new_finalized, step, dummy_vote_applies, dummy_vote_step, output_step}
use Rattle.protocol.specs.Move.{pass_applies, pass_step, propose_applies, propose_step, block_vote_applies, block_vote_step}
use Rattle.protocol.specs.Move.{idle_step}
use Rattle.protocol.specs.Linked.{Finalized}
use Rattle.protocol.proofs.Laws.LinkedLaws.{finalized_complete}
use Rattle.protocol.proofs.Laws.ParentLaws.{largest_finalized-is}
use Rattle.protocol.proofs.Laws.TestsLaws.{and_both}
use Rattle.call_laws.proofs.Laws.HeadSoundLaws.{head_sound}
use Rattle.protocol.proofs.Laws.FlagLaws.{flag_room}
use Rattle.protocol.proofs.Laws.MoveLaws.{step_cases, dummy_vote_rows, propose_rows, block_vote_rows}

module _ (digest : Bytes → Bytes) (s : State) (is : SoundState digest s) where
  with_head_sound : (f c g : ℕ) → f < 16 → 1 ≤ c → c ≤ last s + 1 → (g ≡ 0) ⊎ (is_finalized digest (view s) g ≡ true) →
      SoundState digest (with_head s f c g)
  unfolding with_head
  with_head_sound f c g small low high ended = head_sound digest s is f c g s.pending_count s.pool small low high
      ended is.pending_few is.shaped.pool_size_lem

  -- one more flag
  flag_sound : (bit : ℕ) → bit < 4 → flag (2 ^ bit) s ≡ false →
      SoundState digest (with_head s (s.flags + 2 ^ bit) s.current s.finalized)
  flag_sound bit inside e =
      with_head_sound (s.flags + 2 ^ bit) s.current s.finalized
      (flag_room s s.current s.finalized bit e inside is.flags_small) is.current_low
      is.current_high is.final

  abbrev After : Step → Type 0
  After st = SoundState digest st.after

  dummy_vote_lem : dummy_vote_applies s ≡ true → After (dummy_vote_step s)
  unfolding dummy_vote_step
  dummy_vote_lem e = flag_sound 1 (omega arith) (dummy_vote_rows s e).not_yet

  pub output_sound : After (output_step digest s)
  unfolding output_step new_finalized
  output_sound = with_head_sound s.flags s.current (new_finalized digest s) is.flags_small is.current_low
      is.current_high
      (tested (largest_finalized-is digest (view s) (last s)).finalized)
    where
      tested : {g : ℕ} → (g ≡ 0) ⊎ Finalized digest (view s) g → (g ≡ 0) ⊎ (is_finalized digest (view s) g ≡ true)
      tested (inl z) = inl z
      tested {g} (inr z) = inr (finalized_complete digest (view s) g z)

  pass_sound : pass_applies digest s ≡ true → After (pass_step digest s)
  unfolding pass_applies pass_step is_running
  pass_sound e =
      let running : s.current ≤ last s = leb-true _ _ (and_both _ _ e).0 in
      with_head_sound 0 (s.current + 1) s.finalized (omega arith) (omega arith) (omega arith) is.final

  propose_sound : propose_applies digest s ≡ true → After (propose_step digest s)
  unfolding propose_step
  propose_sound e = flag_sound 3 (omega arith) (propose_rows digest s e).not_yet

  block_vote_lem : block_vote_applies digest s ≡ true → After (block_vote_step digest s)
  unfolding block_vote_step
  block_vote_lem e = flag_sound 2 (omega arith) (block_vote_rows digest s e).not_yet

  idle_sound : After (idle_step s)
  unfolding idle_step
  idle_sound = is

  pub step_sound : After (step digest s)
  step_sound = step_cases digest s After
      dummy_vote_lem (λ _ _. output_sound) (λ _ _. pass_sound) (λ _ _ _. propose_sound) (λ _ _ _ _. block_vote_lem)
      (λ _ _ _ _ _. idle_sound)

  pub timer_sound : flag 1 s ≡ false → SoundState digest (with_timer_fired s)
  unfolding with_timer_fired
  timer_sound e = flag_sound 0 (omega arith) e
