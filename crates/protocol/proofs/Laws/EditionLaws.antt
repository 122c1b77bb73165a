-- No rule goes by the edition of a state: what a state shows, what is kept and what is done is the same in another
-- edition.
use Rattle.std.specs.Prelude.{ℕ, ◌≡◌, Bool, true, false, List, [], ◌∷◌, map}
use Rattle.std.proofs.Math.Path.{refl}
use Rattle.protocol.specs.Bytes.{Bytes}
use Rattle.protocol.specs.State.{State, Height, with_height, with_edition, at}
use Rattle.protocol.specs.Sound.{view, log}
use Rattle.protocol.specs.Deliver.{keep, read_rows, clash_rows, leader_equivocates}
use Rattle.protocol.specs.Move.{Step, step, first_step, idle_step, dummy_vote_applies, dummy_vote_step, output_applies}
use Rattle.protocol.specs.Move.{output_step, pass_applies, pass_step, propose_applies, propose_step, block_vote_applies}
use Rattle.protocol.specs.Move.{block_vote_step}
use Rattle.protocol.specs.Submit.{with_pending, still_pending}
use Rattle.protocol.specs.Computing.{everything}

first_step_map : (f : Step → Step) (rows : List (Bool × Step)) (otherwise : Step) →
    first_step (map (λ (r : Bool × Step). (r.0, f r.1)) rows) (f otherwise) ≡ f (first_step rows otherwise)
unfolding first_step
first_step_map f [] otherwise = refl
first_step_map f ((true, x) ∷ rows) otherwise = refl
first_step_map f ((false, x) ∷ rows) otherwise = first_step_map f rows otherwise

module _ (edition : ℕ) (s : State) where
  abbrev s' : State
  s' = with_edition edition s

  pub same_view : view s' ≡ view s
  unfolding with_edition view at
  same_view = refl

  pub same_log : log s' ≡ log s
  unfolding with_edition view at log
  same_log = refl

  pub height_commutes : (h : ℕ) (x : Height) → with_height s' h x ≡ with_edition edition (with_height s h x)
  unfolding with_edition with_height
  height_commutes h x = refl

  pub pending_commutes : (es : List Bytes) → with_pending s' es ≡ with_edition edition (with_pending s es)
  unfolding with_edition with_pending
  pending_commutes es = refl

  pub same_pending : still_pending s' ≡ still_pending s
  unfolding with_edition everything
  same_pending = refl

  pub same_reading : (frame : Bytes) → read_rows s' frame ≡ read_rows s frame
  unfolding with_edition everything
  same_reading frame = refl

  pub same_clashes : (frame : Bytes) → clash_rows s' frame ≡ clash_rows s frame
  unfolding with_edition everything
  same_clashes frame = refl

  pub same_equivocation : (frame : Bytes) → leader_equivocates s' frame ≡ leader_equivocates s frame
  unfolding with_edition everything
  same_equivocation frame = refl

  module _ (digest : Bytes → Bytes) where
    pub same_keep : (frame : Bytes) → keep digest s' frame ≡ keep digest s frame
    unfolding with_edition everything
    same_keep frame = refl

    -- a step to the same state in another edition
    abbrev in_edition : Step → Step
    in_edition st = record { move = st.move; after = with_edition edition st.after; frames = st.frames }

    pub step_commutes : step digest s' ≡ in_edition (step digest s)
    unfolding with_edition everything
    step_commutes =
        first_step_map in_edition
        ((dummy_vote_applies s, dummy_vote_step s) ∷
        (output_applies digest s, output_step digest s) ∷
        (pass_applies digest s, pass_step digest s) ∷
        (propose_applies digest s, propose_step digest s) ∷
        (block_vote_applies digest s, block_vote_step digest s) ∷ [])
        (idle_step s)
