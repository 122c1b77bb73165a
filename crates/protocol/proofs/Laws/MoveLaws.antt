-- Move takes one of six steps: what holds of each of them where it applies and no earlier one does holds of the step
-- taken.
-- It changes nothing past the head. The rows of the moves' tests by name.
use Prim.Native.Nat.{ℕ, zero, suc}
use Rattle.std.specs.Prelude.{◌≡◌, refl, true, false}
use Rattle.std.proofs.Common.{sym, subst, ◌∙◌}
use borrow.Author.Tests.{eqb-true, not-true}
use Rattle.protocol.specs.Bytes.{Bytes}
use Rattle.protocol.specs.State.{State, at, flag, holds_proposal, with_head}
use Rattle.protocol.specs.View.{extends}
use Rattle.protocol.specs.Sound.{view}
use Rattle.protocol.specs.SoundState.{Weighed}
use Rattle.protocol.specs.Move.{Step, first_step, step, after_moves, dummy_vote_applies, dummy_vote_step, output_applies}
use Rattle.protocol.specs.Move.{output_step, pass_applies, pass_step, propose_applies, propose_step, block_vote_applies}
use Rattle.protocol.specs.Move.{block_vote_step, idle_step, is_running, is_some, parent_below}
use Rattle.protocol.proofs.Laws.TestsLaws.{cond-elim}
use Rattle.protocol.proofs.Laws.RowLaws.{by_rows}

module _ (digest : Bytes → Bytes) (s : State) (P : Step → Type 0) where
  pub step_cases :
      (dummy_vote_applies s ≡ true → P (dummy_vote_step s)) →
      (dummy_vote_applies s ≡ false → output_applies digest s ≡ true → P (output_step digest s)) →
      (dummy_vote_applies s ≡ false → output_applies digest s ≡ false → pass_applies digest s ≡ true →
      P (pass_step digest s)) →
      (dummy_vote_applies s ≡ false → output_applies digest s ≡ false → pass_applies digest s ≡ false →
      propose_applies digest s ≡ true → P (propose_step digest s)) →
      (dummy_vote_applies s ≡ false → output_applies digest s ≡ false → pass_applies digest s ≡ false →
      propose_applies digest s ≡ false → block_vote_applies digest s ≡ true → P (block_vote_step digest s)) →
      (dummy_vote_applies s ≡ false → output_applies digest s ≡ false → pass_applies digest s ≡ false →
      propose_applies digest s ≡ false → block_vote_applies digest s ≡ false → P (idle_step s)) →
      P (step digest s)
  unfolding step first_step
  step_cases one two three four five otherwise =
      cond-elim P (dummy_vote_applies s) one λ a.
      cond-elim P (output_applies digest s) (two a) λ b.
      cond-elim P (pass_applies digest s) (three a b) λ c.
      cond-elim P (propose_applies digest s) (four a b c) λ d.
      cond-elim P (block_vote_applies digest s) (five a b c d) λ e. otherwise a b c d e

module _ (digest : Bytes → Bytes) (s : State) where
  abbrev pub HeadOnly : Step → Type 0
  HeadOnly st = (flags current finalized : ℕ) × (st.after ≡ with_head s flags current finalized)

  pub head_only : HeadOnly (step digest s)
  unfolding dummy_vote_step output_step pass_step propose_step block_vote_step idle_step
  head_only = step_cases digest s HeadOnly
      (λ _. (_, _, _, refl)) (λ _ _. (_, _, _, refl)) (λ _ _ _. (_, _, _, refl)) (λ _ _ _ _. (_, _, _, refl))
      (λ _ _ _ _ _. (_, _, _, refl))
      (λ _ _ _ _ _. (s.flags, s.current, s.finalized, unfold with_head in refl))

-- a move leaves all but flags, current and finalized height
pub record SameBody (s t : State) : Type 0 where
  pub same_n : t.n ≡ s.n
  pub same_pool : t.pool ≡ s.pool
  pub same_heights : t.heights ≡ s.heights
  pub same_weights : t.weights ≡ s.weights
  pub same_view : (view t).weights ≡ (view s).weights
  pub same_weighed : Weighed s.edition s.n s.weights → Weighed t.edition t.n t.weights

with_head_same : (s : State) (flags current finalized : ℕ) → SameBody s (with_head s flags current finalized)
unfolding with_head
with_head_same s flags current finalized = record {
  same_n = refl;
  same_pool = refl;
  same_heights = refl;
  same_weights = refl;
  same_view = unfold view in refl;
  same_weighed = λ w. w;
}

module _ (digest : Bytes → Bytes) where
  pub step_body : (s : State) → SameBody s (step digest s).after
  step_body s =
      let (flags, current, finalized, e) = head_only digest s in
      subst (SameBody s) (sym e) (with_head_same s flags current finalized)

  -- so do several moves
  pub moves_body : (k : ℕ) (s : State) → SameBody s (after_moves digest k s)
  unfolding after_moves
  moves_body zero s =
      record {
        same_n = refl;
        same_pool = refl;
        same_heights = refl;
        same_weights = refl;
        same_view = refl;
        same_weighed = λ w. w;
      }
  moves_body (suc k) s =
      let first = step_body s in
      let rest = moves_body k (step digest s).after in
      record {
        same_n = rest.same_n ∙ first.same_n;
        same_weights = rest.same_weights ∙ first.same_weights;
        same_view = rest.same_view ∙ first.same_view;
        same_weighed = λ w. rest.same_weighed (first.same_weighed w);
        same_pool = rest.same_pool ∙ first.same_pool;
        same_heights = rest.same_heights ∙ first.same_heights;
      }

-- ---- the rows of moves 1, 4 and 5
pub record VotesDummy (s : State) : Type 0 where
  pub running : is_running s ≡ true
  pub fired : flag 1 s ≡ true
  pub not_yet : flag 2 s ≡ false

pub dummy_vote_rows : (s : State) → dummy_vote_applies s ≡ true → VotesDummy s
unfolding dummy_vote_applies
dummy_vote_rows s e =
    by_rows _ e λ running fired not_yet. record { running = running; fired = fired; not_yet = not-true _ not_yet }

module _ (digest : Bytes → Bytes) (s : State) where
  pub record Proposes : Type 0 where
    pub running : is_running s ≡ true
    pub leads : (at s s.current).leader ≡ s.own
    pub not_yet : flag 8 s ≡ false
    pub has_parent : is_some (parent_below digest s) ≡ true

  pub propose_rows : propose_applies digest s ≡ true → Proposes
  unfolding propose_applies
  propose_rows e =
      by_rows _ e λ running leads not_yet has_parent. record {
        running = running;
        leads = eqb-true _ _ leads;
        not_yet = not-true _ not_yet;
        has_parent = has_parent;
      }

  pub record VotesBlock : Type 0 where
    pub running : is_running s ≡ true
    pub not_yet : flag 4 s ≡ false
    pub held : holds_proposal (at s s.current) ≡ true
    pub extending : extends digest (view s) s.current (at s s.current).proposal ≡ true

  pub block_vote_rows : block_vote_applies digest s ≡ true → VotesBlock
  unfolding block_vote_applies
  block_vote_rows e =
      by_rows _ e λ running not_yet held extending. record {
        running = running;
        not_yet = not-true _ not_yet;
        held = held;
        extending = extending;
      }
