-- Step 1 of the paper, leader proposal: its condition is the test of move 4, and what is proposed is its block.
use Prim.Native.Nat.{ℕ, suc, ◌-◌, ◌≤◌, ◌<◌}
use Rattle.std.proofs.Common.{arith, ◌∙◌, eq-eqb}
use Rattle.std.specs.Prelude.{◌≡◌, false, length}
use Rattle.std.proofs.Math.Path.{refl, sym, ap, subst}
use Rattle.std.proofs.Math.Bool.{true}
use Rattle.std.proofs.lemmas.Bool.{false≢true}
use mathlib.Core.List.{List}
use Rattle.std.proofs.Math.Option.{Option, some, none}
use Rattle.protocol.specs.SoundState.{SoundState}
use Rattle.protocol.specs.Every.{Every}
use Rattle.protocol.specs.Bytes.{Bytes, without, Sized}
use Rattle.protocol.proofs.Laws.RowLaws.{all_of_lem}
use Rattle.protocol.proofs.Laws.BlockLaws.{digest_back, entries_back, new_block_good, new_block_height, new_block_parent}
use Rattle.protocol.proofs.Laws.MoveLaws.{propose_rows}
use Rattle.protocol.proofs.Laws.ViewLaws.{digest_at_size, digest_at_start}
use Rattle.protocol.proofs.Laws.PendingLaws.{offered_sized, offered_few}
use Rattle.protocol.specs.State.{State, pending}
use Rattle.protocol.specs.View.{digest_at}
use Rattle.protocol.proofs.Laws.ParentLaws.{parent_some}
use Rattle.protocol.specs.Sound.{view}
use Rattle.protocol.specs.Answer.{propose}
use Rattle.protocol.specs.Move.{step, first_step, offered, proposed_block, some_or, is_some, dummy_vote_applies}
use Rattle.protocol.specs.Move.{output_applies, pass_applies, propose_applies, propose_step, parent_below, chosen}
use Rattle.paper.specs.Paper.{last_block, linearize, Sequence, height, NotarizedBlockchain}
use Rattle.paper.specs.Blockchains.{ChainEndingAt, InThePapersTerms, ParentIsLargest}
use Rattle.paper.specs.Steps.{Offers, MayPropose, LeaderProposal}
use Rattle.paper.proofs.Laws.TakenLaws.{taken, answers, makes, running, is_running_lem}
use Rattle.paper.proofs.Laws.SeenLaws.{before, parent_seen}

module _ (digest : Bytes → Bytes) (s : State) (sound : SoundState digest s) (terms : InThePapersTerms digest s) where
  pub propose_when : propose_applies digest s ≡ true → MayPropose digest s
  propose_when e =
      let rows = propose_rows digest s e in (
        running digest s rows.running,
        rows.leads,
        rows.not_yet,
        (parent_seen digest s terms (s.current - 1)).0 rows.has_parent,
      )

  pub propose_applies_lem : MayPropose digest s → propose_applies digest s ≡ true
  unfolding propose_applies
  propose_applies_lem (r, l, f, q) =
      all_of_lem (Every.one (is_running_lem digest s r) (Every.one (eq-eqb _ _ l)
      (Every.one (rw f) (Every.one ((parent_seen digest s terms (s.current - 1)).1 q) Every.none))))

  step_propose : dummy_vote_applies s ≡ false → output_applies digest s ≡ false → pass_applies digest s ≡ false →
      propose_applies digest s ≡ true → step digest s ≡ propose_step digest s
  unfolding step first_step
  step_propose e1 e2 e3 e4 = rw (e1, e2, e3, e4)

  module _ (digest_size_lem : (block : Bytes) → length (digest block) ≡ 32) where
    -- the block on the chain with the largest last block
    offers : (j : ℕ) → parent_below digest s ≡ some j → Offers digest s (proposed_block digest s j)
    unfolding ParentIsLargest proposed_block
    offers j e = record {
      parent = chain.sequence;
      notarized = chain.notarized;
      its_height = ap suc chain.its_height ∙ (before digest s sound);
      longest = λ c n h. subst (λ (k : ℕ). last_block c ≤ k) (sym chain.its_last)
          (both.1 c n (h ∙ chain.its_height));
      follows = record {
        its_height = new_block_height c j d es ∙ sym (before digest s sound) ∙ ap suc (sym chain.its_height);
        its_parent = new_block_parent c j d es ∙ sym chain.its_last;
        its_digest = digest_back c j d es below (digest_at_size digest (view s) digest_size_lem j)
            (digest_at_start digest (view s) j) few sized ∙ sym chain.its_digest;
      };
      its_entries = entries_back c j d es below (digest_at_size digest (view s) digest_size_lem j)
          (digest_at_start digest (view s) j) few sized ∙ offered_is;
      formed = new_block_good c j d es below (digest_at_size digest (view s) digest_size_lem j)
          (digest_at_start digest (view s) j) few sized;
    }
      where
        both : ChainEndingAt digest (view s) (s.current - 1)
            j × ((c : Sequence) → NotarizedBlockchain digest (view s) c → height c ≡ s.current - 1 → last_block c ≤ j)
        both = terms.parent_largest (s.current - 1) j e

        chain : ChainEndingAt digest (view s) (s.current - 1) j
        chain = both.0

        c : ℕ
        c = s.current

        d : Bytes
        d = digest_at digest (view s) j

        es : List Bytes
        es = offered s j

        few : length es ≤ 8
        few = offered_few s j

        sized : Every (Sized 16) es
        sized = offered_sized digest s sound j

        below : j < c
        below = let low = sound.current_low in
            let within = (parent_some digest (view s) (s.current - 1) j e).0.within in omega arith

        offered_is : offered s j ≡ chosen (without (linearize chain.sequence) (pending s))
        offered_is = unfold offered in ap (λ (l : List Bytes). chosen (without l (pending s))) (sym chain.its_entries)

    proposed : propose_applies digest s ≡ true →
        Offers digest s (proposed_block digest s (some_or 0 (parent_below digest s)))
    unfolding some_or
    proposed e = go (parent_below digest s) refl (propose_rows digest s e).has_parent
      where
        go : (o : Option ℕ) → parent_below digest s ≡ o → is_some o ≡ true →
            Offers digest s (proposed_block digest s (some_or 0 o))
        go none q z = absurd (false≢true (unfold is_some in z))
        go (some j) q z = offers j q

    pub leader_proposal : LeaderProposal digest s
    unfolding LeaderProposal propose_step
    leader_proposal e1 e2 e3 = (
      ((λ e. propose_when (took e).0), λ q. answers digest s (step_propose e1 e2 e3 (propose_applies_lem q))),
      λ e. (
        proposed_block digest s (some_or 0 (parent_below digest s)),
        proposed (took e).0,
        makes digest s e (took e).1,
      ),
    )
      where
        took : (step digest s).move ≡ propose s.current →
            (propose_applies digest s ≡ true) × (step digest s ≡ propose_step digest s)
        took e = taken digest s (propose s.current) e
