-- The five steps of the paper's section 2.1, each as an equivalence with the move that a replica makes, what it writes
-- and keeps.
-- Document 01 tries the moves in its own order, so a step is stated for states in which no earlier move applies.
-- Where no step may be taken the replica idles; so the fields of `FiveSteps` cover every state.
use Rattle.std.specs.Prelude.{ℕ, suc, ◌+◌, ◌-◌, ◌≤◌, ◌<◌, ◌≡◌, ◌↔◌, Bool, true, false, not, cond, List, [], ◌∷◌}
use Rattle.protocol.specs.Bytes.{Bytes, without}
use Rattle.protocol.specs.Block.{entries, block_well_formed}
use Rattle.protocol.specs.Frame.{proposal, block_vote, dummy_vote, finalize}
use Rattle.protocol.specs.State.{State, at, last, flag, with_head, holds_proposal, pending}
use Rattle.protocol.specs.Sound.{view}
use Rattle.protocol.specs.Certificates.{certificate_frame}
use Rattle.protocol.specs.Answer.{Move, idle, vote_dummy, output, pass, propose, vote_block, Certificate, on_block}
use Rattle.protocol.specs.Answer.{on_dummy, certificate_kind}
use Rattle.protocol.specs.Move.{step, dummy_vote_applies, output_applies, pass_applies, propose_applies, chosen}
use Rattle.paper.specs.Paper.{Sequence, height, linearize, last_block, Follows, NotarizedBlockchain, Finalization}
use Rattle.paper.specs.Paper.{SeenOfHeight, SeenWithBlock}
use Rattle.paper.specs.Blockchains.{ParentOf}

module _ (digest : Bytes → Bytes) (s : State) where
  -- the replica is in iteration c, one of the book's
  abbrev pub Running : Type 0
  Running = s.current ≤ last s

  -- one move: its answer, its frames and the state after it
  pub record Makes (move : Move) (frames : List Bytes) (after : State) : Type 0 where
    pub answers : (step digest s).move ≡ move
    pub writes : (step digest s).frames ≡ frames
    pub leaves : (step digest s).after ≡ after

  -- ---- step 1: the leader proposes, once, a block on a notarized blockchain of the height before
  -- the block carries the pending entries that its parent chain lacks, in order, at most eight
  pub record Offers (block : Bytes) : Type 0 where
    pub parent : Sequence
    pub notarized : NotarizedBlockchain digest (view s) parent
    pub its_height : suc (height parent) ≡ s.current
    pub longest : (c : Sequence) → NotarizedBlockchain digest (view s) c → height c ≡ height parent →
        last_block c ≤ last_block parent
    pub follows : Follows digest parent block
    pub its_entries : entries block ≡ chosen (without (linearize parent) (pending s))
    pub formed : block_well_formed s.current block ≡ true

  -- the replica leads, has not proposed, and has seen a notarized blockchain of the height before
  abbrev pub MayPropose : Type 0
  MayPropose =
      Running × ((at s s.current).leader ≡ s.own) × (flag 8 s ≡ false) ×
      SeenOfHeight digest (view s) (s.current - 1)

  unfoldable pub LeaderProposal : Type 0
  LeaderProposal =
      dummy_vote_applies s ≡ false → output_applies digest s ≡ false → pass_applies digest s ≡ false →
      (((step digest s).move ≡ propose s.current) ↔ MayPropose) ×
      ((step digest s).move ≡ propose s.current →
      (block : Bytes) × Offers block ×
      Makes (propose s.current) (proposal s.own s.current block ∷ [])
      (with_head s (s.flags + 8) s.current s.finalized))

  -- ---- step 2: the vote for the dummy block goes out once, after the timer fired (flag 1; `Timer` has what fires it) and
  -- not before
  abbrev pub MayVoteDummy : Type 0
  MayVoteDummy = Running × (flag 1 s ≡ true) × (flag 2 s ≡ false)

  unfoldable pub DummyBlocks : Type 0
  DummyBlocks =
      (((step digest s).move ≡ vote_dummy s.current) ↔ MayVoteDummy) ×
      ((step digest s).move ≡ vote_dummy s.current →
      Makes (vote_dummy s.current) (dummy_vote s.own s.current ∷ [])
      (with_head s (s.flags + 2) s.current s.finalized))

  -- ---- step 3: the first proposal kept is voted for, once, if it extends a notarized blockchain; a dummy vote does
  -- not matter
  abbrev pub MayVoteBlock : Type 0
  MayVoteBlock =
      Running × (flag 4 s ≡ false) × (holds_proposal (at s s.current) ≡ true) ×
      ParentOf digest (view s) (s.current - 1) (at s s.current).proposal

  unfoldable pub NotarizingProposals : Type 0
  NotarizingProposals =
      dummy_vote_applies s ≡ false → output_applies digest s ≡ false → pass_applies digest s ≡ false →
      propose_applies digest s ≡ false →
      (((step digest s).move ≡ vote_block s.current) ↔ MayVoteBlock) ×
      ((step digest s).move ≡ vote_block s.current →
      Makes (vote_block s.current) (block_vote s.own s.current (digest (at s s.current).proposal) ∷ [])
      (with_head s (s.flags + 4) s.current s.finalized))

  -- ---- step 4: a notarized blockchain of the current height is passed on, and the next iteration entered
  -- the notarization sent: that of the block where a blockchain ends in it, else that of the dummy block
  abbrev pub Sent : Certificate → Bytes
  Sent certificate = certificate_frame s (certificate_kind certificate) s.current

  -- a pass by that certificate: the finalize goes out if and only if the timer has not fired
  abbrev pub Passes : Certificate → Type 0
  Passes certificate =
      Makes (pass s.current certificate (not (flag 1 s)))
      (Sent certificate ∷ cond (not (flag 1 s)) (finalize s.own s.current ∷ []) [])
      (with_head s 0 (s.current + 1) s.finalized)

  abbrev pub MayPass : Type 0
  MayPass = Running × SeenOfHeight digest (view s) s.current

  unfoldable pub NextIteration : Type 0
  NextIteration =
      dummy_vote_applies s ≡ false → output_applies digest s ≡ false →
      (((certificate : Certificate) × (finalized : Bool) ×
      ((step digest s).move ≡ pass s.current certificate finalized)) ↔ MayPass) ×
      (Running → SeenWithBlock digest (view s) s.current → Passes on_block) ×
      (Running → SeenOfHeight digest (view s) s.current → (SeenWithBlock digest (view s) s.current → ⊥) →
      Passes on_dummy)

  -- ---- step 5: the log grows to the highest finalized blockchain that ends in a block
  abbrev pub MayOutput : Type 0
  MayOutput = (h : ℕ) × (s.finalized < h) × (h ≤ last s) × SeenWithBlock digest (view s) h × Finalization (view s) h

  unfoldable pub FinalizedOutputs : Type 0
  FinalizedOutputs =
      dummy_vote_applies s ≡ false →
      (((g : ℕ) × ((step digest s).move ≡ output g)) ↔ MayOutput) ×
      ((g : ℕ) → (step digest s).move ≡ output g →
      SeenWithBlock digest (view s) g × Finalization (view s) g ×
      ((h : ℕ) → 1 ≤ h → h ≤ last s → SeenWithBlock digest (view s) h → Finalization (view s) h → h ≤ g) ×
      Makes (output g) [] (with_head s s.flags s.current g))

  -- ---- no step
  -- none of the five may be taken
  pub record NoStep : Type 0 where
    pub no_proposal : MayPropose → ⊥
    pub no_dummy_vote : MayVoteDummy → ⊥
    pub no_block_vote : MayVoteBlock → ⊥
    pub no_pass : MayPass → ⊥
    pub no_output : MayOutput → ⊥

  -- just then the replica idles: it writes nothing and its state stays
  unfoldable pub Idling : Type 0
  Idling = (((step digest s).move ≡ idle) ↔ NoStep) × (NoStep → Makes idle [] s)

  -- ---- a move is one of six: each names the current height, but an output the new finalized height, and idle none
  pub data OneOfSix : Move → Type 0 where
    it_idles : OneOfSix idle
    it_votes_dummy : OneOfSix (vote_dummy s.current)
    it_outputs : OneOfSix (output (step digest s).after.finalized)
    it_passes : (certificate : Certificate) (finalized : Bool) → OneOfSix (pass s.current certificate finalized)
    it_proposes : OneOfSix (propose s.current)
    it_votes_block : OneOfSix (vote_block s.current)

-- the five steps of a state, that it idles where none may be taken, and that there is no other move
pub record FiveSteps (digest : Bytes → Bytes) (s : State) : Type 0 where
  pub leader_proposal : LeaderProposal digest s
  pub dummy_blocks : DummyBlocks digest s
  pub notarizing_proposals : NotarizingProposals digest s
  pub next_iteration : NextIteration digest s
  pub finalized_outputs : FinalizedOutputs digest s
  pub idling : Idling digest s
  pub one_of_six : OneOfSix digest s (step digest s).move
