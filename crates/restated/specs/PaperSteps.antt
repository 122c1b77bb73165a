-- Written by tests/restated --write: what docs/statements has of
-- crates/paper/specs/Steps.antt.
use Rattle.std.specs.Prelude.{ℕ, suc, ◌+◌, ◌-◌, ◌≤◌, ◌<◌, ◌≡◌, ◌↔◌, Bool, true, false, not, cond, List, [], ◌∷◌}
use package.Rattle.protocol.specs.Bytes.{Bytes, without}
use package.Rattle.protocol.specs.Block.{entries, block_well_formed}
use package.Rattle.protocol.specs.Frame.{proposal, block_vote, dummy_vote, finalize}
use package.Rattle.protocol.specs.State.{State, at, last, flag, with_head, holds_proposal, pending}
use package.Rattle.protocol.specs.Sound.{view}
use package.Rattle.protocol.specs.Certificates.{certificate_frame}
use package.Rattle.protocol.specs.Answer.{Move, idle, vote_dummy, output, pass, propose, vote_block, Certificate, on_block}
use package.Rattle.protocol.specs.Answer.{on_dummy, certificate_kind}
use package.Rattle.protocol.specs.Move.{step, dummy_vote_applies, output_applies, pass_applies, propose_applies, chosen}
use package.Rattle.paper.specs.Paper.{Sequence, height, linearize, last_block, Follows, NotarizedBlockchain, Finalization}
use package.Rattle.paper.specs.Paper.{SeenOfHeight, SeenWithBlock}
use package.Rattle.paper.specs.Blockchains.{ParentOf}
use package.Rattle.paper.specs.Steps.{it_idles, it_votes_dummy, it_outputs, it_passes, it_proposes, it_votes_block}
use mathlib.Core.Path.{◌≡◌ as ◌is-kept◌, refl as by-text}
use package.Rattle.paper.specs.Steps as page

module _ (digest : Bytes → Bytes) (s : State) where
  abbrev Running : Type 0
  Running = page.Running digest s

  abbrev Makes : (move : Move) (frames : List Bytes) (after : State) → Type 0
  Makes = page.Makes digest s

  abbrev Offers : (block : Bytes) → Type 0
  Offers = page.Offers digest s

  abbrev MayPropose : Type 0
  MayPropose = page.MayPropose digest s

  abbrev MayVoteDummy : Type 0
  MayVoteDummy = page.MayVoteDummy digest s

  abbrev MayVoteBlock : Type 0
  MayVoteBlock = page.MayVoteBlock digest s

  abbrev Sent : Certificate → Bytes
  Sent = page.Sent digest s

  abbrev Passes : Certificate → Type 0
  Passes = page.Passes digest s

  abbrev MayPass : Type 0
  MayPass = page.MayPass digest s

  abbrev MayOutput : Type 0
  MayOutput = page.MayOutput digest s

  abbrev NoStep : Type 0
  NoStep = page.NoStep digest s

  abbrev OneOfSix : Move → Type 0
  OneOfSix = page.OneOfSix digest s

  abbrev Running-kept : Type 0
  Running-kept = s.current ≤ last s

  same-Running : Running-kept is-kept page.Running digest s
  same-Running = by-text

  Makes-kept : (move : Move) (frames : List Bytes) (after : State) (answers : (step digest s).move ≡ move) (writes : (step digest s).frames ≡ frames) (leaves : (step digest s).after ≡ after) →
      Makes move frames after
  Makes-kept move frames after x0 x1 x2 = record { answers = x0; writes = x1; leaves = x2 }

  Offers-kept : (block : Bytes) (parent : Sequence) (notarized : NotarizedBlockchain digest (view s) parent) (its_height : suc (height parent) ≡ s.current) (longest : (c : Sequence) → NotarizedBlockchain digest (view s) c → height c ≡ height parent → last_block c ≤ last_block parent) (follows : Follows digest parent block) (its_entries : entries block ≡ chosen (without (linearize parent) (pending s))) (formed : block_well_formed s.current block ≡ true) →
      Offers block
  Offers-kept block x0 x1 x2 x3 x4 x5 x6 = record { parent = x0; notarized = x1; its_height = x2; longest = x3; follows = x4; its_entries = x5; formed = x6 }

  abbrev MayPropose-kept : Type 0
  MayPropose-kept =
      Running × ((at s s.current).leader ≡ s.own) × (flag 8 s ≡ false) ×
      SeenOfHeight digest (view s) (s.current - 1)

  same-MayPropose : MayPropose-kept is-kept page.MayPropose digest s
  same-MayPropose = by-text

  LeaderProposal-kept : Type 0
  LeaderProposal-kept =
      dummy_vote_applies s ≡ false → output_applies digest s ≡ false → pass_applies digest s ≡ false →
      (((step digest s).move ≡ propose s.current) ↔ MayPropose) ×
      ((step digest s).move ≡ propose s.current →
      (block : Bytes) × Offers block ×
      Makes (propose s.current) (proposal s.own s.current block ∷ [])
      (with_head s (s.flags + 8) s.current s.finalized))

  same-LeaderProposal : LeaderProposal-kept is-kept page.LeaderProposal digest s
  unfolding LeaderProposal-kept page.LeaderProposal
  same-LeaderProposal = by-text

  abbrev MayVoteDummy-kept : Type 0
  MayVoteDummy-kept = Running × (flag 1 s ≡ true) × (flag 2 s ≡ false)

  same-MayVoteDummy : MayVoteDummy-kept is-kept page.MayVoteDummy digest s
  same-MayVoteDummy = by-text

  DummyBlocks-kept : Type 0
  DummyBlocks-kept =
      (((step digest s).move ≡ vote_dummy s.current) ↔ MayVoteDummy) ×
      ((step digest s).move ≡ vote_dummy s.current →
      Makes (vote_dummy s.current) (dummy_vote s.own s.current ∷ [])
      (with_head s (s.flags + 2) s.current s.finalized))

  same-DummyBlocks : DummyBlocks-kept is-kept page.DummyBlocks digest s
  unfolding DummyBlocks-kept page.DummyBlocks
  same-DummyBlocks = by-text

  abbrev MayVoteBlock-kept : Type 0
  MayVoteBlock-kept =
      Running × (flag 4 s ≡ false) × (holds_proposal (at s s.current) ≡ true) ×
      ParentOf digest (view s) (s.current - 1) (at s s.current).proposal

  same-MayVoteBlock : MayVoteBlock-kept is-kept page.MayVoteBlock digest s
  same-MayVoteBlock = by-text

  NotarizingProposals-kept : Type 0
  NotarizingProposals-kept =
      dummy_vote_applies s ≡ false → output_applies digest s ≡ false → pass_applies digest s ≡ false →
      propose_applies digest s ≡ false →
      (((step digest s).move ≡ vote_block s.current) ↔ MayVoteBlock) ×
      ((step digest s).move ≡ vote_block s.current →
      Makes (vote_block s.current) (block_vote s.own s.current (digest (at s s.current).proposal) ∷ [])
      (with_head s (s.flags + 4) s.current s.finalized))

  same-NotarizingProposals : NotarizingProposals-kept is-kept page.NotarizingProposals digest s
  unfolding NotarizingProposals-kept page.NotarizingProposals
  same-NotarizingProposals = by-text

  abbrev Sent-kept : Certificate → Bytes
  Sent-kept certificate = certificate_frame s (certificate_kind certificate) s.current

  same-Sent : Sent-kept is-kept page.Sent digest s
  same-Sent = by-text

  abbrev Passes-kept : Certificate → Type 0
  Passes-kept certificate =
      Makes (pass s.current certificate (not (flag 1 s)))
      (Sent certificate ∷ cond (not (flag 1 s)) (finalize s.own s.current ∷ []) [])
      (with_head s 0 (s.current + 1) s.finalized)

  same-Passes : Passes-kept is-kept page.Passes digest s
  same-Passes = by-text

  abbrev MayPass-kept : Type 0
  MayPass-kept = Running × SeenOfHeight digest (view s) s.current

  same-MayPass : MayPass-kept is-kept page.MayPass digest s
  same-MayPass = by-text

  NextIteration-kept : Type 0
  NextIteration-kept =
      dummy_vote_applies s ≡ false → output_applies digest s ≡ false →
      (((certificate : Certificate) × (finalized : Bool) ×
      ((step digest s).move ≡ pass s.current certificate finalized)) ↔ MayPass) ×
      (Running → SeenWithBlock digest (view s) s.current → Passes on_block) ×
      (Running → SeenOfHeight digest (view s) s.current → (SeenWithBlock digest (view s) s.current → ⊥) →
      Passes on_dummy)

  same-NextIteration : NextIteration-kept is-kept page.NextIteration digest s
  unfolding NextIteration-kept page.NextIteration
  same-NextIteration = by-text

  abbrev MayOutput-kept : Type 0
  MayOutput-kept = (h : ℕ) × (s.finalized < h) × (h ≤ last s) × SeenWithBlock digest (view s) h × Finalization (view s) h

  same-MayOutput : MayOutput-kept is-kept page.MayOutput digest s
  same-MayOutput = by-text

  FinalizedOutputs-kept : Type 0
  FinalizedOutputs-kept =
      dummy_vote_applies s ≡ false →
      (((g : ℕ) × ((step digest s).move ≡ output g)) ↔ MayOutput) ×
      ((g : ℕ) → (step digest s).move ≡ output g →
      SeenWithBlock digest (view s) g × Finalization (view s) g ×
      ((h : ℕ) → 1 ≤ h → h ≤ last s → SeenWithBlock digest (view s) h → Finalization (view s) h → h ≤ g) ×
      Makes (output g) [] (with_head s s.flags s.current g))

  same-FinalizedOutputs : FinalizedOutputs-kept is-kept page.FinalizedOutputs digest s
  unfolding FinalizedOutputs-kept page.FinalizedOutputs
  same-FinalizedOutputs = by-text

  NoStep-kept : (no_proposal : MayPropose → ⊥) (no_dummy_vote : MayVoteDummy → ⊥) (no_block_vote : MayVoteBlock → ⊥) (no_pass : MayPass → ⊥) (no_output : MayOutput → ⊥) →
      NoStep
  NoStep-kept x0 x1 x2 x3 x4 = record { no_proposal = x0; no_dummy_vote = x1; no_block_vote = x2; no_pass = x3; no_output = x4 }

  Idling-kept : Type 0
  Idling-kept = (((step digest s).move ≡ idle) ↔ NoStep) × (NoStep → Makes idle [] s)

  same-Idling : Idling-kept is-kept page.Idling digest s
  unfolding Idling-kept page.Idling
  same-Idling = by-text

  OneOfSix-it_idles-kept : OneOfSix idle
  OneOfSix-it_idles-kept = page.OneOfSix.it_idles

  OneOfSix-it_votes_dummy-kept : OneOfSix (vote_dummy s.current)
  OneOfSix-it_votes_dummy-kept = page.OneOfSix.it_votes_dummy

  OneOfSix-it_outputs-kept : OneOfSix (output (step digest s).after.finalized)
  OneOfSix-it_outputs-kept = page.OneOfSix.it_outputs

  OneOfSix-it_passes-kept : (certificate : Certificate) (finalized : Bool) → OneOfSix (pass s.current certificate finalized)
  OneOfSix-it_passes-kept = page.OneOfSix.it_passes

  OneOfSix-it_proposes-kept : OneOfSix (propose s.current)
  OneOfSix-it_proposes-kept = page.OneOfSix.it_proposes

  OneOfSix-it_votes_block-kept : OneOfSix (vote_block s.current)
  OneOfSix-it_votes_block-kept = page.OneOfSix.it_votes_block

  OneOfSix-apart : (i0 : Move) → OneOfSix i0 → Unit {0}
  OneOfSix-apart _ (page.OneOfSix.it_idles) = tt
  OneOfSix-apart _ (page.OneOfSix.it_votes_dummy) = tt
  OneOfSix-apart _ (page.OneOfSix.it_outputs) = tt
  OneOfSix-apart _ (page.OneOfSix.it_passes _ _) = tt
  OneOfSix-apart _ (page.OneOfSix.it_proposes) = tt
  OneOfSix-apart _ (page.OneOfSix.it_votes_block) = tt
