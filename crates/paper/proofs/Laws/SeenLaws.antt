-- What a sound state sees in the paper's terms, as the five steps ask for it.
use Prim.Native.Nat.{ℕ, suc, ◌-◌, ◌≤◌}
use Rattle.std.proofs.Common.{arith, sym, subst}
use Rattle.std.specs.Prelude.{◌≡◌, ◌↔◌, true}
use Rattle.std.proofs.Math.Path.{ap}
use Rattle.protocol.specs.SoundState.{SoundState}
use Rattle.protocol.specs.Bytes.{Bytes}
use Rattle.protocol.specs.State.{State}
use Rattle.protocol.specs.View.{quorum, linked, is_dummy, is_finalized, parent_of}
use Rattle.protocol.specs.Sound.{view}
use Rattle.protocol.specs.Move.{is_some}
use Rattle.paper.specs.Paper.{add_dummy, add_block, height, NotarizedBlockchain, SeenOfHeight, SeenWithBlock}
use Rattle.paper.specs.Paper.{Finalization}
use Rattle.paper.specs.Blockchains.{InThePapersTerms, LinkedIsSeen, ParentIsSeen, FinalizedIsSeen}

module _ (digest : Bytes → Bytes) (s : State) where
  -- a blockchain that ends in a block is one
  pub with_block : {h : ℕ} → SeenWithBlock digest (view s) h → SeenOfHeight digest (view s) h
  unfolding height
  with_block q = record {
    sequence = add_block q.parent q.block;
    notarized = q.notarized;
    its_height =
        q.its_height;
  }

  -- one more dummy
  pub with_dummy : (h : ℕ) → is_dummy (view s) (suc h) ≡ true → SeenOfHeight digest (view s) h →
      SeenOfHeight digest (view s) (suc h)
  unfolding height is_dummy
  with_dummy h e q = record {
    sequence = add_dummy q.sequence;
    notarized = NotarizedBlockchain.dummy_next q.notarized
        (subst (λ (k : ℕ). quorum (view s) ((view s).dummy_mask (suc k)) ≡ true) (sym q.its_height) e);
    its_height = ap suc q.its_height;
  }

  -- the current height of a sound state is not 0
  pub before : SoundState digest s → suc (s.current - 1) ≡ s.current
  before sound = let low = sound.current_low in omega arith

  -- ---- the equivalences, opened
  module _ (terms : InThePapersTerms digest s) where
    pub linked_seen : (h : ℕ) → 1 ≤ h → (linked digest (view s) h ≡ true) ↔ SeenWithBlock digest (view s) h
    linked_seen h low = unfold LinkedIsSeen in terms.linked_is h low

    pub parent_seen : (h : ℕ) → (is_some (parent_of digest (view s) h) ≡ true) ↔ SeenOfHeight digest (view s) h
    parent_seen h = unfold ParentIsSeen in terms.parent_is h

    pub finalized_seen : (h : ℕ) → 1 ≤ h → (is_finalized digest (view s) h ≡ true) ↔
        (SeenWithBlock digest (view s) h × Finalization (view s) h)
    finalized_seen h low = unfold FinalizedIsSeen in terms.finalized_is h low
