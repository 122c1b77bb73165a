-- What a book's tests say in the paper's terms: linked, extends, finalized and the log are about notarized blockchains.
use Rattle.std.specs.Prelude.{ℕ, suc, ◌≤◌, ◌≡◌, ◌↔◌, true}
use Rattle.std.proofs.Math.Option.{some}
use Rattle.protocol.specs.Bytes.{Bytes}
use Rattle.protocol.specs.Distinct.{distinct}
use Rattle.protocol.specs.Block.{block_height}
use Rattle.protocol.specs.State.{State}
use Rattle.protocol.specs.View.{View, linked, extends, is_finalized, parent_of, digest_at, log_at, quorum}
use Rattle.protocol.specs.Sound.{view, log}
use Rattle.protocol.specs.Move.{is_some}
use Rattle.paper.specs.Paper.{Sequence, height, linearize, last_block, last_digest, Follows, NotarizedBlockchain}
use Rattle.paper.specs.Paper.{FinalizedBlockchain, Finalization, SeenOfHeight, SeenWithBlock}

-- what the view of each sound book has: a notarized block is of its height, and votes of a quorum came with it
pub record Proper (v : View) : Type 0 where
  pub its_height : (h : ℕ) → 1 ≤ h → v.has_block h ≡ true → block_height (v.block h) ≡ h
  pub certified : (h : ℕ) → 1 ≤ h → v.has_block h ≡ true → quorum v (v.certificate_mask h) ≡ true

module _ (digest : Bytes → Bytes) (v : View) where
  -- a notarized blockchain of height `h` whose last block that is no dummy has height `j`
  pub record ChainEndingAt (h j : ℕ) : Type 0 where
    pub sequence : Sequence
    pub notarized : NotarizedBlockchain digest v sequence
    pub its_height : height sequence ≡ h
    pub its_last : last_block sequence ≡ j
    pub its_digest : last_digest digest sequence ≡ digest_at digest v j
    pub its_entries : linearize sequence ≡ log_at v j

  -- some notarized blockchain of height `h` may be followed by block `b`
  pub record ParentOf (h : ℕ) (b : Bytes) : Type 0 where
    pub parent : Sequence
    pub notarized : NotarizedBlockchain digest v parent
    pub its_height : height parent ≡ h
    pub follows : Follows digest parent b

  -- a height is linked if and only if a notarized blockchain of that height ends in its block
  unfoldable pub LinkedIsSeen : ℕ → Type 0
  LinkedIsSeen h = 1 ≤ h → (linked digest v h ≡ true) ↔ SeenWithBlock digest v h

  -- a chain of height `h` is found if and only if there is a notarized blockchain of height `h`
  unfoldable pub ParentIsSeen : ℕ → Type 0
  ParentIsSeen h = (is_some (parent_of digest v h) ≡ true) ↔ SeenOfHeight digest v h

  -- the chain found has the largest last block
  unfoldable pub ParentIsLargest : ℕ → Type 0
  ParentIsLargest h =
      (j : ℕ) → parent_of digest v h ≡ some j →
      ChainEndingAt h j × ((c : Sequence) → NotarizedBlockchain digest v c → height c ≡ h → last_block c ≤ j)

  -- a block of height `h` + 1 extends if and only if a notarized blockchain of height `h` may be followed by it
  unfoldable pub ExtendsIsFollowing : ℕ → Bytes → Type 0
  ExtendsIsFollowing h b = block_height b ≡ suc h → (extends digest v (suc h) b ≡ true) ↔ ParentOf h b

  -- a height is finalized if and only if a finalized blockchain ends in its block; the paper lets a dummy block end one
  -- too, which does not happen while the dishonest weigh less than a third: two quorums share an honest replica, and it
  -- never both finalizes a height and votes for its dummy
  unfoldable pub FinalizedIsSeen : ℕ → Type 0
  FinalizedIsSeen h = 1 ≤ h → (is_finalized digest v h ≡ true) ↔ (SeenWithBlock digest v h × Finalization v h)

-- the log of a state is the linearization of the finalized blockchain that ends in the block of its finalized height,
-- and not in a dummy block, each entry at its first place
pub record LogIsLinearized (digest : Bytes → Bytes) (s : State) : Type 0 where
  pub sequence : Sequence
  pub finalized : FinalizedBlockchain digest (view s) sequence
  pub its_height : height sequence ≡ s.finalized
  pub its_last : last_block sequence ≡ s.finalized
  pub its_log : distinct (linearize sequence) ≡ log s

-- all of the above, for every height and block
pub record InThePapersTerms (digest : Bytes → Bytes) (s : State) : Type 0 where
  pub linked_is : (h : ℕ) → LinkedIsSeen digest (view s) h
  pub parent_is : (h : ℕ) → ParentIsSeen digest (view s) h
  pub parent_largest : (h : ℕ) → ParentIsLargest digest (view s) h
  pub extends_is : (h : ℕ) (b : Bytes) → ExtendsIsFollowing digest (view s) h b
  pub finalized_is : (h : ℕ) → FinalizedIsSeen digest (view s) h
  pub log_is : LogIsLinearized digest s
