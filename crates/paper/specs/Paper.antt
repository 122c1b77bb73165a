-- Section 2 of the paper (Chan and Pass, Simplex Consensus), in its words and order: blocks, dummy blocks, blockchains,
-- notarized and finalized blockchains in a view, and linearize. Document 01's pair (parent height, parent digest)
-- stands for the hash of the parent blockchain.
use Rattle.std.specs.Prelude.{ℕ, suc, ◌≡◌, true, List, [], ◌++◌}
use Rattle.protocol.specs.Bytes.{Bytes, zeros}
use Rattle.protocol.specs.Block.{digest_size, block_height, parent_height, parent_digest, entries}
use Rattle.protocol.specs.View.{View, quorum}

-- a sequence of blocks after the genesis block b₀, each of them the dummy block of its height or a block's 176 bytes
pub data Sequence : Type 0 where
  genesis : Sequence
  add_dummy : Sequence → Sequence
  add_block : Sequence → Bytes → Sequence

-- the height of the last block
unfoldable pub height : Sequence → ℕ
height genesis = 0
height (add_dummy c) = suc (height c)
height (add_block c b) = suc (height c)

-- the transactions of all blocks, in order
unfoldable pub linearize : Sequence → List Bytes
linearize genesis = []
linearize (add_dummy c) = linearize c
linearize (add_block c b) = linearize c ++ entries b

-- the height of the last block that is no dummy: what document 01 calls j of the next block
unfoldable pub last_block : Sequence → ℕ
last_block genesis = 0
last_block (add_dummy c) = last_block c
last_block (add_block c b) = suc (height c)

module _ (v : View) where
  -- a notarization of block `b` of height `h` has been seen: votes of two thirds of the processes
  pub record NotarizedBlock (h : ℕ) (b : Bytes) : Type 0 where
    pub seen : v.has_block h ≡ true
    pub same : v.block h ≡ b
    pub votes : quorum v (v.certificate_mask h) ≡ true

  -- a notarization of the dummy block of height `h` has been seen
  abbrev pub NotarizedDummy : ℕ → Type 0
  NotarizedDummy h = quorum v (v.dummy_mask h) ≡ true

  -- a finalization for height `h` has been seen: finalize messages of two thirds of the processes
  abbrev pub Finalization : ℕ → Type 0
  Finalization h = quorum v (v.finalize_mask h) ≡ true

module _ (digest : Bytes → Bytes) where
  -- the digest of the last block that is no dummy, and zeros where all are: with `last_block` it stands for H(b₀, ..,
  -- bₕ)
  unfoldable pub last_digest : Sequence → Bytes
  last_digest genesis = zeros digest_size
  last_digest (add_dummy c) = last_digest c
  last_digest (add_block c b) = digest b

  -- block `b` is (i, H(b₀, .., bᵢ₋₁), txs) after the sequence `c`
  pub record Follows (c : Sequence) (b : Bytes) : Type 0 where
    pub its_height : block_height b ≡ suc (height c)
    pub its_parent : parent_height b ≡ last_block c
    pub its_digest : parent_digest b ≡ last_digest c

  -- a blockchain: each block is a dummy or names the hash of what stands before it
  pub data Blockchain : Sequence → Type 0 where
    start : Blockchain genesis
    dummy_next : {c : Sequence} → Blockchain c → Blockchain (add_dummy c)
    block_next : {c : Sequence} {b : Bytes} → Blockchain c → Follows c b → Blockchain (add_block c b)

  module _ (v : View) where
    -- a notarized blockchain: a blockchain with a notarization for each block after the genesis block
    pub data NotarizedBlockchain : Sequence → Type 0 where
      start : NotarizedBlockchain genesis
      dummy_next : {c : Sequence} → NotarizedBlockchain c → NotarizedDummy v (suc (height c)) →
          NotarizedBlockchain (add_dummy c)
      block_next : {c : Sequence} {b : Bytes} → NotarizedBlockchain c → Follows c b →
          NotarizedBlock v (suc (height c)) b → NotarizedBlockchain (add_block c b)

    -- a finalized blockchain: the genesis block, or a notarized blockchain with a finalization for its last block
    pub data FinalizedBlockchain : Sequence → Type 0 where
      start : FinalizedBlockchain genesis
      ended : {c : Sequence} → NotarizedBlockchain c → Finalization v (height c) → FinalizedBlockchain c

    -- some notarized blockchain has height `h`
    pub record SeenOfHeight (h : ℕ) : Type 0 where
      pub sequence : Sequence
      pub notarized : NotarizedBlockchain sequence
      pub its_height : height sequence ≡ h

    -- some notarized blockchain of height `h` ends in the block of that height, and not in a dummy
    pub record SeenWithBlock (h : ℕ) : Type 0 where
      pub parent : Sequence
      pub block : Bytes
      pub notarized : NotarizedBlockchain (add_block parent block)
      pub its_height : suc (height parent) ≡ h
