-- Linked heights, blocks that extend them, finalized heights and chains, as facts with their reasons.
use Rattle.std.specs.Prelude.{ℕ, ◌≤◌, ◌<◌, ◌≡◌, ◌⊎◌, true}
use Rattle.protocol.specs.Bytes.{Bytes}
use Rattle.protocol.specs.Block.{parent_height, parent_digest}
use Rattle.protocol.specs.View.{View, quorum, is_dummy, digest_at}

-- a block of height `h` names height `j` and the digest of the block there, and only dummies lie between
pub record OnParent (digest : Bytes → Bytes) (v : View) (h j : ℕ) (block : Bytes) : Type 0 where
  pub height : parent_height block ≡ j
  pub below : j < h
  pub names : parent_digest block ≡ digest_at digest v j
  pub dummies : (k : ℕ) → j < k → k < h → is_dummy v k ≡ true

-- height 0 is linked, and a height whose notarized block has a linked parent
pub data Linked (digest : Bytes → Bytes) (v : View) : ℕ → Type 0 where
  start : Linked digest v 0
  link : {h j : ℕ} → v.has_block h ≡ true → Linked digest v j → OnParent digest v h j (v.block h) → Linked digest v h

-- a block extends a notarized chain at height `h` (document 01: it stands)
pub record Extends (digest : Bytes → Bytes) (v : View) (h : ℕ) (block : Bytes) : Type 0 where
  pub parent : ℕ
  pub parent_linked : Linked digest v parent
  pub on_parent : OnParent digest v h parent block

-- height `h` is finalized (document 01: settled)
pub record Finalized (digest : Bytes → Bytes) (v : View) (h : ℕ) : Type 0 where
  pub is_linked : Linked digest v h
  pub has_quorum : quorum v (v.finalize_mask h) ≡ true

-- a chain of height `h` whose last block is that of height `j`: linked, with dummies after it up to `h`
pub record ChainOf (digest : Bytes → Bytes) (v : View) (h j : ℕ) : Type 0 where
  pub within : j ≤ h
  pub is_linked : Linked digest v j
  pub dummies : (k : ℕ) → j < k → k ≤ h → is_dummy v k ≡ true

-- the largest finalized height from 1 to `h`, and 0 where there is none
pub record Largest (digest : Bytes → Bytes) (v : View) (h g : ℕ) : Type 0 where
  pub within : g ≤ h
  pub finalized : (g ≡ 0) ⊎ Finalized digest v g
  pub most : (k : ℕ) → 1 ≤ k → k ≤ h → Finalized digest v k → k ≤ g
