-- What certificates say: quorums, linked and finalized heights, chains and the log, over a small view of a state.
use Rattle.std.specs.Prelude.{ℕ, zero, suc, ◌+◌, ◌-◌, ◌*◌, Bool, true, ◌&&◌, ◌||◌, cond, List, [], ◌∷◌, ◌++◌, eqb, leb, ltb}
use Rattle.std.proofs.Math.Option.{Option, some, none}
use Rattle.protocol.specs.Bytes.{Bytes, zeros, same}
use Rattle.protocol.specs.Distinct.{distinct}
use Rattle.protocol.specs.Tests.{all_of}
use Rattle.protocol.specs.Block.{digest_size, parent_height, parent_digest, all_entries}
use Rattle.protocol.specs.Mask.{in_mask, weigh, total}

-- what the rules of this file read: the number of replicas and the weight of each, and for each height whether a block
-- is notarized there, that block, and the masks of its certificate, of the dummy votes and of the finalize votes
pub record View : Type 0 where
  pub n : ℕ
  pub weights : List ℕ
  pub has_block : ℕ → Bool
  pub block : ℕ → Bytes
  pub certificate_mask : ℕ → ℕ
  pub dummy_mask : ℕ → ℕ
  pub finalize_mask : ℕ → ℕ

-- the weight of the replicas in a mask
abbrev pub mask_weight : View → ℕ → ℕ
mask_weight v mask = weigh (λ t. in_mask mask t) v.weights

-- the weight of all replicas
abbrev pub total_weight : View → ℕ
total_weight v = total v.weights

-- a mask holds at least two thirds of the weight
unfoldable pub quorum : View → ℕ → Bool
quorum v mask = leb (2 * total_weight v) (3 * mask_weight v mask)

-- the dummy block of height `h` is notarized (document 01: height h is blank)
unfoldable pub is_dummy : View → ℕ → Bool
is_dummy v h = quorum v (v.dummy_mask h)

-- the dummy blocks of the `count` heights after `j` are notarized
unfoldable pub dummy_run : View → ℕ → ℕ → Bool
dummy_run v j zero = true
dummy_run v j (suc count) = dummy_run v j count && is_dummy v (j + suc count)

module _ (digest : Bytes → Bytes) where
  -- the digest that a block with parent height `j` must name
  unfoldable pub digest_at : View → ℕ → Bytes
  digest_at v zero = zeros digest_size
  digest_at v (suc j) = digest (v.block (suc j))

  -- a block extends a notarized chain at height `h` (document 01: stands), where `linkedBelow` says which heights
  -- below are linked; the first row holds for each well-formed block
  unfoldable pub extends_over : (ℕ → Bool) → View → ℕ → Bytes → Bool
  extends_over linkedBelow v h block =
      let j : ℕ = parent_height block in
      all_of
      (ltb j h ∷
      linkedBelow j ∷
      same (parent_digest block) (digest_at v j) ∷
      dummy_run v j (h - 1 - j) ∷ [])

  -- height `h` is linked, going back through parent heights at most `fuel` times
  unfoldable pub linked_within : ℕ → View → ℕ → Bool
  linked_within zero v h = eqb h 0
  linked_within (suc fuel) v h =
      eqb h 0 || v.has_block h && extends_over (λ j. linked_within fuel v j) v h (v.block h)

  -- height 0 is linked, and height `h` if its notarized block extends a linked height
  unfoldable pub linked : View → ℕ → Bool
  linked v h = linked_within h v h

  unfoldable pub extends : View → ℕ → Bytes → Bool
  extends v h block = extends_over (λ j. linked v j) v h block

  -- height `h` is finalized (document 01: settled)
  unfoldable pub is_finalized : View → ℕ → Bool
  is_finalized v h = linked v h && quorum v (v.finalize_mask h)

  -- the largest finalized height from 1 to `h`, and 0 where there is none
  unfoldable pub largest_finalized : View → ℕ → ℕ
  largest_finalized v zero = 0
  largest_finalized v (suc h) = cond (is_finalized v (suc h)) (suc h) (largest_finalized v h)

  -- the chain of height `h` (document 01), by its last block's height: the largest linked height with dummies after it
  -- up to `h`
  unfoldable pub parent_of : View → ℕ → Option ℕ
  parent_of v zero = some 0
  parent_of v (suc h) = cond (linked v (suc h)) (some (suc h)) (cond (is_dummy v (suc h)) (parent_of v h) none)

-- the blocks of the chain that ends in height `h`, oldest first, going back at most `fuel` times
unfoldable pub chain_within : ℕ → View → ℕ → List Bytes
chain_within zero v h = []
chain_within (suc fuel) v h =
    cond (eqb h 0) [] (chain_within fuel v (parent_height (v.block h)) ++ (v.block h ∷ []))

unfoldable pub chain : View → ℕ → List Bytes
chain v h = chain_within h v h

-- the entries of the chain that ends in height `h`, oldest block first, with their repeats (document 02, at h = g: the
-- register before shortening)
unfoldable pub log_at : View → ℕ → List Bytes
log_at v h = all_entries (chain v h)

-- the log of a view whose finalized height is `g`: the distinct entries of its chain
abbrev pub log_of : View → ℕ → List Bytes
log_of v g = distinct (log_at v g)
