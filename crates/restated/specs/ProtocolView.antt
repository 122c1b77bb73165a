-- Written by tests/restated --write: what docs/statements has of
-- crates/protocol/specs/View.antt.
use Rattle.std.specs.Prelude.{ℕ, zero, suc, ◌+◌, ◌-◌, ◌*◌, Bool, true, ◌&&◌, ◌||◌, cond, List, [], ◌∷◌, ◌++◌, eqb, leb, ltb}
use Rattle.std.proofs.Math.Option.{Option, some, none}
use package.Rattle.protocol.specs.Bytes.{Bytes, zeros, same}
use package.Rattle.protocol.specs.Distinct.{distinct}
use package.Rattle.protocol.specs.Tests.{all_of}
use package.Rattle.protocol.specs.Block.{digest_size, parent_height, parent_digest, all_entries}
use package.Rattle.protocol.specs.Mask.{in_mask, weigh, total}
use package.Rattle.protocol.specs.View.{View, mask_weight, total_weight, quorum, is_dummy, chain_within, chain, log_at, dummy_run}
use mathlib.Core.Path.{◌≡◌ as ◌is-kept◌, refl as by-text}
use package.Rattle.protocol.specs.View as page

View-kept : (n : ℕ) (weights : List ℕ) (has_block : ℕ → Bool) (block : ℕ → Bytes) (certificate_mask : ℕ → ℕ) (dummy_mask : ℕ → ℕ) (finalize_mask : ℕ → ℕ) →
    View
View-kept x0 x1 x2 x3 x4 x5 x6 = record { n = x0; weights = x1; has_block = x2; block = x3; certificate_mask = x4; dummy_mask = x5; finalize_mask = x6 }

abbrev mask_weight-kept : View → ℕ → ℕ
mask_weight-kept v mask = weigh (λ t. in_mask mask t) v.weights

same-mask_weight : mask_weight-kept is-kept page.mask_weight
same-mask_weight = by-text

abbrev total_weight-kept : View → ℕ
total_weight-kept v = total v.weights

same-total_weight : total_weight-kept is-kept page.total_weight
same-total_weight = by-text

quorum-kept : View → ℕ → Bool
quorum-kept v mask = leb (2 * total_weight v) (3 * mask_weight v mask)

same-quorum : quorum-kept is-kept page.quorum
unfolding quorum-kept page.quorum
same-quorum = by-text

is_dummy-kept : View → ℕ → Bool
is_dummy-kept v h = quorum v (v.dummy_mask h)

same-is_dummy : is_dummy-kept is-kept page.is_dummy
unfolding is_dummy-kept page.is_dummy
same-is_dummy = by-text

dummy_run-kept : View → ℕ → ℕ → Bool
dummy_run-kept v j zero = true
dummy_run-kept v j (suc count) = dummy_run-kept v j count && is_dummy v (j + suc count)

same-dummy_run : dummy_run-kept is-kept page.dummy_run
unfolding dummy_run-kept page.dummy_run
same-dummy_run = by-text

chain_within-kept : ℕ → View → ℕ → List Bytes
chain_within-kept zero v h = []
chain_within-kept (suc fuel) v h =
    cond (eqb h 0) [] (chain_within-kept fuel v (parent_height (v.block h)) ++ (v.block h ∷ []))

same-chain_within : chain_within-kept is-kept page.chain_within
unfolding chain_within-kept page.chain_within
same-chain_within = by-text

chain-kept : View → ℕ → List Bytes
chain-kept v h = chain_within h v h

same-chain : chain-kept is-kept page.chain
unfolding chain-kept page.chain
same-chain = by-text

log_at-kept : View → ℕ → List Bytes
log_at-kept v h = all_entries (chain v h)

same-log_at : log_at-kept is-kept page.log_at
unfolding log_at-kept page.log_at
same-log_at = by-text

abbrev log_of-kept : View → ℕ → List Bytes
log_of-kept v g = distinct (log_at v g)

same-log_of : log_of-kept is-kept page.log_of
same-log_of = by-text

module _ (digest : Bytes → Bytes) where
  abbrev digest_at : View → ℕ → Bytes
  digest_at = page.digest_at digest

  abbrev extends_over : (ℕ → Bool) → View → ℕ → Bytes → Bool
  extends_over = page.extends_over digest

  abbrev linked_within : ℕ → View → ℕ → Bool
  linked_within = page.linked_within digest

  abbrev linked : View → ℕ → Bool
  linked = page.linked digest

  abbrev is_finalized : View → ℕ → Bool
  is_finalized = page.is_finalized digest

  digest_at-kept : View → ℕ → Bytes
  digest_at-kept v zero = zeros digest_size
  digest_at-kept v (suc j) = digest (v.block (suc j))

  same-digest_at : digest_at-kept is-kept page.digest_at digest
  unfolding digest_at-kept page.digest_at
  same-digest_at = by-text

  extends_over-kept : (ℕ → Bool) → View → ℕ → Bytes → Bool
  extends_over-kept linkedBelow v h block =
      let j : ℕ = parent_height block in
      all_of
      (ltb j h ∷
      linkedBelow j ∷
      same (parent_digest block) (digest_at v j) ∷
      dummy_run v j (h - 1 - j) ∷ [])

  same-extends_over : extends_over-kept is-kept page.extends_over digest
  unfolding extends_over-kept page.extends_over
  same-extends_over = by-text

  linked_within-kept : ℕ → View → ℕ → Bool
  linked_within-kept zero v h = eqb h 0
  linked_within-kept (suc fuel) v h =
      eqb h 0 || v.has_block h && extends_over (λ j. linked_within-kept fuel v j) v h (v.block h)

  same-linked_within : linked_within-kept is-kept page.linked_within digest
  unfolding linked_within-kept page.linked_within
  same-linked_within = by-text

  linked-kept : View → ℕ → Bool
  linked-kept v h = linked_within h v h

  same-linked : linked-kept is-kept page.linked digest
  unfolding linked-kept page.linked
  same-linked = by-text

  extends-kept : View → ℕ → Bytes → Bool
  extends-kept v h block = extends_over (λ j. linked v j) v h block

  same-extends : extends-kept is-kept page.extends digest
  unfolding extends-kept page.extends
  same-extends = by-text

  is_finalized-kept : View → ℕ → Bool
  is_finalized-kept v h = linked v h && quorum v (v.finalize_mask h)

  same-is_finalized : is_finalized-kept is-kept page.is_finalized digest
  unfolding is_finalized-kept page.is_finalized
  same-is_finalized = by-text

  largest_finalized-kept : View → ℕ → ℕ
  largest_finalized-kept v zero = 0
  largest_finalized-kept v (suc h) = cond (is_finalized v (suc h)) (suc h) (largest_finalized-kept v h)

  same-largest_finalized : largest_finalized-kept is-kept page.largest_finalized digest
  unfolding largest_finalized-kept page.largest_finalized
  same-largest_finalized = by-text

  parent_of-kept : View → ℕ → Option ℕ
  parent_of-kept v zero = some 0
  parent_of-kept v (suc h) = cond (linked v (suc h)) (some (suc h)) (cond (is_dummy v (suc h)) (parent_of-kept v h) none)

  same-parent_of : parent_of-kept is-kept page.parent_of digest
  unfolding parent_of-kept page.parent_of
  same-parent_of = by-text
