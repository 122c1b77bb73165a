-- What the walk over parent heights relies on: the digest that a block names, and a block's test by its parts.
use Prim.Native.Nat.{ℕ, zero, suc, ◌+◌, ◌-◌, ◌*◌, ◌≤◌}
use native.Mathlib.Omega.{arith}
use mathlib.Core.Path.{◌≡◌, refl, sym, ap, ◌∙◌}
use mathlib.Core.Logic.{◌≢◌}
use mathlib.Core.Bool.{Bool, true, false, ◌&&◌, and-true, and-false}
use mathlib.Core.List.{[], ◌∷◌}
use mathlib.Core.Option.{some, none}
use lib.ListN.{length, take, drop}
use lib.Dec.{ltb}
use Rattle.protocol.specs.Bytes.{Bytes, part, zeros, same, put}
use Rattle.protocol.specs.Block.{parent_height, parent_digest}
use Rattle.protocol.specs.Tests.{all_of}
use Rattle.protocol.specs.View.{View, quorum, is_dummy, digest_at, linked, extends, extends_over, dummy_run, is_finalized}
use Rattle.protocol.specs.View.{largest_finalized, parent_of}
use Rattle.protocol.proofs.Laws.BytesLaws.{length_part, put_all}
use Rattle.protocol.proofs.Laws.LinkedLaws.{linked_suc, linked_zero}
use Rattle.sha256.specs.Digest.{sha256}

-- ---- the digest that a block names
pub digest_start : (v : View) (j : ℕ) → j ≡ 0 → zeros 32 ≡ digest_at sha256 v j
unfolding digest_at
digest_start v zero e = refl
digest_start v (suc j) e = absurd (omega arith)

digest_block : (v : View) (j : ℕ) → j ≢ 0 → sha256 (v.block j) ≡ digest_at sha256 v j
unfolding digest_at
digest_block v zero no_zero = absurd (no_zero refl)
digest_block v (suc j) no_zero = refl

-- the digest that a memory keeps, copied over 32 bytes
pub digest_copied : (v : View) (known old : Bytes) (j count : ℕ) → j ≢ 0 → count ≡ 32 → length old ≡ 32 →
    36 * j + 4 + 32 ≤ length known →
    part known (36 * j + 4) 32 ≡ sha256 (v.block j) →
    put old 0 (take count (drop (36 * j + 4) known)) ≡ digest_at sha256 v j
unfolding part
digest_copied v known old j count no_zero whole size fits kept =
    ap (λ (k : ℕ). put old 0 (take k (drop (36 * j + 4) known))) whole
    ∙ put_all old (take 32 (drop (36 * j + 4) known))
    (size ∙ sym (unfold part in length_part known (36 * j + 4) 32 fits))
    ∙ kept ∙ digest_block v j no_zero

pub names_digest : (block digest : Bytes) → same (take 32 (drop 16 block)) digest ≡ same (parent_digest block) digest
unfolding parent_digest part
names_digest block digest = refl

-- ---- the rows of a block that extends
module _ (v : View) (h j : ℕ) (block : Bytes) (names : parent_height block ≡ j) where
  abbrev Rows : Bool
  Rows = all_of (ltb j h ∷ linked sha256 v j ∷ same (parent_digest block) (digest_at sha256 v j) ∷ dummy_run v j
      (h - 1 - j) ∷ [])

  by_rows : extends sha256 v h block ≡ Rows
  unfolding extends extends_over
  by_rows = rw names

  pub extends_not_below : ltb j h ≡ false → extends sha256 v h block ≡ false
  unfolding all_of
  extends_not_below e = by_rows ∙ rw e

  pub extends_not_linked : linked sha256 v j ≡ false → extends sha256 v h block ≡ false
  unfolding all_of
  extends_not_linked e = by_rows ∙ rw e (and-false (ltb j h))

  pub extends_by_digest : ltb j h ≡ true → linked sha256 v j ≡ true → dummy_run v j (h - 1 - j) ≡ true →
      extends sha256 v h block ≡ same (parent_digest block) (digest_at sha256 v j)
  unfolding all_of
  extends_by_digest e e' e'' = by_rows ∙ rw (e, e', e'') (and-true (same (parent_digest block) (digest_at sha256 v j)))

  pub extends_not_run : dummy_run v j (h - 1 - j) ≡ false → extends sha256 v h block ≡ false
  unfolding all_of
  extends_not_run e = by_rows ∙ rw e (all_false (ltb j h) (linked sha256 v j)
      (same (parent_digest block) (digest_at sha256 v j)))
    where
      all_false : (a b c : Bool) → (a && (b && (c && false))) ≡ false
      all_false true true true = refl
      all_false true true false = refl
      all_false true false c = refl
      all_false false b c = refl

-- ---- linked heights
pub linked_by_block : (v : View) (h : ℕ) → 1 ≤ h → v.has_block h ≡ true →
    linked sha256 v h ≡ extends sha256 v h (v.block h)
linked_by_block v zero low e = absurd (omega arith)
linked_by_block v (suc i) low e = linked_suc sha256 v i ∙ rw e

pub not_linked_without : (v : View) (h : ℕ) → 1 ≤ h → v.has_block h ≡ false → linked sha256 v h ≡ false
not_linked_without v zero low e = absurd (omega arith)
not_linked_without v (suc i) low e = linked_suc sha256 v i ∙ rw e

pub linked_start : (v : View) (h : ℕ) → h ≡ 0 → linked sha256 v h ≡ true
linked_start v h e = rw e (linked_zero sha256 v)

-- ---- finalized heights
module _ (v : View) (h : ℕ) where
  pub finalized_by_link : quorum v (v.finalize_mask h) ≡ true → linked sha256 v h ≡ is_finalized sha256 v h
  unfolding is_finalized
  finalized_by_link e = rw e (sym (and-true (linked sha256 v h)))

  pub not_finalized_without : quorum v (v.finalize_mask h) ≡ false → is_finalized sha256 v h ≡ false
  unfolding is_finalized
  not_finalized_without e = rw e (and-false (linked sha256 v h))

-- ---- from the top down
module _ (v : View) where
  pub largest_here : (h : ℕ) → 1 ≤ h → is_finalized sha256 v h ≡ true → h ≡ largest_finalized sha256 v h
  unfolding largest_finalized
  largest_here zero low e = absurd (omega arith)
  largest_here (suc i) low e = rw e

  pub largest_below : (h : ℕ) → 1 ≤ h → is_finalized sha256 v h ≡ false →
      largest_finalized sha256 v (h - 1) ≡ largest_finalized sha256 v h
  unfolding largest_finalized
  largest_below zero low e = absurd (omega arith)
  largest_below (suc i) low e = let back : suc i - 1 ≡ i = omega arith in rw (back, e)

  pub largest_none : (h : ℕ) → h ≡ 0 → 0 ≡ largest_finalized sha256 v h
  unfolding largest_finalized
  largest_none zero e = refl
  largest_none (suc i) e = absurd (omega arith)

  pub parent_here : (h : ℕ) → 1 ≤ h → linked sha256 v h ≡ true → some h ≡ parent_of sha256 v h
  unfolding parent_of
  parent_here zero low e = absurd (omega arith)
  parent_here (suc i) low e = rw e

  pub parent_below_lem : (h : ℕ) → 1 ≤ h → linked sha256 v h ≡ false → is_dummy v h ≡ true →
      parent_of sha256 v (h - 1) ≡ parent_of sha256 v h
  unfolding parent_of
  parent_below_lem zero low e d = absurd (omega arith)
  parent_below_lem (suc i) low e d = let back : suc i - 1 ≡ i = omega arith in rw (back, e, d)

  pub parent_stops : (h : ℕ) → 1 ≤ h → linked sha256 v h ≡ false → is_dummy v h ≡ false → none ≡ parent_of sha256 v h
  unfolding parent_of
  parent_stops zero low e d = absurd (omega arith)
  parent_stops (suc i) low e d = rw (e, d)

  pub parent_start : (h : ℕ) → h ≡ 0 → some 0 ≡ parent_of sha256 v h
  unfolding parent_of
  parent_start zero e = refl
  parent_start (suc i) e = absurd (omega arith)
