-- Two views that agree on notarized blocks, and of which none has a dummy block where the other is finalized, have
-- chains of which one begins the other.
use Prim.Native.Nat.{ℕ, zero, suc, ◌≤◌, ◌<◌}
use native.Mathlib.Omega.{arith}
use Rattle.std.specs.Prelude.{◌≡◌, refl, ◌⊎◌, List, [], ◌∷◌, ◌++◌}
use Rattle.std.proofs.Common.{sym, ap, ap₂, ◌∙◌, inl, inr, append_assoc, append-nil}
use Rattle.std.proofs.Math.Bool.{true}
use Rattle.std.proofs.Math.Seq.{take-append_seam}
use Rattle.protocol.specs.Block.{all_entries, parent_height}
use Rattle.protocol.specs.Bytes.{Bytes, join}
use Rattle.protocol.specs.Distinct.{distinct_after, distinct}
use Rattle.protocol.proofs.Laws.DistinctLaws.{distinct_append}
use Rattle.protocol.proofs.Laws.TestsLaws.{and_both, le_or_lt}
use Rattle.protocol.proofs.Laws.PiecesLaws.{join_append}
use Rattle.protocol.proofs.Laws.ChainLaws.{chain_suc}
use Rattle.protocol.proofs.Laws.LinkedLaws.{linked_parent}
use Rattle.protocol.proofs.Laws.ViewLaws.{chain_zero, all_entries-append}
use Rattle.protocol.specs.Linked.{OnParent}
use Rattle.protocol.specs.View.{View, chain, is_dummy, is_finalized, linked, quorum}
use Rattle.agreement.specs.Lists.{Begins}

unfoldable pub Prefix : {A : Type 0} → List A → List A → Type 0
Prefix {A} xs ys = (zs : List A) × (ys ≡ xs ++ zs)

prefix_nil : {A : Type 0} (ys : List A) → Prefix [] ys
unfolding Prefix
prefix_nil ys = (ys, refl)

-- ---- chains of linked heights
abbrev back : View → ℕ → ℕ
back v h = parent_height (v.block h)

module _ (digest : Bytes → Bytes) where
  module _ (v v' : View)
      (equal : (i : ℕ) → v.has_block (suc i) ≡ true → v'.has_block (suc i) ≡ true →
      v.block (suc i) ≡ v'.block (suc i)) where
    -- of heights up to `f`
    same_chain : (f h : ℕ) → h ≤ f → linked digest v h ≡ true → linked digest v' h ≡ true → chain v h ≡ chain v' h
    same_chain zero zero few e e' = chain_zero v ∙ sym (chain_zero v')
    same_chain zero (suc i) few e e' = absurd (omega arith)
    same_chain (suc f) zero few e e' = chain_zero v ∙ sym (chain_zero v')
    same_chain (suc f) (suc i) few e e' =
        let (has, parent, on) = linked_parent digest v i e in
        let (has', parent', on') = linked_parent digest v' i e' in
        let lower = on.below in
        let p = equal i has has' in
        let q : back v (suc i) ≡ back v' (suc i) = ap parent_height p in
        let below = same_chain f (back v (suc i)) (omega arith) parent (rw q parent') ∙ ap (chain v') q in
        chain_suc digest v i e ∙ ap₂ (λ (x : List Bytes) (y : Bytes). x ++ (y ∷ [])) below p
        ∙ sym (chain_suc digest v' i e')

    -- the chain of a height that has no dummy block in the other view begins each longer chain of that view
    begins : (f g g' : ℕ) → g' ≤ f → linked digest v g ≡ true → linked digest v' g' ≡ true →
        (is_dummy v' g ≡ true → ⊥) → g ≤ g' → Prefix (chain v g) (chain v' g')
    unfolding Prefix
    begins zero g g' few e e' final le =
        let z : g ≡ 0 = omega arith in rw (z, chain_zero v) (prefix_nil (chain v' g'))
    begins (suc f) g zero few e e' final le =
        let z : g ≡ 0 = omega arith in rw (z, chain_zero v) (prefix_nil (chain v' 0))
    begins (suc f) g (suc i) few e e' final le =
        let lower = on.below in
        go (λ h. begins f g (back v' (suc i)) (omega arith) e parent final h) (le_or_lt (suc i) g)
      where
        parent : linked digest v' (back v' (suc i)) ≡ true
        parent = (linked_parent digest v' i e').1

        on : OnParent digest v' (suc i) (back v' (suc i)) (v'.block (suc i))
        on = (linked_parent digest v' i e').2

        Longer : Type 0
        Longer = Prefix (chain v g) (chain v' (suc i))

        Shorter : Type 0
        Shorter = Prefix (chain v g) (chain v' (back v' (suc i)))

        longer : Shorter → Longer
        longer (zs, z) =
            let top : List Bytes = v'.block (suc i) ∷ [] in
            (zs ++ top, chain_suc digest v' i e' ∙ rw z (append_assoc (chain v g) zs top))

        behind : (g ≤ back v' (suc i) → Shorter) → g < suc i → (g ≤ back v' (suc i)) ⊎ (back v' (suc i) < g) → Longer
        behind below h (inl z) = longer (below z)
        behind below h (inr z) = absurd (final (on.dummies g z h))

        go : (g ≤ back v' (suc i) → Shorter) → (suc i ≤ g) ⊎ (g < suc i) → Longer
        go below (inl h) =
            let z : suc i ≡ g = omega arith in
            let same-one = same_chain g g (omega arith) e (rw z at e') in
            ([], ap (chain v') z ∙ sym same-one ∙ sym (append-nil (chain v g)))
        go below (inr h) = behind below h (le_or_lt g (back v' (suc i)))

    -- the chains of two finalized heights, where a height finalized in the first view has no dummy block in the second
    pub settled_chains : ((i : ℕ) → quorum v (v.finalize_mask (suc i)) ≡ true → is_dummy v' (suc i) ≡ true → ⊥) →
        (g g' : ℕ) → (g ≡ 0) ⊎ (is_finalized digest v g ≡ true) → (g' ≡ 0) ⊎ (is_finalized digest v' g' ≡ true) →
        g ≤ g' → Prefix (chain v g) (chain v' g')
    unfolding is_finalized
    settled_chains apart zero g' q q' le = rw (chain_zero v) (prefix_nil (chain v' g'))
    settled_chains apart (suc i) g' (inl q) q' le = absurd (omega arith)
    settled_chains apart (suc i) g' (inr q) (inl q') le = absurd (omega arith)
    settled_chains apart (suc i) g' (inr q) (inr q') le =
        let a = and_both (linked digest v (suc i)) (quorum v (v.finalize_mask (suc i))) q in
        let a' = and_both (linked digest v' g') (quorum v' (v'.finalize_mask g')) q' in
        begins g' (suc i) g' (omega arith) a.0 a'.0 (λ z. apart i a.1 z) le

-- ---- from chains to bytes: a beginning gives a beginning of the distinct entries
pub prefix_bytes : (xs ys : List Bytes) → Prefix xs ys →
    Begins (join (distinct (all_entries xs))) (join (distinct (all_entries ys)))
unfolding Begins Prefix
prefix_bytes xs ys (zs, e) =
    let more = distinct_after (all_entries xs) (all_entries zs) in
    rw (
      e,
      all_entries-append xs zs,
      distinct_append (all_entries xs) (all_entries zs),
      join_append (distinct (all_entries xs)) more,
    )
    (sym (take-append_seam (join (distinct (all_entries xs))) (join more)))
