-- The chain that a proposal of the next height is made on, and the largest finalized height, are what their names say.
use Prim.Native.Nat.{ℕ, zero, suc, ◌≤◌, ◌<◌}
use Rattle.std.proofs.Common.{arith, sym, subst, ◌∙◌, true≢false}
use Rattle.std.specs.Prelude.{◌≡◌, ◌⊎◌, false}
use Rattle.std.proofs.Math.Path.{refl}
use Rattle.std.proofs.Math.Logic.{inl, inr}
use Rattle.std.proofs.Math.Bool.{true}
use Rattle.std.proofs.lemmas.Bool.{false≢true}
use Rattle.std.proofs.Math.Option.{Option, some, none}
use Rattle.protocol.specs.Bytes.{Bytes}
use Rattle.protocol.specs.View.{View, is_dummy, linked, parent_of, is_finalized, largest_finalized}
use Rattle.protocol.specs.Move.{is_some}
use Rattle.protocol.specs.Linked.{Linked, start, ChainOf, Finalized, Largest}
use Rattle.protocol.proofs.Laws.TestsLaws.{cond-elim, le_or_lt}
use Rattle.protocol.proofs.Laws.LinkedLaws.{linked_sound, linked_complete, finalized_sound, finalized_complete}

module _ (digest : Bytes → Bytes) (v : View) where
  -- what an answer says of the chains of height `h`: the longest ends in block `j`, or there is none
  abbrev pub Best : ℕ → Option ℕ → Type 0
  Best h none = (j : ℕ) → ChainOf digest v h j → ⊥
  Best h (some j) = ChainOf digest v h j × ((k : ℕ) → ChainOf digest v h k → k ≤ j)

  -- a chain whose last block is that of its own height
  pub chain_here : {h : ℕ} → Linked digest v h → ChainOf digest v h h
  chain_here l = record { within = omega arith; is_linked = l; dummies = λ k low high. absurd (omega arith) }

  -- one more dummy
  pub chain_dummy : {h k : ℕ} → is_dummy v (suc h) ≡ true → ChainOf digest v h k → ChainOf digest v (suc h) k
  chain_dummy {h} {k} d c = record {
    within = let within = c.within in omega arith;
    is_linked = c.is_linked;
    dummies = λ i low high. pick i low high (le_or_lt i h);
  }
    where
      pick : (i : ℕ) → k < i → i ≤ suc h → (i ≤ h) ⊎ (h < i) → is_dummy v i ≡ true
      pick i low high (inl l) = c.dummies i low l
      pick i low high (inr l) = let top : i ≡ suc h = omega arith in rw top d

  at_block : (h : ℕ) → Linked digest v h → Best h (some h)
  at_block h l = (chain_here l, λ k c. c.within)

  -- ---- one height more, that is not linked
  module _ (h : ℕ) (bare : linked digest v (suc h) ≡ false) where
    shorter : {k : ℕ} → ChainOf digest v (suc h) k → k ≤ h
    shorter {k} c = pick (le_or_lt k h)
      where
        pick : (k ≤ h) ⊎ (h < k) → k ≤ h
        pick (inl l) = l
        pick (inr l) =
            let top : k ≡ suc h = let within = c.within in omega arith in
            absurd (true≢false (sym (linked_complete digest v (subst (λ (x : ℕ). Linked digest v x) top c.is_linked))
            ∙ bare))

    drop_dummy : {k : ℕ} → ChainOf digest v (suc h) k → ChainOf digest v h k
    drop_dummy c = record {
      within = shorter c;
      is_linked = c.is_linked;
      dummies =
          λ i low high. c.dummies i low (omega arith);
    }

    on_dummy_lem : is_dummy v (suc h) ≡ true → (o : Option ℕ) → Best h o → Best (suc h) o
    on_dummy_lem d none no-chain = λ j c. no-chain j (drop_dummy c)
    on_dummy_lem d (some j) (c, largest) = (chain_dummy d c, λ k e. largest k (drop_dummy e))

    neither : is_dummy v (suc h) ≡ false → Best (suc h) none
    neither d j c = let low = shorter c in true≢false (sym (c.dummies (suc h) (omega arith) (omega arith)) ∙ d)

  best : (h : ℕ) → Best h (parent_of digest v h)
  unfolding parent_of
  best zero = at_block zero start
  best (suc h) =
      cond-elim (Best (suc h)) (linked digest v (suc h))
      (λ l. at_block (suc h) (linked_sound digest v (suc h) l))
      (λ bare. cond-elim (Best (suc h)) (is_dummy v (suc h)) (λ d. on_dummy_lem h bare d (parent_of digest v h) (best h))
      (λ d. neither h bare d))

  -- the parent is a chain's last height, and the largest
  pub parent_some : (h j : ℕ) → parent_of digest v h ≡ some j →
      ChainOf digest v h j × ((k : ℕ) → ChainOf digest v h k → k ≤ j)
  parent_some h j e = subst (Best h) e (best h)

  pub parent_none : (h : ℕ) → parent_of digest v h ≡ none → (j : ℕ) → ChainOf digest v h j → ⊥
  parent_none h e = subst (Best h) e (best h)

  -- where there is a chain, there is a parent
  pub parent_exists : (h k : ℕ) → ChainOf digest v h k → (j : ℕ) × (parent_of digest v h ≡ some j)
  parent_exists h k c = go (parent_of digest v h) refl
    where
      go : (o : Option ℕ) → parent_of digest v h ≡ o → (j : ℕ) × (parent_of digest v h ≡ some j)
      go none e = absurd (parent_none h e k c)
      go (some j) e = (j, e)

  pub parent-is_some : (h k : ℕ) → ChainOf digest v h k → is_some (parent_of digest v h) ≡ true
  unfolding is_some
  parent-is_some h k c = rw (parent_exists h k c).1

  pub is_some-parent : (h : ℕ) → is_some (parent_of digest v h) ≡ true →
      (j : ℕ) × (parent_of digest v h ≡ some j) × ChainOf digest v h j
  unfolding is_some
  is_some-parent h e = go (parent_of digest v h) refl e
    where
      go : (o : Option ℕ) → parent_of digest v h ≡ o → is_some o ≡ true →
          (j : ℕ) × (parent_of digest v h ≡ some j) × ChainOf digest v h j
      go none p q = absurd (false≢true q)
      go (some j) p q = (j, p, (parent_some h j p).0)

module _ (digest : Bytes → Bytes) (v : View) where
  less : (h : ℕ) {g : ℕ} → is_finalized digest v (suc h) ≡ false → Largest digest v h g → Largest digest v (suc h) g
  less h {g} e l = record {
    within = let within = l.within in omega arith;
    finalized = l.finalized;
    most = λ k low high f. pick k low high f (le_or_lt k h);
  }
    where
      pick : (k : ℕ) → 1 ≤ k → k ≤ suc h → Finalized digest v k → (k ≤ h) ⊎ (h < k) → k ≤ g
      pick k low high f (inl z) = l.most k low z f
      pick k low high f (inr z) =
          let top : k ≡ suc h = omega arith in
          absurd (true≢false (sym (finalized_complete digest v k f) ∙ rw top e))

  pub largest_finalized-is : (h : ℕ) → Largest digest v h (largest_finalized digest v h)
  unfolding largest_finalized
  largest_finalized-is zero = record { within = omega arith; finalized = inl refl; most = λ k low high f. high }
  largest_finalized-is (suc h) =
      cond-elim (Largest digest v (suc h)) (is_finalized digest v (suc h))
      (λ f. record {
        within = omega arith;
        finalized = inr (finalized_sound digest v (suc h) f);
        most =
            λ k low high e. high;
      })
      (λ e. less h e (largest_finalized-is h))
