-- What a replica has stated, beside its current height and its flags: never a dummy vote and a finalize for one height,
-- and one digest a height.
use Rattle.std.specs.Prelude.{ℕ, suc, ◌<◌, ◌≡◌, ◌⊎◌, Bool, true, false, eqb}
use Rattle.std.proofs.Common.{arith, sym, ap, ◌∙◌, inr, true≢false}
use Rattle.std.proofs.Math.Path.{refl}
use Rattle.std.proofs.Math.Logic.{inl}
use Rattle.std.proofs.lemmas.Bool.{eqb-false}
use Rattle.protocol.specs.Bytes.{Bytes}
use Rattle.agreement.specs.Lists.{Statement, finalizes, proposes, votes_block, votes_dummy}

-- a height before the current one `c`, or `c` itself with a flag set
abbrev Reached : ℕ → Bool → ℕ → Type 0
Reached c set h = (h < c) ⊎ ((h ≡ c) × (set ≡ true))

-- `W` says what is stated, `c` is the current height; `fired` is its flag 1 and `voted` its flag 4
pub record Consistent (W : Statement → Type 0) (c : ℕ) (fired voted : Bool) : Type 0 where
  pub dummy_old : (h : ℕ) → W (votes_dummy h) → (h < c) ⊎ ((h ≡ c) × (fired ≡ true))
  pub finalize_old : (h : ℕ) → W (finalizes h) → h < c
  pub not_both : (h : ℕ) → W (votes_dummy h) → W (finalizes h) → ⊥
  pub block_old : (h : ℕ) (d : Bytes) → W (votes_block h d) → (h < c) ⊎ ((h ≡ c) × (voted ≡ true))
  pub block_one : (h : ℕ) (d d' : Bytes) → W (votes_block h d) → W (votes_block h d') → d ≡ d'

wider : {c : ℕ} {set set' : Bool} {h : ℕ} → (set ≡ true → set' ≡ true) → Reached c set h → Reached c set' h
wider g (inl h) = inl h
wider g (inr h) = inr (h.0, g h.1)

past : {c : ℕ} {set : Bool} {h : ℕ} → Reached c set h → h < suc c
past (inl h) = omega arith
past (inr h) = omega arith

not_reached : {A : Type 0} {c : ℕ} {set : Bool} → set ≡ false → Reached c set c → A
not_reached e (inl h) = absurd (omega arith)
not_reached e (inr h) = absurd (true≢false (sym h.1 ∙ e))

-- ---- statements of different kinds
kind_of : Statement → ℕ
kind_of (proposes h block) = 1
kind_of (votes_block h digest) = 2
kind_of (votes_dummy h) = 3
kind_of (finalizes h) = 4

differ : (a b : Statement) → eqb (kind_of a) (kind_of b) ≡ false → a ≡ b → ⊥
differ a b e p = eqb-false (kind_of a) (kind_of b) e (ap kind_of p)

-- what is stated, if it is not the new statement, was stated before
before : {A B : Type 0} → A ⊎ B → (B → ⊥) → A
before (inl a) other = a
before (inr b) other = absurd (other b)

-- of statements of other kinds than the one that is stated, none is new
module _ {W W' : Statement → Type 0} (more : Statement) (new : (st : Statement) → W' st → W st ⊎ (st ≡ more)) where
  old : (st : Statement) → eqb (kind_of st) (kind_of more) ≡ false → W' st → W st
  old st e w = before (new st w) (differ st more e)

module _ {W W' : Statement → Type 0} {c : ℕ} {fired voted : Bool} (k : Consistent W c fired voted) where
  -- nothing but proposals is stated
  module _ (new : (st : Statement) → W' st → W st ⊎ ((h : ℕ) × (p : Bytes) × (st ≡ proposes h p))) where
    old_vote : (st : Statement) → ((h : ℕ) (p : Bytes) → st ≡ proposes h p → ⊥) → W' st → W st
    old_vote st other w = before (new st w) (λ e. other e.0 e.1 e.2)

    old_dummy : (h : ℕ) → W' (votes_dummy h) → W (votes_dummy h)
    unfolding kind_of
    old_dummy h w = old_vote (votes_dummy h) (λ h' p e. differ _ _ refl e) w

    old_finalize : (h : ℕ) → W' (finalizes h) → W (finalizes h)
    unfolding kind_of
    old_finalize h w = old_vote (finalizes h) (λ h' p e. differ _ _ refl e) w

    old_block : (h : ℕ) (d : Bytes) → W' (votes_block h d) → W (votes_block h d)
    unfolding kind_of
    old_block h d w = old_vote (votes_block h d) (λ h' p e. differ _ _ refl e) w

    pub stated_nothing : {fired' voted' : Bool} → (fired ≡ true → fired' ≡ true) → (voted ≡ true → voted' ≡ true) →
        Consistent W' c fired' voted'
    stated_nothing f v = record {
      dummy_old = λ h w. wider f (k.dummy_old h (old_dummy h w));
      finalize_old = λ h w. k.finalize_old h (old_finalize h w);
      not_both = λ h w w'. k.not_both h (old_dummy h w) (old_finalize h w');
      block_old = λ h d w. wider v (k.block_old h d (old_block h d w));
      block_one = λ h d d' w w'. k.block_one h d d' (old_block h d w) (old_block h d' w');
    }

  -- the dummy vote of the current height is stated, after the timer fired
  module _ (new : (st : Statement) → W' st → W st ⊎ (st ≡ votes_dummy c)) where
    dummy_reached : {fired' : Bool} → fired ≡ true → (fired ≡ true → fired' ≡ true) → (h : ℕ) →
        W (votes_dummy h) ⊎ (votes_dummy h ≡ votes_dummy c) → Reached c fired' h
    dummy_reached t f h (inl w) = wider f (k.dummy_old h w)
    dummy_reached t f h (inr e) = inr (cc, f t)

    dummy_alone : (h : ℕ) → W (votes_dummy h) ⊎ (votes_dummy h ≡ votes_dummy c) → W (finalizes h) → ⊥
    dummy_alone h (inl w) w' = k.not_both h w w'
    dummy_alone h (inr e) w' = let z : h ≡ c = cc in let q = k.finalize_old h w' in omega arith

    pub stated_dummy : {fired' voted' : Bool} → fired ≡ true → (fired ≡ true → fired' ≡ true) →
        (voted ≡ true → voted' ≡ true) →
        Consistent W' c fired' voted'
    unfolding kind_of
    stated_dummy t f v = record {
      dummy_old = λ h w. dummy_reached t f h (new _ w);
      finalize_old = λ h w. k.finalize_old h (old _ new (finalizes h) refl w);
      not_both = λ h w w'. dummy_alone h (new _ w) (old _ new (finalizes h) refl w');
      block_old = λ h d w. wider v (k.block_old h d (old _ new (votes_block h d) refl w));
      block_one = λ h d d' w w'. k.block_one h d d' (old _ new (votes_block h d) refl w)
          (old _ new (votes_block h d') refl w');
    }

  -- a block vote of the current height is stated, the first one
  module _ (p : Bytes) (new : (st : Statement) → W' st → W st ⊎ (st ≡ votes_block c p)) where
    block_reached : {voted' : Bool} → voted' ≡ true → (h : ℕ) (d : Bytes) →
        W (votes_block h d) ⊎ (votes_block h d ≡ votes_block c p) →
        Reached c voted' h
    block_reached t h d (inl w) = wider (λ z. t) (k.block_old h d w)
    block_reached t h d (inr e) = inr (cc, t)

    block_alone : voted ≡ false → (h : ℕ) (d d' : Bytes) →
        W (votes_block h d) ⊎ (votes_block h d ≡ votes_block c p) →
        W (votes_block h d') ⊎ (votes_block h d' ≡ votes_block c p) → d ≡ d'
    block_alone u h d d' (inl w) (inl w') = k.block_one h d d' w w'
    block_alone u h d d' (inl w) (inr e) = let q : h ≡ c = cc in not_reached u (k.block_old c d (rw q at w))
    block_alone u h d d' (inr e) (inl w') = let q : h ≡ c = cc in not_reached u (k.block_old c d' (rw q at w'))
    block_alone u h d d' (inr e) (inr e') = cc

    pub stated_block : {fired' voted' : Bool} → voted ≡ false → voted' ≡ true → (fired ≡ true → fired' ≡ true) →
        Consistent W' c fired' voted'
    unfolding kind_of
    stated_block u t f = record {
      dummy_old = λ h w. wider f (k.dummy_old h (old _ new (votes_dummy h) refl w));
      finalize_old = λ h w. k.finalize_old h (old _ new (finalizes h) refl w);
      not_both = λ h w w'. k.not_both h (old _ new (votes_dummy h) refl w) (old _ new (finalizes h) refl w');
      block_old = λ h d w. block_reached t h d (new _ w);
      block_one = λ h d d' w w'. block_alone u h d d' (new _ w) (new _ w');
    }

  -- the current height is passed, and perhaps finalized: only if the timer did not fire
  module _ (new : (st : Statement) → W' st → W st ⊎ ((st ≡ finalizes c) × (fired ≡ false))) where
    old_at_pass : (st : Statement) → eqb (kind_of st) 4 ≡ false → W' st → W st
    unfolding kind_of
    old_at_pass st e w = before (new st w) (λ z. differ st (finalizes c) e z.0)

    finalize_past : (h : ℕ) → W (finalizes h) ⊎ ((finalizes h ≡ finalizes c) × (fired ≡ false)) → h < suc c
    finalize_past h (inl w) = let q = k.finalize_old h w in omega arith
    finalize_past h (inr e) = let q = e.0 in let z : h ≡ c = cc in omega arith

    finalize_alone : (h : ℕ) → W (votes_dummy h) → W (finalizes h) ⊎ ((finalizes h ≡ finalizes c) × (fired ≡ false)) → ⊥
    finalize_alone h w (inl w') = k.not_both h w w'
    finalize_alone h w (inr e) = let q = e.0 in let z : h ≡ c = cc in not_reached e.1 (k.dummy_old c (rw z at w))

    pub stated_finalize : {fired' voted' : Bool} → Consistent W' (suc c) fired' voted'
    unfolding kind_of
    stated_finalize = record {
      dummy_old = λ h w. inl (past (k.dummy_old h (old_at_pass (votes_dummy h) refl w)));
      finalize_old = λ h w. finalize_past h (new _ w);
      not_both = λ h w w'. finalize_alone h (old_at_pass (votes_dummy h) refl w) (new _ w');
      block_old = λ h d w. inl (past (k.block_old h d (old_at_pass (votes_block h d) refl w)));
      block_one = λ h d d' w w'. k.block_one h d d' (old_at_pass (votes_block h d) refl w)
          (old_at_pass (votes_block h d') refl w');
    }
