-- Splits of a list, and how what was last left and what was written go on along it.
use Rattle.std.specs.Prelude.{ℕ, ◌≡◌, refl, ◌⊎◌}
use Rattle.std.proofs.Common.{arith}
use Rattle.std.proofs.Math.Logic.{inl, inr}
use mathlib.Core.List.Memᴰ
use mathlib.Core.List.{List, [], ◌∷◌, ◌++◌, Memᴰ}
use Rattle.std.proofs.Math.Option.{Option, some, none}
use Rattle.protocol.specs.Bytes.{Bytes}
use Rattle.agreement.specs.Lists.{Member, Statement, Wrote, last_left, left_by, or_else, statement_of, writes}

-- ---- splits of a list
pub split_head : {A : Type 0} {x m : A} {xs after : List A} → x ∷ xs ≡ m ∷ after → (x ≡ m) × (xs ≡ after)
split_head e = (cc, cc)

pub split_never : {A : Type 0} (m : A) (before after : List A) → [] ≡ before ++ (m ∷ after) → ⊥
split_never m [] after e = let z : ◌≡◌ {A = ℕ} 0 1 = cc in omega arith
split_never m (x ∷ before) after e = let z : ◌≡◌ {A = ℕ} 0 1 = cc in omega arith

-- ---- options and lists
pub or_else_assoc : {A : Type 0} (x y z : Option A) → or_else (or_else x y) z ≡ or_else x (or_else y z)
unfolding or_else
or_else_assoc (some a) y z = refl
or_else_assoc none y z = refl

pub or_else_none : {A : Type 0} (x : Option A) → x ≡ or_else x none
unfolding or_else
or_else_none (some a) = refl
or_else_none none = refl

pub last_left_snoc : (digest : Bytes → Bytes) (s : ℕ) (P : List Member) (m : Member) →
    last_left digest s (P ++ (m ∷ [])) ≡ or_else (left_by digest s m) (last_left digest s P)
unfolding last_left or_else
last_left_snoc digest s [] m = or_else_none (left_by digest s m)
last_left_snoc digest s (q ∷ P) m =
    rw (last_left_snoc digest s P m) (or_else_assoc (left_by digest s m) (last_left digest s P) (left_by digest s q))

module _ (digest : Bytes → Bytes) where
  pub wrote_more : (s : ℕ) (st : Statement) (P Q : List Member) → Wrote digest s st P → Wrote digest s st (P ++ Q)
  unfolding Wrote
  wrote_more s st P Q w = (w.0, w.1, Memᴰ.append_left Q w.2, w.3, w.4, w.5)

  pub wrote_last : (s : ℕ) (st : Statement) (P : List Member) (m : Member) → Wrote digest s st (P ++ (m ∷ [])) →
      Wrote digest s st P ⊎ ((m.replica ≡ s) × (f : Bytes) × Memᴰ f
      (writes digest m) × (statement_of digest f s ≡ some st))
  unfolding Wrote
  wrote_last s st P m w = go (Memᴰ.append_cases P w.2)
    where
      go : Memᴰ w.0 P ⊎ Memᴰ w.0 (m ∷ []) →
          Wrote digest s st P ⊎ ((m.replica ≡ s) × (f : Bytes) × Memᴰ f
          (writes digest m) × (statement_of digest f s ≡ some st))
      go (inl i) = inl (w.0, w.1, i, w.3, w.4, w.5)
      go (inr i) = let e = Memᴰ.eq_of_singleton i in inr (rw e at w.3, w.1, rw e at w.4, w.5)
