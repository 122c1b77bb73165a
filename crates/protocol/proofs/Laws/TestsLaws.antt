-- Facts on tests, choices and lists that the libraries lack (`borrow.Author.Tests` has those on `leb` and `eqb`).
use Rattle.std.specs.Prelude.{ℕ, ◌≤◌, ◌<◌, ◌≡◌, refl, ◌⊎◌, Bool, true, false, ◌&&◌, ◌||◌, cond, eqb, leb}
use Rattle.std.proofs.Common.{sym, inl, inr, leb-true, leb-false, eq-eqb}
use Rattle.std.proofs.lemmas.Bool.{false≢true}
use mathlib.Core.List.{List, [], ◌∷◌, ◌++◌, Memᴰ}

-- ---- tests
pub eqb_self : (n : ℕ) → eqb n n ≡ true
eqb_self n = eq-eqb n n refl

pub and_both : (a b : Bool) → (a && b) ≡ true → (a ≡ true) × (b ≡ true)
and_both true b e = (refl, e)
and_both false b e = absurd (false≢true e)

pub or_either : (a b : Bool) → (a || b) ≡ true → (a ≡ true) ⊎ (b ≡ true)
or_either true b e = inl refl
or_either false b e = inr e

pub or_right : (a : Bool) {b : Bool} → b ≡ true → (a || b) ≡ true
or_right true e = refl
or_right false e = e

-- two tests are equal where each passes if the other does
pub both_ways_lem : (a b : Bool) → (a ≡ true → b ≡ true) → (b ≡ true → a ≡ true) → a ≡ b
both_ways_lem true b f g = sym (f refl)
both_ways_lem false true f g = g refl
both_ways_lem false false f g = refl

-- to prove something of a choice, prove it of both
pub cond-elim {ℓ} : {A : Type 0} (Q : A → Type ℓ) (b : Bool) {x y : A} → (b ≡ true → Q x) → (b ≡ false → Q y) →
    Q (cond b x y)
cond-elim Q true p q = p refl
cond-elim Q false p q = q refl

pub le_or_lt : (m n : ℕ) → (m ≤ n) ⊎ (n < m)
le_or_lt m n = go (leb m n) refl
  where
    go : (b : Bool) → leb m n ≡ b → (m ≤ n) ⊎ (n < m)
    go true e = inl (leb-true m n e)
    go false e = inr (leb-false m n e)

-- ---- lists
pub member_split : {A : Type 0} {x : A} (l : List A) → Memᴰ x l →
    (front : List A) × (back : List A) × (l ≡ front ++ (x ∷ back))
member_split [] h = elim h [ ]
member_split (y ∷ ys) (Memᴰ.head e) = ([], ys, rw e)
member_split (y ∷ ys) (Memᴰ.tail h) =
    let r = member_split ys h in
    (y ∷ r.0, r.1, rw (← r.2))
