-- Tests taken apart and put together: rows, heights, ranges, refusals, zero bytes and equal bytes.
use Rattle.std.specs.Prelude.{ℕ, zero, suc, ◌+◌, ◌≤◌, ◌<◌, ◌≡◌, ◌⊎◌, Bool, ◌&&◌, cond, List, [], ◌∷◌, ◌++◌, length, get_or, eqb, leb}
use Rattle.std.proofs.Common.{arith, add-one, ap₂, ◌∙◌, inl, inr, true≢false, eqb-true, leb-true, le-leb}
use Rattle.std.proofs.Math.Path.{refl, sym}
use Rattle.std.proofs.Math.Bool.{true, false, and-true}
use Rattle.std.proofs.lemmas.Bool.{false≢true}
use Rattle.std.proofs.Math.Option.{some, none}
use Rattle.protocol.specs.Every.{Every, one}
use Rattle.protocol.specs.Bytes.{Bytes, zeros, all, is_zero, same}
use Rattle.protocol.specs.Tests.{all_of, implies, in_range, every_height, Row, first_refusal}
use Rattle.protocol.proofs.Laws.TestsLaws.{eqb_self, and_both, le_or_lt}

abbrev pub IsTrue : Bool → Type 0
IsTrue test = test ≡ true

pub true_and : (a b : Bool) → a ≡ true → b ≡ true → (a && b) ≡ true
true_and a b p q = rw (p, q)

-- a test that cannot pass fails
pub not_passed : (a : Bool) → (a ≡ true → ⊥) → a ≡ false
not_passed true f = absurd (f refl)
not_passed false f = refl

-- ---- rows that all pass
-- the row of that number, counted from 0
pub row : (rows : List Bool) (i : ℕ) → all_of rows ≡ true → get_or rows i true ≡ true
unfolding all_of
row [] i e = refl
row (x ∷ xs) zero e = (and_both x (all_of xs) e).0
row (x ∷ xs) (suc i) e = row xs i (and_both x (all_of xs) e).1

pub all_of_lem : {rows : List Bool} → Every IsTrue rows → all_of rows ≡ true
unfolding all_of
all_of_lem Every.none = refl
all_of_lem (one {x = x} {xs = xs} p ps) = true_and x (all_of xs) p (all_of_lem ps)

-- what follows from rows follows from a list of them: the list's own law names them in order, as in
-- `by_rows _ e λ size height. ..`, so that a row more is a name more there, and moves no other
abbrev pub FromRows : List Bool → Type 0 → Type 0
FromRows [] Fact = Fact
FromRows (x ∷ xs) Fact = x ≡ true → FromRows xs Fact

pub by_rows : {Fact : Type 0} (rows : List Bool) → all_of rows ≡ true → FromRows rows Fact → Fact
unfolding all_of
by_rows [] e fact = fact
by_rows (x ∷ xs) e fact = let t = and_both x (all_of xs) e in by_rows xs t.1 (fact t.0)

-- ---- rows in groups, of which the last is asked for where the others pass
module _ (head every : Bool) where
  pub heads_pass : head ≡ true → every ≡ all_of (head ∷ every ∷ [])
  unfolding all_of
  heads_pass e = rw e (sym (and-true every))

  pub heads_fail : head ≡ false → false ≡ all_of (head ∷ every ∷ [])
  unfolding all_of
  heads_fail e = rw e

  module _ (final all : Bool) (is : all ≡ (head && (every && final))) where
    pub last_decides : all_of (head ∷ every ∷ []) ≡ true → final ≡ all
    last_decides rows = by_rows _ rows λ first second. sym (is ∙ rw (first, second))

    pub rows_decide : all_of (head ∷ every ∷ []) ≡ false → false ≡ all
    unfolding all_of
    rows_decide rows = sym (is ∙ neither head every final rows)
      where
        neither : (a b c : Bool) → (a && (b && true)) ≡ false → (a && (b && c)) ≡ false
        neither true true c e = absurd (true≢false e)
        neither true false c e = refl
        neither false b c e = refl

-- ---- heights
pub every_height_at : (test : ℕ → Bool) (last h : ℕ) → every_height test last ≡ true → 1 ≤ h → h ≤ last → test h ≡ true
unfolding every_height
every_height_at test zero h e low high = absurd (omega arith)
every_height_at test (suc last) h e low high = pick (le_or_lt h last)
    (and_both (every_height test last) (test (suc last)) e)
    (λ l t. every_height_at test last h t low l)
  where
    pick : (h ≤ last) ⊎ (last < h) → (every_height test last ≡ true) × (test (suc last) ≡ true) →
        (h ≤ last → every_height test last ≡ true → test h ≡ true) → test h ≡ true
    pick (inl l) t below = below l t.0
    pick (inr l) t below = let same_height : h ≡ suc last = omega arith in rw same_height t.1

pub every_height_lem : (test : ℕ → Bool) (last : ℕ) → ((h : ℕ) → 1 ≤ h → h ≤ last → test h ≡ true) →
    every_height test last ≡ true
unfolding every_height
every_height_lem test zero each = refl
every_height_lem test (suc last) each = true_and (every_height test last) (test (suc last))
    (every_height_lem test last (λ h low high. each h low (omega arith))) (each (suc last) (omega arith) (omega arith))

pub every_height_fails : (test : ℕ → Bool) (last h : ℕ) → 1 ≤ h → h ≤ last → test h ≡ false →
    every_height test last ≡ false
every_height_fails test last h low high f =
    not_passed (every_height test last) (λ e. true≢false (sym (every_height_at test last h e low high) ∙ f))

-- one height more
pub every_more : (test : ℕ → Bool) (h : ℕ) → every_height test h ≡ true → test (h + 1) ≡ true →
    every_height test (h + 1) ≡ true
unfolding every_height
every_more test h before next = rw add-one (true_and (every_height test h) (test (suc h)) before (rw add-one at next))

-- ---- implications and ranges
-- what is tested only where something is held
pub where_held : (a b : Bool) → a ≡ true → implies a b ≡ b
unfolding implies
where_held a b e = rw e

pub where_none : (a b : Bool) → a ≡ false → implies a b ≡ true
unfolding implies
where_none a b e = rw e

pub implies_true : (a b : Bool) → implies a b ≡ true → a ≡ true → b ≡ true
unfolding implies
implies_true true b e p = e
implies_true false b e p = absurd (false≢true p)

pub true_implies : (a b : Bool) → (a ≡ true → b ≡ true) → implies a b ≡ true
unfolding implies
true_implies true b f = f refl
true_implies false b f = refl

pub in_range_lem : (low high x : ℕ) → in_range low high x ≡ true → (low ≤ x) × (x ≤ high)
unfolding in_range
in_range_lem low high x e = let t = and_both (leb low x) (leb x high) e in (leb-true low x t.0, leb-true x high t.1)

pub range_in : (low high x : ℕ) → low ≤ x → x ≤ high → in_range low high x ≡ true
unfolding in_range
range_in low high x p q = true_and (leb low x) (leb x high) (le-leb low x p) (le-leb x high q)

-- ---- refusals
-- a list of rows refuses nothing if and only if its first row passes and the rest refuses nothing
pub row_passes : (r : Row) (rows : List Row) → first_refusal (r ∷ rows) ≡ none →
    (r.1 ≡ true) × (first_refusal rows ≡ none)
unfolding first_refusal
row_passes r rows e = go r.1 refl e
  where
    go : (t : Bool) → r.1 ≡ t → cond t (first_refusal rows) (some r.0) ≡ none →
        (r.1 ≡ true) × (first_refusal rows ≡ none)
    go true p q = (p, q)
    go false p q = let z : ◌≡◌ {A = ℕ} 0 1 = cc in absurd (omega arith)

pub pass_row : (r : Row) (rows : List Row) → r.1 ≡ true → first_refusal (r ∷ rows) ≡ first_refusal rows
unfolding first_refusal
pass_row r rows e = rw e

pub refuse_row : (r : Row) (rows : List Row) → r.1 ≡ false → first_refusal (r ∷ rows) ≡ some r.0
unfolding first_refusal
refuse_row r rows e = rw e

-- the same of refusals, where nothing is refused
abbrev pub FromTested : List Row → Type 0 → Type 0
FromTested [] Fact = Fact
FromTested (r ∷ rows) Fact = r.1 ≡ true → FromTested rows Fact

pub by_tested : {Fact : Type 0} (rows : List Row) → first_refusal rows ≡ none → FromTested rows Fact → Fact
by_tested [] e fact = fact
by_tested (r ∷ rows) e fact = let t = row_passes r rows e in by_tested rows t.1 (fact t.0)

-- rows after rows
pub split_rows : (rows more : List Row) → first_refusal (rows ++ more) ≡ none →
    (first_refusal rows ≡ none) × (first_refusal more ≡ none)
unfolding first_refusal
split_rows [] more e = (refl, e)
split_rows (r ∷ rows) more e =
    let t = row_passes r (rows ++ more) e in
    let q = split_rows rows more t.1 in
    (pass_row r rows t.0 ∙ q.0, q.1)

pub pass_rows : (rows more : List Row) → first_refusal rows ≡ none → first_refusal (rows ++ more) ≡ first_refusal more
pass_rows [] more e = refl
pass_rows (r ∷ rows) more e =
    let t = row_passes r rows e in
    pass_row r (rows ++ more) t.0 ∙ pass_rows rows more t.1

pub refuse_rows : (rows more : List Row) (number : ℕ) → first_refusal rows ≡ some number →
    first_refusal (rows ++ more) ≡ some number
unfolding first_refusal
refuse_rows [] more number e = let z : ◌≡◌ {A = ℕ} 0 1 = cc in absurd (omega arith)
refuse_rows (r ∷ rows) more number e = go r.1 e (λ f. refuse_rows rows more number f)
  where
    go : (t : Bool) → cond t (first_refusal rows) (some r.0) ≡ some number →
        (first_refusal rows ≡ some number → first_refusal (rows ++ more) ≡ some number) →
        cond t (first_refusal (rows ++ more)) (some r.0) ≡ some number
    go true e below = below e
    go false e below = e

-- ---- zero bytes, equal bytes
pub is_zero_zeros : (bytes : Bytes) → is_zero bytes ≡ true → bytes ≡ zeros (length bytes)
unfolding is_zero all zeros
is_zero_zeros [] e = refl
is_zero_zeros (x ∷ xs) e =
    let t = and_both (eqb x 0) (all (λ y. eqb y 0) xs) e in
    ap₂ ◌∷◌ (eqb-true x 0 t.0) (is_zero_zeros xs t.1)

pub zeros_is_zero : (count : ℕ) → is_zero (zeros count) ≡ true
unfolding is_zero all zeros
zeros_is_zero zero = refl
zeros_is_zero (suc count) = zeros_is_zero count

pub same_eq : (a b : Bytes) → same a b ≡ true → a ≡ b
unfolding same
same_eq [] [] e = refl
same_eq [] (y ∷ ys) e = absurd (false≢true e)
same_eq (x ∷ xs) [] e = absurd (false≢true e)
same_eq (x ∷ xs) (y ∷ ys) e =
    let t = and_both (eqb x y) (same xs ys) e in
    ap₂ ◌∷◌ (eqb-true x y t.0) (same_eq xs ys t.1)

pub same_self : (a : Bytes) → same a a ≡ true
unfolding same
same_self [] = refl
same_self (x ∷ xs) = true_and (eqb x x) (same xs xs) (eqb_self x) (same_self xs)

pub eq_same : (a b : Bytes) → a ≡ b → same a b ≡ true
eq_same a b e = rw e (same_self b)

-- ---- every byte
pub all_at : (test : ℕ → Bool) (bytes : Bytes) (i : ℕ) → all test bytes ≡ true → i < length bytes →
    test (get_or bytes i 0) ≡ true
unfolding all
all_at test [] i e l = absurd (omega arith)
all_at test (x ∷ xs) zero e l = (and_both (test x) (all test xs) e).0
all_at test (x ∷ xs) (suc i) e l = all_at test xs i (and_both (test x) (all test xs) e).1 (omega arith)

pub at_all : (test : ℕ → Bool) (bytes : Bytes) → ((i : ℕ) → i < length bytes → test (get_or bytes i 0) ≡ true) →
    all test bytes ≡ true
unfolding all
at_all test [] each = refl
at_all test (x ∷ xs) each = true_and (test x) (all test xs) (each 0 (omega arith))
    (at_all test xs (λ i l. each (suc i) (omega arith)))

-- ---- zero bytes and unequal bytes, by a place
pub is_zero_byte : (bytes : Bytes) (i : ℕ) → is_zero bytes ≡ true → get_or bytes i 0 ≡ 0
unfolding is_zero all
is_zero_byte [] i e = refl
is_zero_byte (x ∷ xs) zero e = eqb-true x 0 (and_both (eqb x 0) (all (λ y. eqb y 0) xs) e).0
is_zero_byte (x ∷ xs) (suc i) e = is_zero_byte xs i (and_both (eqb x 0) (all (λ y. eqb y 0) xs) e).1
