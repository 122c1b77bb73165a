-- The distinct entries of a list: how they grow with it, that a beginning of the list gives a beginning of them, that
-- they are the list's members, and that none stands twice among them.
use Rattle.std.specs.Prelude.{suc, ◌≤◌, ◌≡◌, refl, Bool, true, false, not, cond, List, [], ◌∷◌, ◌++◌, length}
use Rattle.std.proofs.Common.{arith, sym, ap, ◌∙◌, ⊎_elim, append_assoc, append-nil}
use Rattle.std.proofs.lemmas.Bool.{false≢true, not-true}
use Rattle.protocol.specs.Every.{Every, none, one}
use Rattle.protocol.specs.Bytes.{Bytes, same, holds, without}
use Rattle.protocol.specs.Distinct.{distinct_after, distinct, none_twice}
use Rattle.protocol.proofs.Laws.RowLaws.{same_eq, eq_same}
use Rattle.protocol.proofs.Laws.PoolLaws.{cond_append}
use Rattle.protocol.proofs.Laws.TestsLaws.{and_both, or_either, cond-elim}
use Rattle.protocol.proofs.Laws.EntriesLaws.{holds_append, holds_first, holds_next, holds_none}
use Rattle.protocol.proofs.Laws.EntriesLaws.{holds_front, holds_back}

-- ---- a longer list
after_append : (earlier xs ys : List Bytes) →
    distinct_after earlier (xs ++ ys) ≡ distinct_after earlier xs ++ distinct_after (earlier ++ xs) ys
unfolding distinct_after
after_append earlier [] ys = rw append-nil
after_append earlier (x ∷ xs) ys =
    rw (after_append (earlier ++ (x ∷ [])) xs ys, append_assoc earlier (x ∷ []) xs)
    (cond_append (holds x earlier) x (distinct_after (earlier ++ (x ∷ [])) xs) (distinct_after (earlier ++ (x ∷ xs)) ys))

-- what follows a list does not change the distinct entries of it
pub distinct_append : (xs ys : List Bytes) → distinct (xs ++ ys) ≡ distinct xs ++ distinct_after xs ys
unfolding distinct
distinct_append xs ys = after_append [] xs ys

-- one entry more: it counts if the list has it not
pub distinct_more : (es : List Bytes) (x : Bytes) →
    distinct (es ++ (x ∷ [])) ≡ distinct es ++ cond (holds x es) [] (x ∷ [])
unfolding distinct_after
distinct_more es x = distinct_append es (x ∷ [])

pub distinct_repeat : (es : List Bytes) (x : Bytes) → holds x es ≡ true → distinct (es ++ (x ∷ [])) ≡ distinct es
distinct_repeat es x e = distinct_more es x ∙ rw (e, append-nil)

pub distinct_new : (es : List Bytes) (x : Bytes) → holds x es ≡ false →
    distinct (es ++ (x ∷ [])) ≡ distinct es ++ (x ∷ [])
distinct_new es x e = distinct_more es x ∙ rw e

-- ---- membership
-- an entry that is not among the earlier ones is among the distinct ones just where it is in the list
holds_after : (x : Bytes) (earlier es : List Bytes) → holds x earlier ≡ false →
    holds x (distinct_after earlier es) ≡ holds x es
unfolding distinct_after
holds_after x earlier [] e = refl
holds_after x earlier (y ∷ ys) e = go (holds_after x (earlier ++ (y ∷ [])) ys) (same x y) refl
  where
    rest : List Bytes
    rest = distinct_after (earlier ++ (y ∷ [])) ys

    go : (holds x (earlier ++ (y ∷ [])) ≡ false → holds x rest ≡ holds x ys) → (b : Bool) → same x y ≡ b →
        holds x (cond (holds y earlier) rest (y ∷ rest)) ≡ holds x (y ∷ ys)
    go below true s =
        let new : holds y earlier ≡ false = rw (same_eq x y s) at e in
        rw new (holds_first x y rest s ∙ sym (holds_first x y ys s))
    go below false s =
        let one_more : holds x (earlier ++ (y ∷ [])) ≡ false =
        holds_front x earlier (y ∷ []) (holds_next x y [] s ∙ holds_none x) ∙ e in
        cond-elim (λ (l : List Bytes). holds x l ≡ holds x rest) (holds y earlier) (λ q. refl)
        (λ q. holds_next x y rest s)
        ∙ below one_more ∙ sym (holds_next x y ys s)

-- the distinct entries of a list are its members
pub holds_distinct : (x : Bytes) (es : List Bytes) → holds x (distinct es) ≡ holds x es
unfolding distinct
holds_distinct x es = holds_after x [] es (holds_none x)

-- so what one list lacks does not depend on repeats in the other
pub without_distinct : (taken es : List Bytes) → without (distinct taken) es ≡ without taken es
unfolding without
without_distinct taken [] = refl
without_distinct taken (e ∷ es) = rw (holds_distinct e taken, without_distinct taken es)

-- ---- sizes
after_short : (earlier es : List Bytes) → length (distinct_after earlier es) ≤ length es
unfolding distinct_after
after_short earlier [] = omega arith
after_short earlier (e ∷ es) =
    let rest = after_short (earlier ++ (e ∷ [])) es in
    cond-elim (λ (l : List Bytes). length l ≤ suc (length es)) (holds e earlier) (λ q. omega arith) (λ q. omega arith)

pub distinct_short : (es : List Bytes) → length (distinct es) ≤ length es
unfolding distinct
distinct_short es = after_short [] es

every_after : {P : Bytes → Type 0} (earlier : List Bytes) {es : List Bytes} → Every P es →
    Every P (distinct_after earlier es)
unfolding distinct_after
every_after earlier none = none
every_after {P} earlier (one {x = e} p ps) =
    let rest = every_after (earlier ++ (e ∷ [])) ps in
    cond-elim (λ (l : List Bytes). Every P l) (holds e earlier) (λ q. rest) (λ q. one p rest)

pub every_distinct : {P : Bytes → Type 0} {es : List Bytes} → Every P es → Every P (distinct es)
unfolding distinct
every_distinct ps = every_after [] ps

-- ---- none twice
-- an earlier entry is not among those after it
none_after : (x : Bytes) (earlier es : List Bytes) → holds x earlier ≡ true → holds x (distinct_after earlier es) ≡ false
unfolding distinct_after
none_after x earlier [] e = holds_none x
none_after x earlier (y ∷ ys) e =
    go (none_after x (earlier ++ (y ∷ [])) ys (holds_append x earlier (y ∷ []) ∙ rw e)) (holds y earlier) refl
  where
    rest : List Bytes
    rest = distinct_after (earlier ++ (y ∷ [])) ys

    differs : holds y earlier ≡ false → (b : Bool) → same x y ≡ b → b ≡ false
    differs q true s = sym (rw (same_eq x y s) at e) ∙ q
    differs q false s = refl

    go : holds x rest ≡ false → (b : Bool) → holds y earlier ≡ b → holds x (cond b rest (y ∷ rest)) ≡ false
    go below true q = below
    go below false q = holds_next x y rest (differs q (same x y) refl) ∙ below

once_after : (earlier es : List Bytes) → none_twice (distinct_after earlier es) ≡ true
unfolding distinct_after none_twice
once_after earlier [] = refl
once_after earlier (e ∷ es) =
    let rest = distinct_after (earlier ++ (e ∷ [])) es in
    let below = once_after (earlier ++ (e ∷ [])) es in
    let absent : holds e rest ≡ false =
    none_after e (earlier ++ (e ∷ [])) es (holds_back e earlier (e ∷ []) (holds_first e e [] (eq_same e e refl))) in
    cond-elim (λ (l : List Bytes). none_twice l ≡ true) (holds e earlier) (λ q. below) (λ q. rw (absent, below))

pub distinct_once : (es : List Bytes) → none_twice (distinct es) ≡ true
unfolding distinct
distinct_once es = once_after [] es

-- a list that has none twice is its own distinct entries
holds_later : (x y : Bytes) (ys : List Bytes) → holds x (y ∷ ys) ≡ false → holds x ys ≡ false
unfolding holds
holds_later x y ys e = go (same x y) e
  where
    go : (b : Bool) → cond b true (holds x ys) ≡ false → holds x ys ≡ false
    go true q = absurd (false≢true (sym q))
    go false q = q

same_after : (earlier es : List Bytes) → ((x : Bytes) → holds x earlier ≡ true → holds x es ≡ false) →
    none_twice es ≡ true → distinct_after earlier es ≡ es
unfolding distinct_after none_twice holds
same_after earlier [] apart e = refl
same_after earlier (y ∷ ys) apart e = go (same_after (earlier ++ (y ∷ [])) ys) (holds y earlier) refl
  where
    both : (not (holds y ys) ≡ true) × (none_twice ys ≡ true)
    both = and_both (not (holds y ys)) (none_twice ys) e

    last : (x : Bytes) (b : Bool) → same x y ≡ b → cond b true false ≡ true → holds x ys ≡ false
    last x true s q = rw (same_eq x y s) (not-true (holds y ys) both.0)
    last x false s q = absurd (false≢true q)

    apart_more : (x : Bytes) → holds x (earlier ++ (y ∷ [])) ≡ true → holds x ys ≡ false
    apart_more x h =
        ⊎_elim (λ q. holds_later x y ys (apart x q)) (λ q. last x (same x y) refl q)
        (or_either (holds x earlier) (holds x (y ∷ [])) (sym (holds_append x earlier (y ∷ [])) ∙ h))

    go : (((x : Bytes) → holds x (earlier ++ (y ∷ [])) ≡ true → holds x ys ≡ false) → none_twice ys ≡ true →
        distinct_after (earlier ++ (y ∷ [])) ys ≡ ys) → (b : Bool) → holds y earlier ≡ b →
        cond b (distinct_after (earlier ++ (y ∷ [])) ys) (y ∷ distinct_after (earlier ++ (y ∷ [])) ys) ≡ y ∷ ys
    go below true q = absurd (false≢true (sym (apart y q) ∙ holds_first y y ys (eq_same y y refl)))
    go below false q = ap (λ (l : List Bytes). y ∷ l) (below apart_more both.1)

pub distinct_same : (es : List Bytes) → none_twice es ≡ true → distinct es ≡ es
unfolding distinct
distinct_same es e = same_after [] es (λ x h. absurd (false≢true (sym (holds_none x) ∙ h))) e
