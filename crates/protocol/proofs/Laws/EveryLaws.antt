-- A property of every element of a list: how it is kept, and where it is read by a place.
use Rattle.protocol.specs.Every.{Every, none, one}
use Rattle.std.specs.Prelude.{ℕ, zero, suc, ◌<◌, List, [], ◌∷◌, ◌++◌, map, length, get_or, set, take}
use Rattle.std.proofs.Common.{arith}

pub every_map : {A B : Type 0} {P : A → Type 0} {Q : B → Type 0} (f : A → B) → ((x : A) → P x → Q (f x)) →
    {l : List A} → Every P l → Every Q (map f l)
every_map f h none = none
every_map f h (one {x = x} p ps) = one (h x p) (every_map f h ps)

pub every_set : {A : Type 0} {P : A → Type 0} {l : List A} (i : ℕ) (x : A) → P x → Every P l → Every P (set l i x)
every_set i x p none = none
every_set zero x p (one q qs) = one p qs
every_set (suc i) x p (one q qs) = one q (every_set i x p qs)

pub every_append : {A : Type 0} {P : A → Type 0} {xs ys : List A} → Every P xs → Every P ys → Every P (xs ++ ys)
every_append none qs = qs
every_append (one p ps) qs = one p (every_append ps qs)

pub every_take : {A : Type 0} {P : A → Type 0} {l : List A} (k : ℕ) → Every P l → Every P (take k l)
every_take zero ps = none
every_take (suc k) none = none
every_take (suc k) (one p ps) = one p (every_take k ps)

pub every_at : {A : Type 0} {P : A → Type 0} {l : List A} (i : ℕ) (d : A) → Every P l → i < length l → P (get_or l i d)
every_at i d none h = absurd (omega arith)
every_at zero d (one p ps) h = p
every_at (suc i) d (one p ps) h = every_at i d ps (omega arith)

pub every_from : {A : Type 0} (P : A → Type 0) (d : A) (l : List A) → ((i : ℕ) → i < length l → P (get_or l i d)) →
    Every P l
every_from P d [] each = none
every_from P d (x ∷ xs) each = one (each 0 (omega arith)) (every_from P d xs (λ i h. each (suc i) (omega arith)))
