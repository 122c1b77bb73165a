-- Equal pieces of a byte string: cut and joined, their lengths, and one piece by its place.
use Rattle.std.specs.Prelude.{ℕ, zero, suc, ◌+◌, ◌*◌, ◌≤◌, ◌<◌, ◌≡◌, refl, List, [], ◌∷◌, ◌++◌, map, length, get_or, take, drop, set}
use Rattle.std.proofs.Common.{arith, add_comm, mul-suc, mul-zero, le_of_suc-le-suc, not-suc-le-zero, sym, ap, ◌∙◌, append_assoc, append-nil, length-append, length-take, length-drop, drop_of_length-le, take_at, take-add, drop_at, drop-cons, drop-drop}
use Rattle.protocol.specs.Every.{Every, none, one}
use Rattle.protocol.specs.Bytes.{Bytes, part, join, pieces, Sized}

-- ---- byte strings joined
pub join_append : (xs ys : List Bytes) → join (xs ++ ys) ≡ join xs ++ join ys
unfolding join
join_append [] ys = refl
join_append (x ∷ xs) ys = rw (join_append xs ys, append_assoc)

pub join_more : (xs : List Bytes) (x : Bytes) → join (xs ++ (x ∷ [])) ≡ join xs ++ x
unfolding join
join_more xs x = join_append xs (x ∷ []) ∙ rw (append-nil x)

pub length_join : (k : ℕ) (xs : List Bytes) → Every (Sized k) xs → length (join xs) ≡ k * length xs
unfolding join
length_join k [] e = omega arith
length_join k (x ∷ xs) (one h hs) = let r = length_join k xs hs in rw (length-append, h, r, mul-suc, add_comm)

-- another element in the place of one
pub cut_set : {A : Type 0} (f : A → Bytes) (xs : List A) (i : ℕ) (y : A) → i < length xs →
    join (map f (set xs i y)) ≡ join (map f (take i xs)) ++ (f y ++ join (map f (drop (suc i) xs)))
unfolding join
cut_set f [] i y h = absurd (not-suc-le-zero h)
cut_set f (x ∷ xs) zero y h = refl
cut_set f (x ∷ xs) (suc i) y h = rw append_assoc (ap (λ (l : Bytes). f x ++ l) (cut_set f xs i y (le_of_suc-le-suc h)))

-- ---- byte strings cut
pub length_pieces : (size count : ℕ) (bytes : Bytes) → length (pieces size count bytes) ≡ count
unfolding pieces
length_pieces size zero bytes = refl
length_pieces size (suc count) bytes = ap suc (length_pieces size count (drop size bytes))

pub pieces_sized : (size count : ℕ) (bytes : Bytes) → size * count ≤ length bytes →
    Every (Sized size) (pieces size count bytes)
unfolding pieces
pieces_sized size zero bytes h = none
pieces_sized size (suc count) bytes h =
    let sum = mul-suc size count in
    let first : length (take size bytes) ≡ size = simp length-take (omega arith) in
    one first (pieces_sized size count (drop size bytes) (simp length-drop (omega arith)))

pub get_pieces : (size count : ℕ) (bytes : Bytes) (i : ℕ) → i < count →
    get_or (pieces size count bytes) i [] ≡ part bytes (size * i) size
unfolding pieces part
get_pieces size zero bytes i h = absurd (not-suc-le-zero h)
get_pieces size (suc count) bytes zero h = rw mul-zero
get_pieces size (suc count) bytes (suc i) h =
    let e : size + size * i ≡ size * suc i = omega arith in
    get_pieces size count (drop size bytes) i (le_of_suc-le-suc h) ∙ rw (drop-drop, e)

-- from piece `k` on
pub pieces_next : (size count : ℕ) (bytes : Bytes) (k : ℕ) → k < count →
    drop k (pieces size count bytes) ≡ part bytes (size * k) size ∷ drop (suc k) (pieces size count bytes)
pieces_next size count bytes k h =
    drop-cons (pieces size count bytes) k [] (rw length_pieces h) ∙ rw (get_pieces size count bytes k h)

pub pieces_done : (size count : ℕ) (bytes : Bytes) (k : ℕ) → count ≤ k → drop k (pieces size count bytes) ≡ []
pieces_done size count bytes k h = drop_of_length-le (pieces size count bytes) {i = k} (rw length_pieces h)

-- one piece more, at the end
pub pieces_more : (size count : ℕ) (bytes : Bytes) →
    pieces size (suc count) bytes ≡ pieces size count bytes ++ (part bytes (size * count) size ∷ [])
unfolding pieces part
pieces_more size zero bytes = rw mul-zero
pieces_more size (suc count) bytes =
    let e : size + size * count ≡ size * suc count = omega arith in
    ap (λ (l : List Bytes). take size bytes ∷ l) (pieces_more size count (drop size bytes)) ∙ rw (drop-drop, e)

-- ---- cut and joined
-- pieces of a joined list
pub pieces_join : (k : ℕ) (xs : List Bytes) (rest : Bytes) → Every (Sized k) xs →
    pieces k (length xs) (join xs ++ rest) ≡ xs
unfolding pieces join
pieces_join k [] rest e = refl
pieces_join k (x ∷ xs) rest (one h hs) =
    rw (append_assoc, take_at x (join xs ++ rest) k h, drop_at x (join xs ++ rest) k h, pieces_join k xs rest hs)

-- pieces joined again
pub join_pieces : (size count : ℕ) (bytes : Bytes) → join (pieces size count bytes) ≡ take (size * count) bytes
unfolding join pieces
join_pieces size zero bytes = rw mul-zero
join_pieces size (suc count) bytes =
    let e : size * suc count ≡ size + size * count = omega arith in
    rw (e, join_pieces size count (drop size bytes)) (sym (take-add size (size * count) bytes))
