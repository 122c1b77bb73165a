-- Entries that an iterator goes through: the pieces of a byte string, as chunks or by their places.
use Rattle.std.proofs.Common.{refl, arith, sym, ap, subst, ◌∙◌, drop-drop, length-append, length-take, take_at}
use Rattle.std.proofs.Common.{drop_at, ◌≡◌, ℕ, zero, suc, ◌+◌, ◌-◌, ◌*◌, ◌/◌, ◌≤◌, Bool, true, false, not, ◌||◌}
use Rattle.std.proofs.Common.{cond, List, [], ◌∷◌, ◌++◌, length, take, drop}
use Rattle.std.specs.List.{list_any, range_with_len, filter}
use Rattle.std.specs.Slice.Iter.{chunks_exact_steps, chunks_exact_rest, chunks_exact_size}
use Rattle.std.proofs.lemmas.Iterator.{YieldsList}
use Rattle.std.proofs.lemmas.Iterator.Splits.{YieldsList-from_shown_while}
use Rattle.std.proofs.lemmas.List.{take-take, drop-take}
use Rattle.protocol.proofs.Laws.PiecesLaws.{length_pieces}
use Rattle.std.specs.declared.slice.ChunksExact.{ChunksExact}
use Rattle.protocol.specs.Bytes.{Bytes, part, pieces, same, holds, without}
use Rattle.protocol.specs.State.{State, pending}
use Rattle.protocol.specs.Sound.{view, log}
use Rattle.protocol.specs.View.{log_at}
use Rattle.protocol.specs.Submit.{still_pending}
use Rattle.protocol.proofs.Laws.EntriesLaws.{pending_length}
use Rattle.protocol.proofs.Laws.LogLaws.{log_lacks}
use Rattle.protocol.proofs.Laws.PoolLaws.{without_short}

-- ---- whether one of them is the entry
either : (b r s : Bool) → r ≡ s → cond b true r ≡ (b || s)
either true r s e = refl
either false r s e = e

pub holds_any : (x : Bytes) (es : List Bytes) → list_any (same x) es ≡ holds x es
unfolding holds
holds_any x [] = refl
holds_any x (y ∷ ys) = sym (either (same x y) (holds x ys) (list_any (same x) ys) (sym (holds_any x ys)))

-- ---- by their places
pub any_place : (x pool : Bytes) (a n : ℕ) →
    list_any (λ k. same x (part pool (16 * k) 16)) (range_with_len a n) ≡ holds x (pieces 16 n (drop (16 * a) pool))
unfolding holds pieces part
any_place x pool a zero = refl
any_place x pool a (suc n) =
    let next : 16 * (a + 1) ≡ 16 * a + 16 = omega arith in
    let rest = any_place x pool (a + 1) n in
    sym (either (same x (take 16 (drop (16 * a) pool))) (holds x (pieces 16 n (drop 16 (drop (16 * a) pool)))) _
    (rw (drop-drop, ← next) (sym rest)))

-- ---- as chunks
pieces_cut : (n m : ℕ) (bytes : Bytes) → 16 * n ≤ m → pieces 16 n (take m bytes) ≡ pieces 16 n bytes
unfolding pieces
pieces_cut zero m bytes h = refl
pieces_cut (suc n) m bytes h =
    let some : 16 ≤ m = omega arith in
    let all : m ≡ 16 + (m - 16) = omega arith in
    let first : take 16 (take m bytes) ≡ take 16 bytes = take-take 16 m bytes some in
    let rest : drop 16 (take m bytes) ≡ take (m - 16) (drop 16 bytes) =
    ap (λ (k : ℕ). drop 16 (take k bytes)) all ∙ drop-take 16 (m - 16) bytes in
    rw (first, rest) (ap (λ (l : List Bytes). take 16 bytes ∷ l) (pieces_cut n (m - 16) (drop 16 bytes) (omega arith)))

-- what is left of chunks of 16 bytes
left : ChunksExact ℕ → List Bytes
left s = pieces 16 (length (chunks_exact_rest s) / 16) (chunks_exact_rest s)

first_piece : (x rest : Bytes) (n m : ℕ) → length x ≡ 16 → n ≡ suc m →
    pieces 16 n (x ++ rest) ≡ x ∷ pieces 16 m rest
unfolding pieces
first_piece x rest n m size e = rw (e, take_at x rest 16 size, drop_at x rest 16 size)

chunks_left : (s : ChunksExact ℕ) → chunks_exact_size s ≡ 16 → YieldsList chunks_exact_steps (λ y. y.now) s (left s)
unfolding left
chunks_left s e = YieldsList-from_shown_while chunks_exact_steps (λ y. y.now) left (λ t. chunks_exact_size t ≡ 16)
    (λ a b size step. let short = step.1.0 in rw length_pieces (omega arith))
    (λ a x b size step.
    let cut = step.1.0 in
    let long : length x.now ≡ 16 = step.1.1 ∙ size in
    let all = ap length cut ∙ length-append x.now (chunks_exact_rest b) in
    let count : length (chunks_exact_rest a) / 16 ≡ suc (length (chunks_exact_rest b) / 16) = omega arith in (
      step.0 ∙ size,
      ap (pieces 16 (length (chunks_exact_rest a) / 16)) cut
          ∙ first_piece x.now (chunks_exact_rest b) _ _ long count,
    ))
    s e

-- chunks of the bytes that `count` pieces take up
pub chunks_yield : (s : ChunksExact ℕ) (bytes : Bytes) (count size : ℕ) → chunks_exact_size s ≡ 16 →
    chunks_exact_rest s ≡ take size bytes → size ≡ 16 * count → size ≤ length bytes →
    YieldsList chunks_exact_steps (λ y. y.now) s (pieces 16 count bytes)
unfolding left
chunks_yield s bytes count size e rest all some =
    let long : length (chunks_exact_rest s) ≡ size = ap length rest ∙ rw length-take (omega arith) in
    let whole : length (chunks_exact_rest s) / 16 ≡ count = omega arith in
    subst (λ (l : List Bytes). YieldsList chunks_exact_steps (λ y. y.now) s l)
    (ap (λ (n : ℕ). pieces 16 n (chunks_exact_rest s)) whole ∙ ap (pieces 16 count) rest
    ∙ pieces_cut count size bytes (omega arith))
    (chunks_left s e)

-- ---- the pending entries of a state by their places
pub any_pending : (s : State) (x : Bytes) (count : ℕ) → count ≡ s.pending_count →
    list_any (λ k. same x (part s.pool (16 * k) 16)) (range_with_len 0 count) ≡ holds x (pending s)
unfolding pending
any_pending s x count e = any_place x s.pool 0 count ∙ ap (λ (n : ℕ). holds x (pieces 16 n s.pool)) e

-- ---- those that a list lacks, counted
kept : (b : Bool) (k : ℕ) (ks : List ℕ) (x : Bytes) (xs : List Bytes) → length ks ≡ length xs →
    length (cond (not b) (k ∷ ks) ks) ≡ length (cond b xs (x ∷ xs))
kept true k ks x xs e = e
kept false k ks x xs e = ap suc e

places_lacked : (log : List Bytes) (pool : Bytes) (a n : ℕ) →
    length (filter (λ k. not (holds (part pool (16 * k) 16) log)) (range_with_len a n)) ≡
    length (without log (pieces 16 n (drop (16 * a) pool)))
unfolding pieces without part
places_lacked log pool a zero = refl
places_lacked log pool a (suc n) =
    let next : 16 * (a + 1) ≡ 16 * a + 16 = omega arith in
    let rest = places_lacked log pool (a + 1) n in
    kept (holds (take 16 (drop (16 * a) pool)) log) a _ _ _ (rest ∙ rw (next, ← drop-drop))

pub stays_counted : (s : State) (finalized count : ℕ) → finalized ≡ s.finalized → count ≡ s.pending_count →
    length (filter (λ k. not (holds (part s.pool (16 * k) 16) (log_at (view s) finalized))) (range_with_len 0 count)) ≡
    length (still_pending s)
unfolding pending still_pending
stays_counted s finalized count p q =
    places_lacked (log_at (view s) finalized) s.pool 0 count ∙ ap length (rw (p, q) (sym (log_lacks s (pending s))))

pub stay_few : (s : State) → length (still_pending s) ≤ s.pending_count
unfolding still_pending
stay_few s = omega (arith, without_short (log s) (pending s), pending_length s)
