-- The pool while its entries are closed up in place: those that stay move to the front one by one, and then a new one
-- follows them.
use Rattle.std.specs.Prelude.{ℕ, suc, ◌+◌, ◌-◌, ◌*◌, ◌≤◌, ◌<◌, ◌≡◌, Bool, true, false, cond, List, [], ◌∷◌, ◌++◌, get_or, set}
use native.Mathlib.Omega.{arith}
use Rattle.std.proofs.Common.{add-one, sym, ◌∙◌, append_assoc, append-nil, length-append, length-take, length-drop, drop_of_length-le, take-suc}
use Rattle.std.proofs.Math.Path.{refl, ap}
use Rattle.std.proofs.Math.ListN.{length, take, drop}
use Rattle.std.proofs.Math.Seq.{drop-drop, drop-append-add}
use Rattle.protocol.specs.SoundState.{Shaped}
use Rattle.protocol.specs.Every.{Every, none, one}
use Rattle.protocol.specs.Bytes.{Bytes, part, zeros, join, pieces, holds, without, put, Sized}
use Rattle.protocol.specs.State.{State, at, encode, decode, last, with_pool}
use Rattle.protocol.specs.Sound.{view}
use Rattle.protocol.specs.Submit.{with_pending}
use Rattle.protocol.proofs.Laws.TestsLaws.{cond-elim}
use Rattle.protocol.proofs.Laws.BytesLaws.{put_at, length_part, length_put, length_zeros}
use Rattle.protocol.proofs.Laws.PiecesLaws.{pieces_join, join_pieces, length_join, length_pieces, join_more}
use Rattle.protocol.proofs.Laws.CodecLaws.{Exact, decode_shaped}
use Rattle.protocol.proofs.Laws.WriteLaws.{write_pool, write_pending_count}
use Rattle.protocol.proofs.Laws.ChangeLaws.{with_pending_lem, shaped_pool}

-- bytes put at the end of a front part
put_at_front : (front rest new : Bytes) (k : ℕ) → length front ≡ k →
    put (front ++ rest) k new ≡ (front ++ new) ++ drop (length new) rest
put_at_front front rest new k e = put_at front rest new k e ∙ sym (append_assoc front new (drop (length new) rest))

-- ---- a new entry after the first `count` places, and zeros after it
put_cut : (bytes : Bytes) (k : ℕ) (new : Bytes) → put bytes k new ≡ (take k bytes ++ new) ++ drop (k + length new) bytes
unfolding put
put_cut bytes k new = sym (append_assoc (take k bytes) new (drop (k + length new) bytes))

finished : (pool : Bytes) (count : ℕ) (entry : Bytes) → length pool ≡ 512 → count < 32 → length entry ≡ 16 →
    put (put pool (16 * count) entry) (16 * (count + 1))
    (zeros (512 - 16 * (count + 1))) ≡ (take (16 * count) pool ++ entry) ++ zeros (512 - 16 * (count + 1))
finished pool count entry size few e =
    let k : ℕ = 16 * (count + 1) in
    let front : length (take (16 * count) pool ++ entry) ≡ k = simp (length-append, length-take) (omega arith) in
    let rest : Bytes = drop (16 * count + length entry) pool in
    let past : length rest ≤ length (zeros (512 - k)) =
    rw (length_zeros, length-drop (16 * count + length entry) pool) (omega arith) in
    ap (λ (b : Bytes). put b k (zeros (512 - k))) (put_cut pool (16 * count) entry) ∙
    put_at_front (take (16 * count) pool ++ entry) rest (zeros (512 - k)) k front ∙
    rw (drop_of_length-le rest {i = length (zeros (512 - k))} past)
    (append-nil ((take (16 * count) pool ++ entry) ++ zeros (512 - k)))

-- the pool of a state with these pending entries has its size
pub pending_pool_size : (es : List Bytes) → Every (Sized 16) es → length es ≤ 32 →
    length (join es ++ zeros (512 - 16 * length es)) ≡ 512
pending_pool_size es sized few = simp (length-append, length_join 16 es sized, length_zeros) (omega arith)

with_entry : (s : State) (count : ℕ) (entry : Bytes) →
    with_pending s (pieces 16 count s.pool ++ (entry ∷ [])) ≡
    with_pool s (count + 1) ((take (16 * count) s.pool ++ entry) ++ zeros (512 - 16 * (count + 1)))
with_entry s count entry =
    let size : length (pieces 16 count s.pool ++ (entry ∷ [])) ≡ count + 1 = simp length-append (rw length_pieces) in
    with_pending_lem s (pieces 16 count s.pool ++ (entry ∷ [])) ∙
    rw (size, join_more (pieces 16 count s.pool) entry, join_pieces 16 count s.pool)

pub write_finish : (s : State) → length s.pool ≡ 512 → (count : ℕ) (entry : Bytes) → count < 32 → length entry ≡ 16 →
    set (put (put (encode s) (64 + 16 * count) entry) (64 + 16 * (count + 1)) (zeros (512 - 16 * (count + 1)))) 6
    (count + 1) ≡
    encode (with_pending s (pieces 16 count s.pool ++ (entry ∷ [])))
unfolding with_pool
write_finish s size count entry few e =
    let pool : Bytes = put s.pool (16 * count) entry in
    let first : State = with_pool s s.pending_count pool in
    let pool_size_lem : length pool ≡ 512 = length_put s.pool (16 * count) entry (omega arith) ∙ size in
    let new : Bytes = zeros (512 - 16 * (count + 1)) in
    let fits : 16 * (count + 1) + length new ≤ 512 = rw length_zeros (omega arith) in
    rw (write_pool s size (16 * count) entry (omega arith), write_pool first pool_size_lem (16 * (count + 1)) new fits)
    (write_pending_count (with_pool first s.pending_count (put pool (16 * (count + 1)) new)) (count + 1) ∙
    ap (λ (p : Bytes). encode (with_pool s (count + 1) p)) (finished s.pool count entry size few e)
    ∙ ap encode (sym (with_entry s count entry)))

pub book_finish : (book : Bytes) → encode (decode book) ≡ book → Exact book → (count : ℕ) (entry : Bytes) → count < 32 →
    length entry ≡ 16 →
    set (put (put book (64 + 16 * count) entry) (64 + 16 * (count + 1)) (zeros (512 - 16 * (count + 1)))) 6
    (count + 1) ≡
    encode (with_pending (decode book) (pieces 16 count (decode book).pool ++ (entry ∷ [])))
book_finish book whole exact count entry few e =
    rw whole at (write_finish (decode book) (decode_shaped book exact).pool_size_lem count entry few e)

-- ---- the pool while its entries move: those that stay in front, and the rest of the pool as it was
unfoldable pub moved : State → List Bytes → State
moved s es = with_pool s s.pending_count (join es ++ drop (16 * length es) s.pool)

pub moved_none : (s : State) → moved s [] ≡ s
unfolding moved with_pool join
moved_none s = refl

-- nothing else changes
module _ (s : State) (es : List Bytes) where
  pub moved_view : view (moved s es) ≡ view s
  unfolding moved with_pool view at
  moved_view = refl

  pub moved_last : last (moved s es) ≡ last s
  unfolding moved with_pool last
  moved_last = refl

  pub moved_pending : (entries : List Bytes) → with_pending (moved s es) entries ≡ with_pending s entries
  unfolding moved with_pool with_pending
  moved_pending entries = refl

-- one more entry in front, and 16 bytes fewer of the rest
front_more : (pool : Bytes) (es : List Bytes) (entry : Bytes) → length entry ≡ 16 →
    (join es ++ entry) ++ drop (length entry) (drop (16 * length es) pool) ≡ join (es ++ (entry ∷ [])) ++ drop
    (16 * length (es ++ (entry ∷ []))) pool
front_more pool es entry e =
    let more : 16 * length es + 16 ≡ 16 * (length es + 1) = omega arith in
    rw (e, drop-drop 16 (16 * length es) pool, more, length-append es (entry ∷ []), join_more es entry)

module _ (s : State) (size : length s.pool ≡ 512) (es : List Bytes) (sized : Every (Sized 16) es) where
  joined : length (join es) ≡ 16 * length es
  joined = length_join 16 es sized

  -- the entries that stay are the first places
  pub moved_pieces : pieces 16 (length es) (moved s es).pool ≡ es
  unfolding moved with_pool
  moved_pieces = pieces_join 16 es (drop (16 * length es) s.pool) sized

  pub moved_pool_size : length es ≤ 32 → length (moved s es).pool ≡ 512
  unfolding moved with_pool
  moved_pool_size few = simp (length-append, length-drop) (omega (arith, joined))

  pub moved_shaped : length es ≤ 32 → Shaped s → Shaped (moved s es)
  unfolding moved
  moved_shaped few shaped = shaped_pool s s.pending_count (join es ++ drop (16 * length es) s.pool)
      (unfold with_pool in moved_pool_size few) shaped

  -- a place that is not before those that stay holds what it held
  pub moved_entry : (k : ℕ) → length es ≤ k → part (moved s es).pool (16 * k) 16 ≡ part s.pool (16 * k) 16
  unfolding moved with_pool part
  moved_entry k low =
      let e : 16 * k ≡ length (join es) + (16 * k - 16 * length es) = omega (arith, joined) in
      let f : 16 * length es + (16 * k - 16 * length es) ≡ 16 * k = omega arith in
      ap (λ (j : ℕ). take 16 (drop j (join es ++ drop (16 * length es) s.pool))) e ∙
      rw (drop-append-add (join es) (drop (16 * length es) s.pool) (16 * k - 16 * length es), drop-drop, f)

  -- one more that stays
  pub moved_more : (k : ℕ) → length es ≤ k → k < 32 →
      with_pool (moved s es) (moved s es).pending_count
      (put (moved s es).pool (16 * length es) (part (moved s es).pool (16 * k) 16)) ≡
      moved s (es ++ (part s.pool (16 * k) 16 ∷ []))
  unfolding moved with_pool
  moved_more k low high =
      let entry : Bytes = part s.pool (16 * k) 16 in
      ap (λ (p : Bytes). with_pool s s.pending_count p)
      (ap (λ (b : Bytes). put (join es ++ drop (16 * length es) s.pool) (16 * length es) b) (moved_entry k low) ∙
      put_at_front (join es) (drop (16 * length es) s.pool) entry (16 * length es) joined ∙
      front_more s.pool es entry (length_part s.pool (16 * k) 16 (omega arith)))

-- ---- which entries stay, one by one
pub cond_append : (b : Bool) (e : Bytes) (xs others : List Bytes) →
    cond b (xs ++ others) (e ∷ (xs ++ others)) ≡ cond b xs (e ∷ xs) ++ others
cond_append true e xs others = refl
cond_append false e xs others = refl

pub without_append : (taken es others : List Bytes) →
    without taken (es ++ others) ≡ without taken es ++ without taken others
unfolding without
without_append taken [] others = refl
without_append taken (e ∷ es) others = rw (without_append taken es others)
    (cond_append (holds e taken) e (without taken es) (without taken others))

without_one : (taken : List Bytes) (entry : Bytes) →
    without taken (entry ∷ []) ≡ cond (holds entry taken) [] (entry ∷ [])
unfolding without
without_one taken entry = refl

pub without_short : (taken es : List Bytes) → length (without taken es) ≤ length es
unfolding without
without_short taken [] = omega arith
without_short taken (e ∷ es) =
    let rest = without_short taken es in
    cond-elim (λ (l : List Bytes). length l ≤ suc (length es)) (holds e taken) (λ p. omega arith) (λ p. omega arith)

pub every_without : {P : Bytes → Type 0} (taken : List Bytes) {es : List Bytes} → Every P es →
    Every P (without taken es)
unfolding without
every_without taken none = none
every_without {P} taken (one {x = e} {xs = es} p ps) =
    cond-elim (λ (l : List Bytes). Every P l) (holds e taken) (λ q. every_without taken ps)
    (λ q. one p (every_without taken ps))

module _ (taken es : List Bytes) (k : ℕ) (inside : k < length es) where
  pub entry_stays : holds (get_or es k []) taken ≡ false →
      without taken (take (k + 1) es) ≡ without taken (take k es) ++ (get_or es k [] ∷ [])
  entry_stays e = rw (
    add-one k,
    take-suc es k [] inside,
    without_append taken (take k es) (get_or es k [] ∷ []),
    without_one taken (get_or es k []),
    e,
  )

  pub entry_leaves : holds (get_or es k []) taken ≡ true → without taken (take (k + 1) es) ≡ without taken (take k es)
  entry_leaves e =
      rw (
        add-one k,
        take-suc es k [] inside,
        without_append taken (take k es) (get_or es k [] ∷ []),
        without_one taken (get_or es k []),
        e,
      )
      (append-nil (without taken (take k es)))
