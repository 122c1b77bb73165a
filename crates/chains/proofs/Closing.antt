-- The pool while it is closed up: the book says the same chain, and the entries of the places looked at that stay are
-- in front.
use Rattle.std.proofs.Common.{ℕ, ◌*◌, ◌≤◌, ◌<◌, arith, ◌≡◌, sym, ap, subst, ◌∙◌, true, List, [], ◌∷◌, ◌++◌, length}
use Rattle.std.proofs.Common.{take, length-take}
use Rattle.protocol.specs.Every.{Every}
use Rattle.protocol.specs.Bytes.{Bytes, part, pieces, holds, without, put, Sized as SizedBytes}
use Rattle.protocol.specs.Block.{block_well_formed}
use Rattle.protocol.specs.State.{State, decode, encode, last, pending, with_pool, book_heights, maximum_pending}
use Rattle.protocol.specs.Sound.{view, log}
use Rattle.protocol.specs.View.{View, linked, log_at}
use Rattle.protocol.specs.Submit.{with_pending, still_pending}
use Rattle.protocol.proofs.Laws.StateLaws.{decode_encode}
use Rattle.protocol.proofs.Laws.PoolLaws.{moved, moved_view, moved_last, moved_pending, moved_pieces, moved_shaped}
use Rattle.protocol.proofs.Laws.PoolLaws.{moved_entry, moved_more, without_short}
use Rattle.protocol.proofs.Laws.EntriesLaws.{lacked_sized, pending_all}
use Rattle.protocol.proofs.Laws.LogLaws.{log_holds}
use Rattle.book_fields.specs.Book.{Ready}
use Rattle.book_fields.specs.Laws.BookLaws.{ready_state, ready_moved}
use Rattle.sha256.specs.Digest.{sha256}
use Rattle.chains.specs.Walkable.{Walkable}

-- the entries of the first `k` places that the log does not hold
abbrev pub staying : State → ℕ → List Bytes
staying s k = without (log s) (take k (pending s))

pub staying_few : (s : State) (k : ℕ) → length (staying s k) ≤ k
staying_few s k =
    let short = without_short (log s) (take k (pending s)) in
    let size = length-take k (pending s) in
    omega arith

pub staying_all : (s : State) (k : ℕ) → s.pending_count ≤ k → staying s k ≡ still_pending s
unfolding still_pending
staying_all s k h = ap (without (log s)) (pending_all s k h)

module _ (book : Bytes) (r : Ready book) (few : (decode book).pending_count ≤ maximum_pending) (k : ℕ)
    (within : k ≤ maximum_pending) where
  abbrev es : List Bytes
  es = staying (decode book) k

  pool_size_lem : length (decode book).pool ≡ 512
  pool_size_lem = (ready_state book r).pool_size_lem

  sized : Every (SizedBytes 16) es
  sized = lacked_sized (decode book) (log (decode book)) k pool_size_lem few

  fit : length es ≤ maximum_pending
  fit = let short = staying_few (decode book) k in omega arith

  module _ (after : Bytes) (closed : after ≡ encode (moved (decode book) es)) where
    pub closed_ready : Ready after
    closed_ready = subst Ready (sym closed) (ready_moved book r es sized fit)

    pub closed_state : decode after ≡ moved (decode book) es
    closed_state = ap decode closed ∙ decode_encode (moved (decode book) es)
        (moved_shaped (decode book) pool_size_lem es sized fit (ready_state book r))

    pub closed_view : view (decode after) ≡ view (decode book)
    closed_view = ap view closed_state ∙ moved_view (decode book) es

    closed_heights : book_heights after ≡ book_heights book
    closed_heights = sym closed_ready.readable.sized.count ∙ ap last closed_state ∙ moved_last (decode book) es
        ∙ r.readable.sized.count

    pub closed_length : length after ≡ length book
    closed_length =
        let now = closed_ready.readable.sized.size in
        let then = r.readable.sized.size in
        let same = closed_heights in
        omega arith

    pub closed_walk : {h : ℕ} → Walkable book h → Walkable after h
    closed_walk {h} w =
        let same = closed_heights in
        let high = w.high in
        record {
          shown = closed_ready.readable;
          high = omega arith;
          is_linked_lem = subst (λ (v : View). linked sha256 v h ≡ true) (sym closed_view) w.is_linked_lem;
          formed = subst (λ (v : View). (i : ℕ) → 1 ≤ i → v.has_block i ≡ true → block_well_formed i (v.block i) ≡ true)
              (sym closed_view) w.formed;
        }

    pub closed_log : (x : Bytes) (finalized : ℕ) → finalized ≡ (decode book).finalized →
        holds x (log_at (view (decode after)) finalized) ≡ holds x (log (decode book))
    closed_log x finalized e = rw (closed_view, e) (sym (log_holds (decode book) x))

    -- place `k` is still as it was
    pub closed_place : part (decode after).pool (16 * k) 16 ≡ part (decode book).pool (16 * k) 16
    closed_place =
        ap (λ (x : State). part x.pool (16 * k) 16) closed_state
        ∙ moved_entry (decode book) pool_size_lem es sized k (staying_few (decode book) k)

    pub closed_more : (left : ℕ) {next : Bytes} {more : List Bytes} → left ≡ length es → k < maximum_pending →
        next ≡ encode (with_pool (decode after) (decode after).pending_count
        (put (decode after).pool (16 * left) (part (decode after).pool (16 * k) 16))) →
        more ≡ es ++ (part (decode book).pool (16 * k) 16 ∷ []) → next ≡ encode (moved (decode book) more)
    closed_more left count inside e m =
        e ∙
        ap (λ (x : State). encode (with_pool x x.pending_count
        (put x.pool (16 * left) (part x.pool (16 * k) 16)))) closed_state ∙
        ap (λ (n : ℕ). encode (with_pool (moved (decode book) es) (moved (decode book) es).pending_count
        (put (moved (decode book) es).pool (16 * n) (part (moved (decode book) es).pool (16 * k) 16)))) count ∙
        ap encode (moved_more (decode book) pool_size_lem es sized k (staying_few (decode book) k) inside) ∙
        ap (λ (l : List Bytes). encode (moved (decode book) l)) (sym m)

    pub closed_end : (left : ℕ) (entry : Bytes) {end : Bytes} {all : List Bytes} → left ≡ length es → es ≡ all →
        end ≡ encode (with_pending (decode after) (pieces 16 left (decode after).pool ++ (entry ∷ []))) →
        end ≡ encode (with_pending (decode book) (all ++ (entry ∷ [])))
    closed_end left entry count a e =
        e ∙
        ap (λ (x : State). encode (with_pending x (pieces 16 left x.pool ++ (entry ∷ [])))) closed_state ∙
        ap (λ (n : ℕ). encode (with_pending (moved (decode book) es)
        (pieces 16 n (moved (decode book) es).pool ++ (entry ∷ [])))) count ∙
        ap (λ (l : List Bytes). encode (with_pending (moved (decode book) es) (l ++ (entry ∷ []))))
        (moved_pieces (decode book) pool_size_lem es sized) ∙
        ap encode (moved_pending (decode book) es (es ++ (entry ∷ []))) ∙
        ap (λ (l : List Bytes). encode (with_pending (decode book) (l ++ (entry ∷ [])))) a
