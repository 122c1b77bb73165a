-- Entries one by one: those of a block, whether a list has one, and the pending ones that a list lacks.
use Rattle.std.specs.Prelude.{ℕ, suc, ◌+◌, ◌*◌, ◌≤◌, ◌<◌, ◌≡◌, refl, Bool, true, false, ◌||◌, cond, List, [], ◌∷◌, ◌++◌, length, get_or, take, drop}
use Rattle.std.proofs.Common.{arith, sym, ap, ◌∙◌, take-append-drop, take_at, take_all}
use Rattle.protocol.specs.Every.{Every}
use Rattle.protocol.specs.Bytes.{Bytes, part, same, holds, without, Sized}
use Rattle.protocol.proofs.Laws.TestsLaws.{or_right}
use Rattle.protocol.specs.Block.{entry_count, entries}
use Rattle.protocol.specs.State.{State, pending}
use Rattle.protocol.specs.View.{View, log_at}
use Rattle.protocol.proofs.Laws.EveryLaws.{every_take}
use Rattle.protocol.proofs.Laws.PiecesLaws.{length_pieces, get_pieces, pieces_next, pieces_done, pieces_sized}
use Rattle.protocol.proofs.Laws.ViewLaws.{log_zero}
use Rattle.protocol.proofs.Laws.PoolLaws.{without_append, entry_stays, entry_leaves, every_without}

-- ---- the entries of a block
pub entries_length : (block : Bytes) → length (entries block) ≡ entry_count block
unfolding entries
entries_length block = length_pieces 16 (entry_count block) (drop 48 block)

-- ---- whether a list has an entry
pub holds_first : (x y : Bytes) (ys : List Bytes) → same x y ≡ true → holds x (y ∷ ys) ≡ true
unfolding holds
holds_first x y ys e = rw e

pub holds_next : (x y : Bytes) (ys : List Bytes) → same x y ≡ false → holds x (y ∷ ys) ≡ holds x ys
unfolding holds
holds_next x y ys e = rw e

pub holds_none : (x : Bytes) → holds x [] ≡ false
unfolding holds
holds_none x = refl

cond_or : (b p q r : Bool) → r ≡ (p || q) → cond b true r ≡ (cond b true p || q)
cond_or true p q r e = refl
cond_or false p q r e = e

pub holds_append : (x : Bytes) (xs ys : List Bytes) → holds x (xs ++ ys) ≡ (holds x xs || holds x ys)
unfolding holds
holds_append x [] ys = refl
holds_append x (y ∷ xs) ys = cond_or (same x y) (holds x xs) (holds x ys) (holds x (xs ++ ys)) (holds_append x xs ys)

or_left : (a b : Bool) → b ≡ false → (a || b) ≡ a
or_left true b e = refl
or_left false b e = e

pub holds_back : (x : Bytes) (xs ys : List Bytes) → holds x ys ≡ true → holds x (xs ++ ys) ≡ true
holds_back x xs ys e = holds_append x xs ys ∙ or_right (holds x xs) e

pub holds_front : (x : Bytes) (xs ys : List Bytes) → holds x ys ≡ false → holds x (xs ++ ys) ≡ holds x xs
holds_front x xs ys e = holds_append x xs ys ∙ or_left (holds x xs) (holds x ys) e

-- ---- pending entries, one by one
module _ (s : State) where
  pub pending_length : length (pending s) ≡ s.pending_count
  unfolding pending
  pending_length = length_pieces 16 s.pending_count s.pool

  pub pending_at : (k : ℕ) → k < s.pending_count → get_or (pending s) k [] ≡ part s.pool (16 * k) 16
  unfolding pending
  pending_at k h = get_pieces 16 s.pending_count s.pool k h

  pub pending_next : (k : ℕ) → k < s.pending_count →
      drop k (pending s) ≡ part s.pool (16 * k) 16 ∷ drop (suc k) (pending s)
  unfolding pending
  pending_next k h = pieces_next 16 s.pending_count s.pool k h

  pub pending_done : (k : ℕ) → s.pending_count ≤ k → drop k (pending s) ≡ []
  unfolding pending
  pending_done k h = pieces_done 16 s.pending_count s.pool k h

  pub pending_all : (k : ℕ) → s.pending_count ≤ k → take k (pending s) ≡ pending s
  pending_all k h = take_all k (pending s) (rw pending_length h)

  -- those of the first `k` places that a list lacks
  pub lacked_sized : (log : List Bytes) (k : ℕ) → length s.pool ≡ 512 → s.pending_count ≤ 32 →
      Every (Sized 16) (without log (take k (pending s)))
  unfolding pending
  lacked_sized log k size few = every_without log
      (every_take k (pieces_sized 16 s.pending_count s.pool (omega arith)))

  -- place `k` is looked at: its entry leaves if the list holds it, and stays if not
  module _ (log : List Bytes) (k : ℕ) (inside : k < s.pending_count) {held : Bool} {entry : Bytes}
      (read : entry ≡ part s.pool (16 * k) 16) (test : held ≡ holds entry log) where
    within : k < length (pending s)
    within = rw pending_length inside

    tested : holds (get_or (pending s) k []) log ≡ held
    tested = ap (λ (e : Bytes). holds e log) (pending_at k inside ∙ sym read) ∙ sym test

    pub place_leaves : held ≡ true → without log (take (k + 1) (pending s)) ≡ without log (take k (pending s))
    place_leaves e = entry_leaves log (pending s) k within (tested ∙ e)

    pub place_stays : held ≡ false → without log (take (k + 1) (pending s)) ≡ without log
        (take k (pending s)) ++ (entry ∷ [])
    place_stays e =
        entry_stays log (pending s) k within (tested ∙ e) ∙
        ap (λ (x : Bytes). without log (take k (pending s)) ++ (x ∷ [])) (pending_at k inside ∙ sym read)

-- ---- those that a block takes are at hand once eight are, or all places are looked at
pub eight_taken : (log es : List Bytes) (k : ℕ) → length (without log (take k es)) ≡ 8 →
    take 8 (without log es) ≡ without log (take k es)
eight_taken log es k size =
    let cut : without log es ≡ without log (take k es) ++ without log (drop k es) =
    ap (without log) (sym (take-append-drop k es)) ∙ without_append log (take k es) (drop k es) in
    ap (take 8) cut ∙ take_at (without log (take k es)) (without log (drop k es)) 8 size

pub few_taken : (log es : List Bytes) (k : ℕ) → length (without log (take k es)) ≤ 8 → take k es ≡ es →
    take 8 (without log es) ≡ without log (take k es)
few_taken log es k few all =
    ap (λ (l : List Bytes). take 8 (without log l)) (sym all) ∙ take_all 8 (without log (take k es)) few

-- ---- the entries of a chain
pub log_start : (v : View) (h : ℕ) → h ≤ 0 → log_at v h ≡ []
log_start v h l = let e : h ≡ 0 = omega arith in rw e (log_zero v)
