-- The entries of a chain place by place: what stands before a place of its last block, and what before the next one.
use Rattle.std.proofs.Common.{ℕ, ◌+◌, ◌-◌, ◌*◌, ◌≤◌, ◌<◌, arith, add-one, ◌≡◌, refl, sym, ap, subst, ◌∙◌, Bool, true}
use Rattle.std.proofs.Common.{false, List, [], ◌∷◌, ◌++◌, append_assoc, append-nil, length, take, drop}
use Rattle.std.proofs.Common.{length-append, length-drop, drop-drop, leb}
use Rattle.protocol.specs.Every.{Every}
use Rattle.protocol.specs.Bytes.{Bytes, part, pieces, join, holds, Sized}
use Rattle.protocol.specs.Block.{parent_height, entry_count}
use Rattle.protocol.specs.View.{View, log_at, log_of}
use Rattle.protocol.specs.Distinct.{distinct_after, distinct}
use Rattle.protocol.specs.State.{maximum_entries}
use Rattle.protocol.proofs.Laws.EveryLaws.{every_append}
use Rattle.protocol.proofs.Laws.ChainLaws.{log_sized}
use Rattle.protocol.proofs.Laws.DistinctLaws.{distinct_short}
use Rattle.protocol.proofs.Laws.PiecesLaws.{pieces_more, pieces_sized, length_pieces}
use Rattle.protocol.proofs.Laws.EntriesLaws.{holds_back, holds_front, log_start}
use Rattle.book_fields.specs.Book.{view_of}
use Rattle.book_fields.specs.Kinds.{BookKind}
use Rattle.book_fields.proofs.Places.{cut_part}
use Rattle.chains.specs.Walkable.{WalkableAs}
use Rattle.chains.specs.Entries.{first_entries}
use Rattle.chains.proofs.ChainWalk.{Step, walk_step, walk_few, walk_count, all_entries_lem}
use Rattle.sha256.specs.Digest.{sha256}
use Rattle.filter.specs.Filter.{Marked}
use Rattle.distinct_entries.specs.Taking.{Inside, entry_of, up_to, part_read}

-- ---- what stands before the first place, before the next one, and in all places
pub before_first : (v : View) (h : ℕ) → up_to v h 0 ≡ log_at v (parent_height (v.block h))
unfolding pieces
before_first v h = append-nil (log_at v (parent_height (v.block h)))

pub before_next : (v : View) (h k : ℕ) → up_to v h (k + 1) ≡ up_to v h k ++ (entry_of v h k ∷ [])
before_next v h k =
    let parent = log_at v (parent_height (v.block h)) in
    let block = v.block h in
    let place : part (drop 48 block) (16 * k) 16 ≡ entry_of v h k = unfold part in rw drop-drop in
    ap (λ (l : List Bytes). parent ++ l) (rw (add-one k) (pieces_more 16 k (drop 48 block))) ∙
    ap (λ (x : Bytes). parent ++ (first_entries k block ++ (x ∷ []))) place ∙
    sym (append_assoc parent (first_entries k block) (entry_of v h k ∷ []))

pub before_end : {kind : BookKind} {book : Bytes} {h : ℕ} (count : ℕ) → WalkableAs kind book h → 0 < h →
    count ≡ entry_count ((view_of kind book).block h) → up_to (view_of kind book) h count ≡ log_at (view_of kind book) h
before_end {kind} {book} {h} count w low e =
    let v = view_of kind book in
    ap (λ (l : List Bytes). log_at v (parent_height (v.block h)) ++ l) (all_entries_lem (v.block h) count e)
    ∙ sym (walk_step w low refl).log

-- ---- looking back from a place
module _ {kind : BookKind} {book : Bytes} {h k : ℕ} (p : Inside kind book h k) {block : Bytes}
    (is : block ≡ (view_of kind book).block h) where
  pub place_step : Step kind book h block
  place_step = walk_step p.walk p.low is

  -- the entry as the code cuts it out
  pub cut_entry : take (48 + 16 * k + 16 - (48 + 16 * k)) (drop (48 + 16 * k) block) ≡ entry_of (view_of kind book) h k
  cut_entry = cut_part block (48 + 16 * k) 16 ∙ ap (λ (b : Bytes). part b (48 + 16 * k) 16) is

  module _ {entry : Bytes} (cut : entry ≡ entry_of (view_of kind book) h k) {inside : Bool}
      (test : inside ≡ holds entry (first_entries k block)) where
    abbrev v : View
    v = view_of kind book

    in_block : inside ≡ holds (entry_of v h k) (first_entries k (v.block h))
    in_block = test ∙ rw (cut, is)

    pub found_inside : inside ≡ true → true ≡ holds (entry_of v h k) (up_to v h k)
    found_inside e = sym (holds_back (entry_of v h k) (log_at v (parent_height (v.block h)))
        (first_entries k (v.block h)) (sym in_block ∙ e))

    pub found_below : inside ≡ false → {j : ℕ} {below : Bool} → j ≡ parent_height block →
        below ≡ holds entry (log_at v j) → below ≡ holds (entry_of v h k) (up_to v h k)
    found_below e q t =
        t ∙ rw (cut, q, is) (sym (holds_front (entry_of v h k) (log_at v (parent_height (v.block h)))
        (first_entries k (v.block h)) (sym in_block ∙ e)))

-- a place of the block that the walk has come to
pub inside_at : {kind : BookKind} {book : Bytes} {h k size : ℕ} {block : Bytes} → WalkableAs kind book h → 0 < h →
    block ≡ (view_of kind book).block h → size ≡ entry_count block → k < size → Inside kind book h k
inside_at {kind} {book} {h} {k} {size} {block} w low is count taken =
    let few = (walk_step w low is).few in
    let inside : k < entry_count block = omega arith in
    record { walk = w; low = low; inside = rw is at inside; few = omega arith }

-- the filter knows what stands before the next place
pub marked_next : {kind : BookKind} {book : Bytes} {h k : ℕ} (p : Inside kind book h k) {block filter : Bytes} →
    block ≡ (view_of kind book).block h →
    Marked filter (up_to (view_of kind book) h k ++
    (take (48 + 16 * k + 16 - (48 + 16 * k)) (drop (48 + 16 * k) block) ∷ [])) →
    Marked filter (up_to (view_of kind book) h (k + 1))
marked_next {kind} {book} {h} {k} p {filter = filter} is m =
    subst (Marked filter) (sym (before_next (view_of kind book) h k))
    (subst (λ (x : Bytes). Marked filter (up_to (view_of kind book) h k ++ (x ∷ []))) (cut_entry p is) m)

-- ---- sizes
module _ {kind : BookKind} {book : Bytes} {h : ℕ} (w : WalkableAs kind book h) (low : 0 < h) (k : ℕ)
    (within : k ≤ entry_count ((view_of kind book).block h)) where
  abbrev shown : View
  shown = view_of kind book

  its : Step kind book h (shown.block h)
  its = walk_step w low refl

  pub before_sized : Every (Sized 16) (up_to shown h k)
  before_sized =
      let few = its.few in
      let size = its.size in
      let parent = its.parent in
      every_append (log_sized sha256 shown parent.formed (parent_height (shown.block h)) parent.is_linked_lem)
      (pieces_sized 16 k (drop 48 (shown.block h)) (rw length-drop (omega arith)))

  pub before_few : length (distinct (up_to shown h k)) ≤ maximum_entries
  before_few =
      let short = distinct_short (up_to shown h k) in
      let all = walk_few w in
      let count = walk_count its refl refl in
      let size : length (up_to shown h k) ≡ length (log_at shown (parent_height (shown.block h))) + k =
      length-append (log_at shown (parent_height (shown.block h))) (first_entries k (shown.block h))
      ∙ rw length_pieces in
      omega arith

-- ---- the log of a chain
-- none at height 0
pub distinct_none : (v : View) (h : ℕ) → h ≤ 0 → log_of v h ≡ []
unfolding distinct distinct_after
distinct_none v h low = ap distinct (log_start v h low)

pub distinct_few : {kind : BookKind} {book : Bytes} {h : ℕ} → WalkableAs kind book h →
    length (log_of (view_of kind book) h) ≤ maximum_entries
distinct_few {kind} {book} {h} w =
    let short = distinct_short (log_at (view_of kind book) h) in
    let all = walk_few w in
    omega arith

-- what is read where it fits, and where not
module _ (v : View) (h : ℕ) (buffer : Bytes) where
  pub read_whole : true ≡ leb (16 * length (log_of v h)) (length buffer) → part_read v h buffer ≡ join (log_of v h)
  read_whole e = rw (← e)

  pub read_none : false ≡ leb (16 * length (log_of v h)) (length buffer) → part_read v h buffer ≡ []
  read_none e = rw (← e)
