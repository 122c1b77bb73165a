-- What is known while a chain's entries are gone through, oldest first.
use Rattle.std.specs.Prelude.{ℕ, ◌+◌, ◌*◌, ◌≤◌, ◌<◌, ◌≡◌, cond, List, [], ◌++◌, leb, length}
use Rattle.protocol.specs.Bytes.{Bytes, part, join, over_front}
use Rattle.protocol.specs.Block.{parent_height, entry_count}
use Rattle.protocol.specs.Distinct.{distinct}
use Rattle.protocol.specs.View.{View, log_at, log_of}
use Rattle.book_fields.specs.Book.{view_of}
use Rattle.book_fields.specs.Kinds.{BookKind}
use Rattle.chains.specs.Walkable.{WalkableAs}
use Rattle.chains.specs.Entries.{first_entries}
use Rattle.filter.specs.Filter.{Marked}

-- the entry at place `k` of the block of height `h`
abbrev pub entry_of : View → ℕ → ℕ → Bytes
entry_of v h k = part (v.block h) (48 + 16 * k) 16

-- the entries of the chain that ends in height `h` that stand before place `k` of its last block
abbrev pub up_to : View → ℕ → ℕ → List Bytes
up_to v h k = log_at v (parent_height (v.block h)) ++ first_entries k (v.block h)

-- a place of the last block of a chain
pub record Inside (kind : BookKind) (book : Bytes) (h k : ℕ) : Type 0 where
  pub walk : WalkableAs kind book h
  pub low : 0 < h
  pub inside : k < entry_count ((view_of kind book).block h)
  pub few : k < 8

-- these entries were gone through: the distinct ones are counted, the filter knows all, and the distinct ones stand at
-- the front of the buffer that was `before`, if they fit
pub record Taken (es : List Bytes) (before filter buffer : Bytes) (count : ℕ) : Type 0 where
  pub counted : count ≡ length (distinct es)
  pub marked : Marked filter es
  pub same_length : length buffer ≡ length before
  pub copied : 16 * count ≤ length before → buffer ≡ over_front (join (distinct es)) before

-- what is told of it to those who lent no filter
pub record Told (es : List Bytes) (before buffer : Bytes) (count : ℕ) : Type 0 where
  pub counted : count ≡ length (distinct es)
  pub copied : 16 * count ≤ length before → buffer ≡ over_front (join (distinct es)) before

-- what is read of the chain that ends in height `h`: its distinct entries, or nothing where they do not fit
abbrev pub part_read : View → ℕ → Bytes → Bytes
part_read v h buffer = cond (leb (16 * length (log_of v h)) (length buffer)) (join (log_of v h)) []
