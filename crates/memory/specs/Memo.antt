-- What a memory says of a book.
use Rattle.std.specs.Prelude.{ℕ, zero, suc, ◌+◌, ◌*◌, ◌≤◌, ◌<◌, ◌≡◌, true, false, cond, length}
use Rattle.protocol.specs.Bytes.{Bytes, byte_at, word16, part}
use Rattle.protocol.specs.State.{decode, book_heights}
use Rattle.protocol.specs.View.{View, linked, is_dummy}
use Rattle.protocol.specs.Sound.{view}
use Rattle.book_fields.specs.Book.{view_of}
use Rattle.book_fields.specs.Kinds.{BookKind}
use Rattle.sha256.specs.Digest.{sha256}

-- the height below the run of dummies that ends at `h`: the dummy blocks of the heights after it up to `h` are
-- notarized, its own is not
unfoldable pub run_start : View → ℕ → ℕ
run_start v zero = 0
run_start v (suc h) = cond (is_dummy v (suc h)) (run_start v h) (suc h)

-- What the 36 bytes of a height say. The first is 1 where the height is known to be linked, and 2 where it is known not
-- to be. The second is 1 where the digest of the height's notarized block stands in the last 32 bytes. The two
-- between are 0, or one more than the start of the run of dummies that ends at the height.
pub record KnownAt (v : View) (known : Bytes) (h : ℕ) : Type 0 where
  pub is_linked_lem : byte_at known (36 * h) ≡ 1 → linked sha256 v h ≡ true
  pub not_linked : byte_at known (36 * h) ≡ 2 → linked sha256 v h ≡ false
  pub digest : byte_at known (36 * h + 1) ≡ 1 → part known (36 * h + 4) 32 ≡ sha256 (v.block h)
  pub run : 0 < word16 known (36 * h + 2) → word16 known (36 * h + 2) ≡ run_start v h + 1

-- a memory has 36 bytes for height 0 and for each height of the book
pub record Known (heights : ℕ) (v : View) (known : Bytes) : Type 0 where
  pub room : 36 * (heights + 1) ≤ length known
  pub each : (h : ℕ) → h ≤ heights → KnownAt v known h

-- a memory of a replica's book
abbrev pub Memo : Bytes → Bytes → Type 0
Memo book known = Known (book_heights book) (view (decode book)) known

-- a memory of a book of any kind
abbrev pub MemoAs : BookKind → Bytes → Bytes → Type 0
MemoAs kind book known = Known (book_heights book) (view_of kind book) known
