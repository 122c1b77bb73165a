-- What is asked of a book by the functions that walk a chain back.
use Rattle.std.specs.Prelude.{ℕ, ◌≤◌, ◌≡◌, true}
use Rattle.protocol.specs.Bytes.{Bytes}
use Rattle.protocol.specs.Block.{block_well_formed}
use Rattle.protocol.specs.State.{book_heights}
use Rattle.protocol.specs.View.{linked}
use Rattle.book_fields.specs.Book.{Shown, view_of}
use Rattle.book_fields.specs.Kinds.{BookKind}
use Rattle.book_fields.specs.Kinds.{ReplicaBook}
use Rattle.sha256.specs.Digest.{sha256}

-- a linked height of a book whose notarized blocks are all well formed
pub record WalkableAs (kind : BookKind) (book : Bytes) (h : ℕ) : Type 0 where
  pub shown : Shown kind book
  pub high : h ≤ book_heights book
  pub is_linked_lem : linked sha256 (view_of kind book) h ≡ true
  pub formed : (i : ℕ) → 1 ≤ i → (view_of kind book).has_block i ≡ true →
      block_well_formed i ((view_of kind book).block i) ≡ true

-- of a replica's book
abbrev pub Walkable : Bytes → ℕ → Type 0
Walkable book h = WalkableAs ReplicaBook book h
