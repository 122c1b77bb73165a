-- The walk back through a chain, block by block.
use denote.Ref.{Bor}
use Rattle.std.specs.Prelude.{ℕ, ◌<◌, ◌≡◌, Option, MatchOption}
use Rattle.protocol.specs.Bytes.{Bytes}
use Rattle.protocol.specs.Block.{parent_height}
use Rattle.book_fields.specs.Book.{view_of}
use Rattle.book_fields.specs.Kinds.{BookKind}

-- a step back from a height: none from height 0, and else the block of that height, and then one is at its parent
abbrev pub StepsBack : BookKind → Bytes → ℕ → Option (Bor Bytes) → Bytes → ℕ → Type 0
StepsBack kind book at block book' at' =
    MatchOption block (at ≡ 0) (λ b. (0 < at) × (b.now ≡ (view_of kind book).block at)
    × (at' ≡ parent_height b.now) × (book' ≡ book))
