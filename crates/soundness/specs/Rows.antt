-- The row of soundness on the finalized height, of a book of any kind.
use Rattle.std.specs.Prelude.{Bool, ◌||◌, eqb}
use Rattle.sha256.specs.Digest.{sha256}
use Rattle.protocol.specs.Bytes.{Bytes}
use Rattle.protocol.specs.View.{is_finalized}
use Rattle.book_fields.specs.Kinds.{BookKind}
use Rattle.book_fields.specs.Book.{state_of, view_of}

-- the finalized height is 0 or finalized
abbrev pub final_row_as : BookKind → Bytes → Bool
final_row_as kind book =
    eqb (state_of kind book).finalized 0 || is_finalized sha256 (view_of kind book) (state_of kind book).finalized
