-- What the refusals of contradiction, and the keeping, ask of a book, a height, and a frame that is read.
use Rattle.std.specs.Prelude.{ℕ, ◌≤◌, ◌≡◌}
use Rattle.protocol.specs.ReadFrame.{ReadFrame}
use Rattle.protocol.specs.SoundState.{HeightRange}
use Rattle.protocol.specs.Bytes.{Bytes}
use Rattle.protocol.specs.Frame.{frame_height}
use Rattle.protocol.specs.State.{decode, at}
use Rattle.book_fields.specs.Book.{Ready, Within}

-- a height of a book that can be read and written
pub record Spot (book : Bytes) (h : ℕ) : Type 0 where
  pub ready : Ready book
  pub within : Within book h
  pub status_small : (at (decode book) h).status ≤ 3

-- a frame that passes the rows of reading, and its height
pub record Read (book : Bytes) (h : ℕ) (frame : Bytes) : Type 0 where
  pub spot : Spot book h
  pub range : HeightRange (decode book).n (at (decode book) h)
  pub read : ReadFrame (decode book) frame
  pub height : h ≡ frame_height frame
