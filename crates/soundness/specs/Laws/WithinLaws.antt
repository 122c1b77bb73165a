-- A height that a book has, as a test and as facts.
use Rattle.std.specs.Prelude.{ℕ, ◌≡◌, true}
use Rattle.protocol.specs.Bytes.{Bytes}
use Rattle.protocol.specs.Tests.{in_range}
use Rattle.protocol.specs.State.{decode, last}
use Rattle.protocol.proofs.Laws.CodecLaws.{last_decode}
use Rattle.protocol.proofs.Laws.RowLaws.{in_range_lem, range_in}
use Rattle.book_fields.specs.Book.{Within}

-- a height that the book has
pub within : (book : Bytes) (h : ℕ) → in_range 1 (last (decode book)) h ≡ true → Within book h
within book h e =
    let t = in_range_lem 1 (last (decode book)) h e in
    record { low = t.0; high = rw (last_decode book) at t.1 }

pub in_heights : (book : Bytes) (h : ℕ) → Within book h → in_range 1 (last (decode book)) h ≡ true
in_heights book h w = range_in 1 (last (decode book)) h w.low (rw (last_decode book) w.high)
