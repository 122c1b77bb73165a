-- Written by tests/restated --write: what docs/statements has of
-- crates/protocol/proofs/Laws/ObserverCodecLaws.antt.
use Prim.Native.Nat.{ℕ, ◌+◌, ◌*◌, ◌<◌}
use Rattle.std.specs.Prelude.{◌≡◌, true}
use Rattle.std.proofs.Math.ListN.{length}
use package.Rattle.protocol.specs.Bytes.{Bytes, byte_at, is_zero}
use package.Rattle.protocol.specs.State.{book_heights, book_current, head_unused}
use package.Rattle.protocol.proofs.Laws.ObserverCodecLaws.{ExactObserver, CleanObserver}
use mathlib.Core.Path.{◌≡◌ as ◌is-kept◌, refl as by-text}
use package.Rattle.protocol.proofs.Laws.ObserverCodecLaws as page

abbrev ExactObserver-kept : Bytes → Type 0
ExactObserver-kept book = length book ≡ 64 + 184 * book_heights book

same-ExactObserver : ExactObserver-kept is-kept page.ExactObserver
same-ExactObserver = by-text

CleanObserver-kept : (book : Bytes) (size : ExactObserver book) (own_zero : byte_at book 1 ≡ 0) (flags_zero : byte_at book 3 ≡ 0) (current_zero : book_current book ≡ 0) (pending_zero : byte_at book 6 ≡ 0) (head_zeros : is_zero (head_unused book) ≡ true) (content_zero : (i : ℕ) → i < book_heights book → byte_at book (64 + 8 * i + 1) ≡ 0) →
    CleanObserver book
CleanObserver-kept book x0 x1 x2 x3 x4 x5 x6 = record { size = x0; own_zero = x1; flags_zero = x2; current_zero = x3; pending_zero = x4; head_zeros = x5; content_zero = x6 }
