-- Written by tests/restated --write: what docs/statements has of
-- crates/protocol/proofs/Laws/CodecLaws.antt.
use Prim.Native.Nat.{ℕ, ◌+◌, ◌*◌, ◌<◌}
use Rattle.std.specs.Prelude.{◌≡◌, true}
use Rattle.std.proofs.Math.ListN.{length}
use package.Rattle.protocol.specs.Bytes.{Bytes, part, zeros, is_zero}
use package.Rattle.protocol.specs.State.{book_heights, head_unused}
use package.Rattle.protocol.proofs.Laws.CodecLaws.{Exact, Clean}
use mathlib.Core.Path.{◌≡◌ as ◌is-kept◌, refl as by-text}
use package.Rattle.protocol.proofs.Laws.CodecLaws as page

abbrev Exact-kept : Bytes → Type 0
Exact-kept book = length book ≡ 576 + 880 * book_heights book

same-Exact : Exact-kept is-kept page.Exact
same-Exact = by-text

Clean-kept : (book : Bytes) (size : Exact book) (head_zeros : is_zero (head_unused book) ≡ true) (content_zeros_lem : (i : ℕ) → i < book_heights book → part book (576 + 16 * i + 10) 6 ≡ zeros 6) →
    Clean book
Clean-kept book x0 x1 x2 = record { size = x0; head_zeros = x1; content_zeros_lem = x2 }
