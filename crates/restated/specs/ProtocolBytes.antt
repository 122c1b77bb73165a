-- Written by tests/restated --write: what docs/statements has of
-- crates/protocol/specs/Bytes.antt.
use Rattle.std.specs.Prelude.{◌≡◌, ℕ, zero, suc, ◌+◌, ◌*◌, ◌/◌, ◌%◌, ◌<◌, Bool, true, false, ◌&&◌, cond, List, [], ◌∷◌, ◌++◌, length, get_or, take, drop, replicate, eqb}
use package.Rattle.protocol.specs.Bytes.{Bytes, byte_at, all, same, holds}
use mathlib.Core.Path.{◌≡◌ as ◌is-kept◌, refl as by-text}
use package.Rattle.protocol.specs.Bytes as page

abbrev Bytes-kept : Type 0
Bytes-kept = List ℕ

same-Bytes : Bytes-kept is-kept page.Bytes
same-Bytes = by-text

abbrev byte_at-kept : Bytes → ℕ → ℕ
byte_at-kept bytes i = get_or bytes i 0

same-byte_at : byte_at-kept is-kept page.byte_at
same-byte_at = by-text

word16-kept : Bytes → ℕ → ℕ
word16-kept bytes i = byte_at bytes i + 256 * byte_at bytes (i + 1)

same-word16 : word16-kept is-kept page.word16
unfolding word16-kept page.word16
same-word16 = by-text

le16-kept : ℕ → Bytes
le16-kept x = x % 256 ∷ x / 256 ∷ []

same-le16 : le16-kept is-kept page.le16
unfolding le16-kept page.le16
same-le16 = by-text

part-kept : Bytes → ℕ → ℕ → Bytes
part-kept bytes start count = take count (drop start bytes)

same-part : part-kept is-kept page.part
unfolding part-kept page.part
same-part = by-text

zeros-kept : ℕ → Bytes
zeros-kept count = replicate count 0

same-zeros : zeros-kept is-kept page.zeros
unfolding zeros-kept page.zeros
same-zeros = by-text

over_front-kept : Bytes → Bytes → Bytes
over_front-kept new buffer = new ++ drop (length new) buffer

same-over_front : over_front-kept is-kept page.over_front
unfolding over_front-kept page.over_front
same-over_front = by-text

all-kept : (ℕ → Bool) → Bytes → Bool
all-kept test [] = true
all-kept test (x ∷ xs) = test x && all-kept test xs

same-all : all-kept is-kept page.all
unfolding all-kept page.all
same-all = by-text

is_zero-kept : Bytes → Bool
is_zero-kept bytes = all (λ x. eqb x 0) bytes

same-is_zero : is_zero-kept is-kept page.is_zero
unfolding is_zero-kept page.is_zero
same-is_zero = by-text

same-kept : Bytes → Bytes → Bool
same-kept [] [] = true
same-kept [] (y ∷ ys) = false
same-kept (x ∷ xs) [] = false
same-kept (x ∷ xs) (y ∷ ys) = eqb x y && same-kept xs ys

same-same : same-kept is-kept page.same
unfolding same-kept page.same
same-same = by-text

pieces-kept : ℕ → ℕ → Bytes → List Bytes
pieces-kept size zero bytes = []
pieces-kept size (suc count) bytes = take size bytes ∷ pieces-kept size count (drop size bytes)

same-pieces : pieces-kept is-kept page.pieces
unfolding pieces-kept page.pieces
same-pieces = by-text

join-kept : List Bytes → Bytes
join-kept [] = []
join-kept (x ∷ xs) = x ++ join-kept xs

same-join : join-kept is-kept page.join
unfolding join-kept page.join
same-join = by-text

holds-kept : Bytes → List Bytes → Bool
holds-kept x [] = false
holds-kept x (y ∷ ys) = cond (same x y) true (holds-kept x ys)

same-holds : holds-kept is-kept page.holds
unfolding holds-kept page.holds
same-holds = by-text

without-kept : List Bytes → List Bytes → List Bytes
without-kept taken [] = []
without-kept taken (e ∷ es) = cond (holds e taken) (without-kept taken es) (e ∷ without-kept taken es)

same-without : without-kept is-kept page.without
unfolding without-kept page.without
same-without = by-text

abbrev AreBytes-kept : Bytes → Type 0
AreBytes-kept bytes = (i : ℕ) → byte_at bytes i < 256

same-AreBytes : AreBytes-kept is-kept page.AreBytes
same-AreBytes = by-text

put-kept : Bytes → ℕ → Bytes → Bytes
put-kept bytes i new = take i bytes ++ (new ++ drop (i + length new) bytes)

same-put : put-kept is-kept page.put
unfolding put-kept page.put
same-put = by-text

abbrev Sized-kept : ℕ → Bytes → Type 0
Sized-kept k b = length b ≡ k

same-Sized : Sized-kept is-kept page.Sized
same-Sized = by-text
