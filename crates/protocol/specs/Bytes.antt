-- Byte strings, as lists of numbers: fields, parts, tests and joins.
use Rattle.std.specs.Prelude.{◌≡◌, ℕ, zero, suc, ◌+◌, ◌*◌, ◌/◌, ◌%◌, ◌<◌, Bool, true, false, ◌&&◌, cond, List, [], ◌∷◌, ◌++◌, length, get_or, take, drop, replicate, eqb}

abbrev pub Bytes : Type 0
Bytes = List ℕ

-- the byte at `i`, and 0 past the end
abbrev pub byte_at : Bytes → ℕ → ℕ
byte_at bytes i = get_or bytes i 0

-- the 16-bit number at `i`, its low byte first
unfoldable pub word16 : Bytes → ℕ → ℕ
word16 bytes i = byte_at bytes i + 256 * byte_at bytes (i + 1)

-- a 16-bit number as two bytes, the low one first
unfoldable pub le16 : ℕ → Bytes
le16 x = x % 256 ∷ x / 256 ∷ []

-- `count` bytes from `start` on
unfoldable pub part : Bytes → ℕ → ℕ → Bytes
part bytes start count = take count (drop start bytes)

unfoldable pub zeros : ℕ → Bytes
zeros count = replicate count 0

-- a lent buffer after `new` was written to its front: the bytes past it keep their values
unfoldable pub over_front : Bytes → Bytes → Bytes
over_front new buffer = new ++ drop (length new) buffer

-- every byte passes a test
unfoldable pub all : (ℕ → Bool) → Bytes → Bool
all test [] = true
all test (x ∷ xs) = test x && all test xs

unfoldable pub is_zero : Bytes → Bool
is_zero bytes = all (λ x. eqb x 0) bytes

-- two byte strings have the same length and bytes
unfoldable pub same : Bytes → Bytes → Bool
same [] [] = true
same [] (y ∷ ys) = false
same (x ∷ xs) [] = false
same (x ∷ xs) (y ∷ ys) = eqb x y && same xs ys

-- `count` pieces of `size` bytes each, from the front
unfoldable pub pieces : ℕ → ℕ → Bytes → List Bytes
pieces size zero bytes = []
pieces size (suc count) bytes = take size bytes ∷ pieces size count (drop size bytes)

-- byte strings one after the other
unfoldable pub join : List Bytes → Bytes
join [] = []
join (x ∷ xs) = x ++ join xs

-- whether a list has this byte string
unfoldable pub holds : Bytes → List Bytes → Bool
holds x [] = false
holds x (y ∷ ys) = cond (same x y) true (holds x ys)

-- the entries that a list has not, in order
unfoldable pub without : List Bytes → List Bytes → List Bytes
without taken [] = []
without taken (e ∷ es) = cond (holds e taken) (without taken es) (e ∷ without taken es)

-- every number of the list is a byte, as in a byte slice
abbrev pub AreBytes : Bytes → Type 0
AreBytes bytes = (i : ℕ) → byte_at bytes i < 256

-- `new` in the place of as many bytes from `i` on
unfoldable pub put : Bytes → ℕ → Bytes → Bytes
put bytes i new = take i bytes ++ (new ++ drop (i + length new) bytes)

-- a byte string of that length
abbrev pub Sized : ℕ → Bytes → Type 0
Sized k b = length b ≡ k
