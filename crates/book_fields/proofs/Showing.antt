-- What the readers of any kind of book need of it: the head, which all kinds have alike.
use Rattle.std.proofs.Common.{◌+◌, ◌≤◌, ◌≡◌, refl, ◌∙◌, arith, Bool, true, false, cond, length}
use mir.Val.{bool_byte}
use Rattle.protocol.specs.Bytes.{Bytes, byte_at, word16}
use Rattle.protocol.specs.Sound.{view}
use Rattle.book_fields.specs.Book.{Shown, state_of, view_of}
use Rattle.book_fields.specs.Kinds.{BookKind, ReplicaBook, ObserverBook}

-- ---- the head of any kind
pub head_room : (kind : BookKind) (book : Bytes) → Shown kind book → 64 ≤ length book
head_room ReplicaBook book shown = omega (arith, shown.sized.size)
head_room ObserverBook book shown = omega (arith, shown.sized.size)

pub replicas_at : (kind : BookKind) (book : Bytes) → Shown kind book → byte_at book 0 ≡ (view_of kind book).n
unfolding view
replicas_at ReplicaBook book shown = shown.sized.n_byte
replicas_at ObserverBook book shown = shown.sized.n_byte

pub finalized_at : (kind : BookKind) (book : Bytes) → Shown kind book →
    byte_at book 5 + word16 book 44 ≡ (state_of kind book).finalized
finalized_at ReplicaBook book shown = shown.finalized_sum ∙ shown.sized.finalized_number
finalized_at ObserverBook book shown = shown.finalized_sum ∙ shown.sized.finalized_number

-- ---- a test as a number
pub byte_number : (t : Bool) → bool_byte t ≡ cond t 1 0
byte_number true = refl
byte_number false = refl

pub byte_at_most : (t : Bool) → bool_byte t ≤ 1
byte_at_most true = omega arith
byte_at_most false = omega arith
