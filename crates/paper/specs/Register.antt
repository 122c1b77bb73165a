-- What Register size and Read give: the linearization of the finalized blockchain that ends at g, each entry at its
-- first place, or nothing.
use Rattle.std.specs.Prelude.{ℕ, ◌*◌, ◌<◌, ◌≡◌, ◌⊎◌, ◌++◌, length, drop}
use Rattle.protocol.specs.Bytes.{Bytes, byte_at, join}
use Rattle.protocol.specs.Distinct.{distinct}
use Rattle.protocol.specs.Block.{entry_size}
use Rattle.protocol.specs.State.{book_finalized, decode}
use Rattle.protocol.specs.View.{View}
use Rattle.protocol.specs.Sound.{view}
use Rattle.protocol.specs.Answer.{refused, accepted}
use Rattle.protocol.specs.Read.{size_call, read_part, read_buffer}
use Rattle.protocol.specs.Observer.{observer_state}
use Rattle.protocol.specs.ObserverCalls.{observer_size_call, observer_read_part, observer_read_buffer}
use Rattle.paper.specs.Paper.{Sequence, height, last_block, linearize, FinalizedBlockchain}

-- a book with this view and this g, whose register has `size` bytes, and a buffer that is long enough: the part that
-- Read returns, and the buffer after it
pub record ReadsChainOf (digest : Bytes → Bytes) (v : View) (g : ℕ)
    (part buffer after : Bytes) (size : ℕ) : Type 0 where
  -- the finalized blockchain of height g that ends in the block of that height, and not in a dummy block
  pub sequence : Sequence
  pub finalized : FinalizedBlockchain digest v sequence
  pub its_height : height sequence ≡ g
  pub its_last : last_block sequence ≡ g
  -- the part is its entries, oldest first, without those equal to an earlier one, 16 bytes each, and the size is theirs
  pub part_read_lem : part ≡ join (distinct (linearize sequence))
  pub its_size : size ≡ entry_size * length (distinct (linearize sequence))
  pub part_size : length part ≡ size
  -- it is written to the front of the buffer, and the bytes past it keep their values
  pub buffer_after : after ≡ part ++ drop size buffer

-- of a replica's book, whose byte 5 names g
abbrev pub ReadsChain : (Bytes → Bytes) → Bytes → Bytes → ℕ → Type 0
ReadsChain digest book buffer size =
    ReadsChainOf digest (view (decode book)) (book_finalized book) (read_part digest book buffer) buffer
    (read_buffer digest book buffer) size

-- of an observer's
abbrev pub ObserverReadsChain : (Bytes → Bytes) → Bytes → Bytes → ℕ → Type 0
ObserverReadsChain digest book buffer size =
    ReadsChainOf digest (view (observer_state book)) (book_finalized book) (observer_read_part digest book buffer) buffer
    (observer_read_buffer digest book buffer) size

-- size refuses, or the buffer is shorter than the size
unfoldable pub CannotRead : (Bytes → Bytes) → Bytes → Bytes → Type 0
CannotRead digest book buffer =
    ((number : ℕ) × (size_call digest book ≡ refused number)) ⊎
    ((size : ℕ) × (size_call digest book ≡ accepted size) × (length buffer < size))

unfoldable pub ObserverCannotRead : (Bytes → Bytes) → Bytes → Bytes → Type 0
ObserverCannotRead digest book buffer =
    ((number : ℕ) × (observer_size_call digest book ≡ refused number)) ⊎
    ((size : ℕ) × (observer_size_call digest book ≡ accepted size) × (length buffer < size))
