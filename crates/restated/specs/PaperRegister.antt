-- Written by tests/restated --write: what docs/statements has of
-- crates/paper/specs/Register.antt.
use Rattle.std.specs.Prelude.{ℕ, ◌*◌, ◌<◌, ◌≡◌, ◌⊎◌, ◌++◌, length, drop}
use package.Rattle.protocol.specs.Bytes.{Bytes, join}
use package.Rattle.protocol.specs.Distinct.{distinct}
use package.Rattle.protocol.specs.Block.{entry_size}
use package.Rattle.protocol.specs.State.{book_finalized, decode}
use package.Rattle.protocol.specs.View.{View}
use package.Rattle.protocol.specs.Sound.{view}
use package.Rattle.protocol.specs.Answer.{refused, accepted}
use package.Rattle.protocol.specs.Read.{size_call, read_part, read_buffer}
use package.Rattle.protocol.specs.Observer.{observer_state}
use package.Rattle.protocol.specs.ObserverCalls.{observer_size_call, observer_read_part, observer_read_buffer}
use package.Rattle.paper.specs.Paper.{Sequence, height, last_block, linearize, FinalizedBlockchain}
use package.Rattle.paper.specs.Register.{ReadsChainOf}
use mathlib.Core.Path.{◌≡◌ as ◌is-kept◌, refl as by-text}
use package.Rattle.paper.specs.Register as page

ReadsChainOf-kept : (digest : Bytes → Bytes) (v : View) (g : ℕ) (part buffer after : Bytes) (size : ℕ) (sequence : Sequence) (finalized : FinalizedBlockchain digest v sequence) (its_height : height sequence ≡ g) (its_last : last_block sequence ≡ g) (part_read_lem : part ≡ join (distinct (linearize sequence))) (its_size : size ≡ entry_size * length (distinct (linearize sequence))) (part_size : length part ≡ size) (buffer_after : after ≡ part ++ drop size buffer) →
    ReadsChainOf digest v g part buffer after size
ReadsChainOf-kept digest v g part buffer after size x0 x1 x2 x3 x4 x5 x6 x7 = record { sequence = x0; finalized = x1; its_height = x2; its_last = x3; part_read_lem = x4; its_size = x5; part_size = x6; buffer_after = x7 }

abbrev ReadsChain-kept : (Bytes → Bytes) → Bytes → Bytes → ℕ → Type 0
ReadsChain-kept digest book buffer size =
    ReadsChainOf digest (view (decode book)) (book_finalized book) (read_part digest book buffer) buffer
    (read_buffer digest book buffer) size

same-ReadsChain : ReadsChain-kept is-kept page.ReadsChain
same-ReadsChain = by-text

abbrev ObserverReadsChain-kept : (Bytes → Bytes) → Bytes → Bytes → ℕ → Type 0
ObserverReadsChain-kept digest book buffer size =
    ReadsChainOf digest (view (observer_state book)) (book_finalized book) (observer_read_part digest book buffer) buffer
    (observer_read_buffer digest book buffer) size

same-ObserverReadsChain : ObserverReadsChain-kept is-kept page.ObserverReadsChain
same-ObserverReadsChain = by-text

CannotRead-kept : (Bytes → Bytes) → Bytes → Bytes → Type 0
CannotRead-kept digest book buffer =
    ((number : ℕ) × (size_call digest book ≡ refused number)) ⊎
    ((size : ℕ) × (size_call digest book ≡ accepted size) × (length buffer < size))

same-CannotRead : CannotRead-kept is-kept page.CannotRead
unfolding CannotRead-kept page.CannotRead
same-CannotRead = by-text

ObserverCannotRead-kept : (Bytes → Bytes) → Bytes → Bytes → Type 0
ObserverCannotRead-kept digest book buffer =
    ((number : ℕ) × (observer_size_call digest book ≡ refused number)) ⊎
    ((size : ℕ) × (observer_size_call digest book ≡ accepted size) × (length buffer < size))

same-ObserverCannotRead : ObserverCannotRead-kept is-kept page.ObserverCannotRead
unfolding ObserverCannotRead-kept page.ObserverCannotRead
same-ObserverCannotRead = by-text
