-- An observer's calls with their answers as numbers, and books of observers byte by byte: what the checks of observers
-- run and compute on.
use Rattle.std.specs.Prelude.{ℕ, ◌-◌, ◌*◌, Bool, List, [], ◌∷◌, ◌++◌, map, replicate}
use Rattle.protocol.specs.Bytes.{Bytes, zeros, same}
use Rattle.protocol.specs.Tests.{all_of}
use Rattle.protocol.specs.Call.{opening}
use Rattle.protocol.specs.ObserverSound.{observer_sound}
use Rattle.protocol.specs.ObserverCalls.{observer_open_call, observer_deliver_call, observer_move_call, observer_size_call}
use Rattle.protocol.specs.ObserverCalls.{observer_read_part, observer_read_buffer}
use Rattle.protocol.specs.ObserverCall.{ObserverCall, observer_opening, observer_delivery, observer_moving}
use Rattle.protocol.specs.ObserverCall.{observer_sizing, observer_reading, observation}
use Rattle.check_books.specs.CheckCalls.{stand_in, numbers_of, done_numbers, delivery_numbers, move_numbers}
use Rattle.check_books.specs.CheckCalls.{after, splice, changed, one_bytes, one_each}
use Rattle.check_books.specs.CheckStates.{entry, passing, differences, state_tools}

-- ---- calls
-- a refusal's number alone, or 0 and what the answer says; of a reading the part that it returns
unfoldable pub observer_numbers : Bytes → ObserverCall → List ℕ
observer_numbers book (observer_opening way n heights) =
    numbers_of done_numbers (observer_open_call way book n heights).answer
observer_numbers book (observer_delivery frame) =
    numbers_of delivery_numbers (observer_deliver_call stand_in book frame).answer
observer_numbers book observer_moving = numbers_of move_numbers (observer_move_call stand_in book).answer
observer_numbers book observer_sizing = numbers_of (λ size. size ∷ []) (observer_size_call stand_in book)
observer_numbers book (observer_reading buffer) = observer_read_part stand_in book buffer

-- the book after a call
unfoldable pub observer_after : Bytes → ObserverCall → Bytes
observer_after book call = (observation stand_in book call).book

-- A call on a book: its numbers, and then each byte that it changed with its place. So 0 1 75 7 is fresh, and byte 75
-- has become 7 and no other byte anything else.
unfoldable pub observer_outcome : Bytes → ObserverCall → List ℕ
observer_outcome book call = observer_numbers book call ++ differences 0 book (observer_after book call)

-- the outcomes of calls in order, each on the book that those before it left
unfoldable pub observer_outcomes : Bytes → List ObserverCall → List (List ℕ)
observer_outcomes book [] = []
observer_outcomes book (call ∷ calls) =
    observer_outcome book call ∷ observer_outcomes (observer_after book call) calls

-- the outcomes of frames, each delivered to the same book
unfoldable pub deliveries : Bytes → List Bytes → List (List ℕ)
deliveries book frames = map (λ frame. observer_outcome book (observer_delivery frame)) frames

-- ---- calls with what is expected of them
-- the bytes that a call is lent, after it
unfoldable pub observer_buffer : Bytes → ObserverCall → Bytes
observer_buffer book (observer_opening way n heights) = []
observer_buffer book (observer_delivery frame) = []
observer_buffer book observer_moving = []
observer_buffer book observer_sizing = []
observer_buffer book (observer_reading buffer) = observer_read_buffer stand_in book buffer

-- a call on a book: its numbers, the parts of the book that it changed by their places, and the lent bytes after it
pub record Observed : Type 0 where
  pub book : Bytes
  pub call : ObserverCall
  pub numbers : List ℕ
  pub changes : List (ℕ × Bytes)
  pub buffer : Bytes

-- a call is as expected
unfoldable pub is_observed : Observed → Bool
is_observed x = all_of
    (same (observer_numbers x.book x.call) x.numbers ∷
    same (observer_after x.book x.call) (changed x.changes x.book) ∷
    same (observer_buffer x.book x.call) x.buffer ∷ [])

-- ---- soundness
unfoldable pub observes : Bytes → Bool
observes book = observer_sound stand_in book

-- the values of one byte that leave a book sound
unfoldable pub observes_with : Bytes → ℕ → List ℕ → List ℕ
observes_with book place values = passing (λ x. observes (splice place (x ∷ []) book)) values

-- ---- blocks
-- the block of a height on no parent, with the entry of a number
unfoldable pub first_block : ℕ → ℕ → Bytes
first_block h number = h ∷ 0 ∷ 0 ∷ 0 ∷ 1 ∷ (zeros 43 ++ (entry number ++ zeros 112))

-- the block of a height on a parent, with the entries of a number and of another one
unfoldable pub next_block : (h parent : ℕ) → Bytes → (number another : ℕ) → Bytes
next_block h parent block number another =
    h ∷ 0 ∷ parent ∷ 0 ∷ 2 ∷ (zeros 11 ++ (stand_in block ++ (entry number ++ (entry another ++ zeros 96))))

-- ---- books
-- the head: n, H and the finalized height; edition 2, and each replica weighs 1
unfoldable pub observer_head : (n heights finalized : ℕ) → Bytes
observer_head n heights finalized =
    n ∷ 0 ∷ heights ∷ 0 ∷ 0 ∷ finalized ∷ 0 ∷ 2 ∷ (one_bytes n ++ zeros (56 - 2 * n))

-- a height's contents: state, and the masks of the certificate, dummies and finalizes, of replicas below 8
unfoldable pub observed_content : (status certificate dummies finalizes : ℕ) → Bytes
observed_content status certificate dummies finalizes =
    status ∷ 0 ∷ certificate ∷ 0 ∷ dummies ∷ 0 ∷ finalizes ∷ 0 ∷ []

-- a new book
unfoldable pub new_book : (n heights : ℕ) → Bytes
new_book n heights = observer_head n heights 0 ++ zeros (184 * heights)

-- Four replicas, three heights: a block at height 1, a dummy at height 2, and at height 3 a block on the first one; the
-- log is still empty. Contents begin at 64, 72 and 80, blocks at 88, 264 and 440; the book ends at 616.
unfoldable pub lowest : Bytes
lowest = first_block 1 7

unfoldable pub highest : Bytes
highest = next_block 3 1 lowest 5 6

unfoldable pub season : Bytes
season =
    observer_head 4 3 0 ++
    (observed_content 2 7 0 7 ++ (observed_content 0 0 7 0 ++ (observed_content 2 13 0 11 ++
    (lowest ++ (zeros 176 ++ highest)))))

-- the same with the log that ends at a height
unfoldable pub season_to : ℕ → Bytes
season_to g = splice 5 (g ∷ []) season

-- another block of height 1, and one of height 2
unfoldable pub other : Bytes
other = first_block 1 8

unfoldable pub middle : Bytes
middle = first_block 2 9

-- the entries of its log
unfoldable pub season_entries : Bytes
season_entries = entry 7 ++ (entry 5 ++ entry 6)

-- a book that is not sound: its current height is 1
unfoldable pub damaged : Bytes
damaged = splice 4 (1 ∷ []) season

-- the new book of a replica, 2 of four, with three heights that replica 3 leads
unfoldable pub replica_book : Bytes
replica_book = after (replicate 3216 9) (opening (one_each 4) 4 2 3 (3 ∷ 3 ∷ 3 ∷ []) ∷ [])

-- a frame with another byte at a place
unfoldable pub with_byte : ℕ → ℕ → Bytes → Bytes
with_byte place value frame = splice place (value ∷ []) frame

unfoldable pub observer_tools : Unit {0}
unfolding state_tools observer_numbers observer_after observer_outcome observer_outcomes deliveries observer_buffer
    is_observed observes observes_with first_block next_block observer_head observed_content new_book lowest highest season
    season_to other middle season_entries damaged replica_book with_byte
observer_tools = tt
