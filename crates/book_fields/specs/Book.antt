-- What is asked of a book: that it can be read, written, is sound. Each of these rungs has the one before it.
use Rattle.std.specs.Prelude.{ℕ, ◌+◌, ◌*◌, ◌≤◌, ◌<◌, ◌≡◌, true, cond, length, get_or, replicate, eqb}
use Rattle.protocol.specs.SoundState.{SoundState}
use Rattle.protocol.specs.Bytes.{Bytes, byte_at, word16}
use Rattle.protocol.specs.Block.{maximum_heights}
use Rattle.protocol.specs.State.{State, Height, at, last, decode, encode, with_height, book_heights, book_current}
use Rattle.protocol.specs.State.{book_finalized, maximum_replicas, most_heights}
use Rattle.protocol.specs.View.{View, total_weight}
use Rattle.protocol.specs.Sound.{view, sound}
use Rattle.protocol.specs.Observer.{observer_state, decode_observer, encode_observer, observed}
use Rattle.protocol.specs.ObserverSound.{observer_sound}
use Rattle.protocol.specs.SoundObserver.{SoundObserver}
use Rattle.book_fields.specs.Kinds.{BookKind, ReplicaBook, ObserverBook}

-- ---- short names for what contracts speak of
-- what a book keeps of height `h`
abbrev pub height_in : Bytes → ℕ → Height
height_in book h = at (decode book) h

-- what an observer's book keeps of height `h`
abbrev pub observed_in : Bytes → ℕ → Height
observed_in book h = at (observer_state book) h

-- the view that a replica's book gives
abbrev pub book_view : Bytes → View
book_view book = view (decode book)

-- the book of a changed state
abbrev pub recoded : Bytes → (State → State) → Bytes
recoded book change = encode (change (decode book))

-- the book with height `h` changed
abbrev pub changed : Bytes → ℕ → (Height → Height) → Bytes
changed book h change = encode (with_height (decode book) h (change (height_in book h)))

-- an observer's book of a changed state
abbrev pub observer_recoded : Bytes → (State → State) → Bytes
observer_recoded book change = encode_observer (observed (change (observer_state book)))

-- an observer's book with height `h` changed
abbrev pub observer_changed : Bytes → ℕ → (Height → Height) → Bytes
observer_changed book h change =
    encode_observer (observed (with_height (observer_state book) h (change (observed_in book h))))

-- ---- the kinds of books
-- the state that a book of this kind says
abbrev pub state_of : BookKind → Bytes → State
state_of ReplicaBook book = decode book
state_of ObserverBook book = observer_state book

-- the view that a book of this kind gives
abbrev pub view_of : BookKind → Bytes → View
view_of ReplicaBook book = book_view book
view_of ObserverBook book = view (observer_state book)

-- the length is that of the H heights that the head says: of a replica's book
pub record Sized (book : Bytes) : Type 0 where
  pub size : length book ≡ 576 + 880 * book_heights book
  -- these follow from the definition of `decode`, and stand here for the search to find
  pub count : last (decode book) ≡ book_heights book
  pub n_byte : byte_at book 0 ≡ (decode book).n
  pub own_byte : byte_at book 1 ≡ (decode book).own
  pub flags_byte : byte_at book 3 ≡ (decode book).flags
  pub current_number : book_current book ≡ (decode book).current
  pub finalized_number : book_finalized book ≡ (decode book).finalized
  pub pending_byte : byte_at book 6 ≡ (decode book).pending_count

-- of an observer's book
pub record SizedObserver (book : Bytes) : Type 0 where
  pub size : length book ≡ 64 + 184 * book_heights book
  -- these follow from the definition of `decode_observer`, and stand here for the search to find
  pub count : last (observer_state book) ≡ book_heights book
  pub n_byte : byte_at book 0 ≡ (observer_state book).n
  pub finalized_number : book_finalized book ≡ (observer_state book).finalized

-- the same of each kind
abbrev pub SizedAs : BookKind → Bytes → Type 0
SizedAs ReplicaBook book = Sized book
SizedAs ObserverBook book = SizedObserver book

-- ---- the first rung: all that reading asks
pub record Shown (kind : BookKind) (book : Bytes) : Type 0 where
  pub sized : SizedAs kind book
  pub replicas : byte_at book 0 ≤ maximum_replicas
  pub heights : book_heights book ≤ maximum_heights
  -- H, the current and the finalized height stand in a byte or in two, by edition, and the other place is zero
  pub heights_sum : byte_at book 2 + word16 book 40 ≡ book_heights book
  pub current_sum : byte_at book 4 + word16 book 42 ≡ book_current book
  pub finalized_sum : byte_at book 5 + word16 book 44 ≡ book_finalized book
  -- a weight is in two bytes of the head; edition 1 has them zero, and each replica weighs 1 more
  pub weighs : (s : ℕ) → s < byte_at book 0 →
      word16 book (8 + 2 * s) + cond (eqb (byte_at book 7) 1) 1 0 ≡ get_or (view_of kind book).weights s 0
  pub weight_each : length (view_of kind book).weights ≡ byte_at book 0
  pub even_weights : eqb (byte_at book 7) 1 ≡ true → (view_of kind book).weights ≡ replicate (byte_at book 0) 1
  pub some_weight : 1 ≤ total_weight (view_of kind book)

-- of a replica's book
abbrev pub Readable : Bytes → Type 0
Readable book = Shown ReplicaBook book

-- of an observer's book
abbrev pub ObserverReadable : Bytes → Type 0
ObserverReadable book = Shown ObserverBook book

-- ---- the second rung: the bytes are those of the state that they say, which writing asks besides
pub record Ready (book : Bytes) : Type 0 where
  pub readable : Readable book
  pub whole : encode (decode book) ≡ book

-- of an observer's book
pub record ObserverReady (book : Bytes) : Type 0 where
  pub readable : ObserverReadable book
  pub whole : encode_observer (decode_observer book) ≡ book

-- ---- the third rung: what a call has found, with what soundness says of the state
pub record SoundBook (digest : Bytes → Bytes) (book : Bytes) : Type 0 where
  pub is_sound_lem : sound digest book ≡ true
  pub ready : Ready book
  pub state : SoundState digest (decode book)
  pub heights_most : book_heights book ≤ most_heights (byte_at book 7)
  pub finalized_high : (decode book).finalized ≤ book_heights book

-- of an observer's book
pub record SoundObserverBook (digest : Bytes → Bytes) (book : Bytes) : Type 0 where
  pub is_sound_lem : observer_sound digest book ≡ true
  pub ready : ObserverReady book
  pub state : SoundObserver digest (decode_observer book)
  pub heights_most : book_heights book ≤ most_heights (byte_at book 7)
  pub finalized_high : (observer_state book).finalized ≤ book_heights book

-- ---- height `h` is one of the book's
pub record Within (book : Bytes) (h : ℕ) : Type 0 where
  pub low : 1 ≤ h
  pub high : h ≤ book_heights book
