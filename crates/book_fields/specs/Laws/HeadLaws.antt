-- The head of a book: what its numbers say of the current height, and what a store to one of its bytes makes of the
-- whole book.
use Rattle.std.specs.Prelude.{ℕ, ◌+◌, ◌≤◌, ◌<◌, ◌≡◌, refl, Bool, true, ◌&&◌, cond, length, set, leb, eqb}
use Rattle.std.proofs.Common.{arith, ap, ◌∙◌, true≢false, leb-true, eq-eqb, ne_eqb}
use Rattle.std.proofs.Math.Bool.{false}
use Rattle.std.proofs.Math.ListN.{length-set}
use Rattle.protocol.proofs.Laws.BytesLaws.{length_put}
use Rattle.protocol.specs.Bytes.{Bytes, byte_at, word16, le16, put}
use Rattle.protocol.specs.Tests.{in_range}
use Rattle.protocol.specs.State.{State, head_bytes, encode, decode, last, with_head, with_flag, book_heights}
use Rattle.protocol.specs.State.{head_number, head_put, most_heights}
use Rattle.protocol.specs.Move.{is_running}
use Rattle.protocol.proofs.Laws.CodecLaws.{last_decode}
use Rattle.protocol.proofs.Laws.HeadLaws.{put_current, put_finalized}
use Rattle.book_fields.specs.Book.{Within, SoundBook}

-- ---- tests
pub in_book : (book : Bytes) (h heights : ℕ) → heights ≡ book_heights book →
    (leb 1 h && leb h heights) ≡ in_range 1 (last (decode book)) h
unfolding in_range
in_book book h heights e = rw (e, last_decode book)

pub running_is : (book : Bytes) → leb (decode book).current (book_heights book) ≡ is_running (decode book)
unfolding is_running
running_is book = rw (last_decode book)

-- ---- the current height is one of the book's
pub running_high : (book : Bytes) → is_running (decode book) ≡ true → (decode book).current ≤ book_heights book
running_high book e = leb-true _ _ (rw (← running_is book) at e)

module _ {digest : Bytes → Bytes} (book : Bytes) (m : SoundBook digest book) where
  pub within_current : (decode book).current ≤ book_heights book → (c : ℕ) → c ≡ (decode book).current → Within book c
  within_current high c is = record { low = let low = m.state.current_low in omega arith; high = omega arith }

  module _ (e : is_running (decode book) ≡ true) (c : ℕ) (is : c ≡ (decode book).current) where
    pub current_high : c ≤ book_heights book
    current_high = omega (arith, running_high book e)

    pub current_within : Within book c
    current_within = within_current (running_high book e) c is

-- ---- stores
write_flags : (s : State) (flags : ℕ) →
    set (encode s) 3 flags ≡ encode (with_head s flags s.current s.finalized)
unfolding encode head_bytes with_head
write_flags s flags = refl

write_height : (s : State) (h : ℕ) → head_put 4 42 h (set (encode s) 3 0) ≡ encode (with_head s 0 h s.finalized)
write_height s h =
    ap (head_put 4 42 h) (write_flags s 0) ∙
    (unfold encode with_head in put_current (with_head s 0 s.current s.finalized) _ s.current s.finalized h)

write_finalized : (s : State) (g : ℕ) → head_put 5 44 g (encode s) ≡ encode (with_head s s.flags s.current g)
unfolding encode with_head
write_finalized s g = put_finalized s _ s.current s.finalized g

module _ (book : Bytes) (whole : encode (decode book) ≡ book) where
  pub flag_set : (flags k : ℕ) → flags ≡ (decode book).flags → set book 3 (flags + k) ≡ encode (with_flag k (decode book))
  flag_set flags k e = rw e (rw whole at (write_flags (decode book) ((decode book).flags + k)))

  pub entered : (h : ℕ) → head_put 4 42 h (set book 3 0) ≡ encode (with_head (decode book) 0 h (decode book).finalized)
  entered h = rw whole at (write_height (decode book) h)

  pub finalized_set : (g : ℕ) →
      head_put 5 44 g book ≡ encode (with_head (decode book) (decode book).flags (decode book).current g)
  finalized_set g = rw whole at (write_finalized (decode book) g)

-- ---- a number of the head, where its edition has it
module _ (short long : ℕ) (book : Bytes) where
  pub long_number : byte_at book 7 ≡ 3 → word16 book long ≡ head_number short long book
  unfolding head_number
  long_number e = rw (eq-eqb _ _ e)

  pub short_number_lem : (byte_at book 7 ≡ 3 → ⊥) → byte_at book short ≡ head_number short long book
  unfolding head_number
  short_number_lem e = rw (ne_eqb _ _ e)

  pub long_put : (x : ℕ) → byte_at book 7 ≡ 3 → put book long (le16 x) ≡ head_put short long x book
  unfolding head_put
  long_put x e = rw (eq-eqb _ _ e)

  pub short_put : (x : ℕ) → (byte_at book 7 ≡ 3 → ⊥) → set book short x ≡ head_put short long x book
  unfolding head_put
  short_put x e = rw (ne_eqb _ _ e)

-- no edition but the third has more than 63 heights
pub short_heights : (edition h : ℕ) → h ≤ most_heights edition + 1 → (h < 65536) × (eqb edition 3 ≡ false → h < 256)
unfolding most_heights
short_heights edition h = go (eqb edition 3)
  where
    go : (b : Bool) → h ≤ cond b 1000 63 + 1 → (h < 65536) × (b ≡ false → h < 256)
    go true few = (omega arith, λ e. absurd (true≢false e))
    go false few = (omega arith, λ e. omega arith)

pub put_length : (short long x : ℕ) (book : Bytes) → 64 ≤ length book → long + 2 ≤ 64 →
    length (head_put short long x book) ≡ length book
unfolding head_put
put_length short long x book room fits = go (eqb (byte_at book 7) 3)
  where
    go : (b : Bool) → length (cond b (put book long (le16 x)) (set book short x)) ≡ length book
    go true = length_put book long (le16 x) (unfold le16 in omega arith)
    go false = length-set book short x
