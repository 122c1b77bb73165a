-- What the bytes of a book say, place by place, and when they are the bytes of the state that they say.
use Prim.Native.Nat.{ℕ, zero, suc, ◌+◌, ◌-◌, ◌*◌, ◌≤◌, ◌<◌}
use native.Mathlib.Omega.{arith}
use Rattle.std.proofs.Math.Nat.{add_assoc}
use Rattle.std.proofs.Common.{le_of_suc-le-suc, not-suc-le-zero, sym, ap, ◌∙◌, inl, inr, take-append-drop, take-add, length-take-le}
use Rattle.std.specs.Prelude.{◌≡◌, refl, ◌⊎◌, true, ◌++◌, map, get_or, take, drop}
use Rattle.std.proofs.lemmas.Bool.{false≢true}
use Rattle.std.proofs.Math.ListN.{length, length-drop, get_or-eq_default}
use Rattle.std.proofs.Math.Seq.{take_all, drop-drop}
use Rattle.protocol.specs.SoundState.{ShapedHeight, Shaped}
use Rattle.protocol.specs.Bytes.{Bytes, byte_at, le16, part, zeros, is_zero, join, pieces, AreBytes}
use Rattle.protocol.specs.State.{State, no_height, at, last, is_notarized, encode, decode, head_bytes, content_bytes}
use Rattle.protocol.specs.State.{body_bytes, decode_height, decode_heights, book_heights, head_unused}
use Rattle.protocol.proofs.Laws.HeadLaws.{weights_weighed, rest_back, heights_back, current_back, finalized_back}
use Rattle.protocol.proofs.Laws.HeadLaws.{head_spelled}
use Rattle.protocol.proofs.Laws.TestsLaws.{le_or_lt}
use Rattle.protocol.proofs.Laws.EveryLaws.{every_from}
use Rattle.protocol.proofs.Laws.BytesLaws.{are_bytes_take, are_bytes_drop, word_low, word_high, length_part}
use Rattle.protocol.proofs.Laws.BytesLaws.{part_part, firsts, spell}

-- the length is that of as many heights as byte 2 says
abbrev pub Exact : Bytes → Type 0
Exact book = length book ≡ 576 + 880 * book_heights book

-- ---- the heights of a book, from its contents and its bodies
pub length_heights : (count : ℕ) (contents bodies : Bytes) →
    length (decode_heights (pieces 16 count contents) (pieces 864 count bodies)) ≡ count
unfolding decode_heights pieces
length_heights zero contents bodies = refl
length_heights (suc count) contents bodies = ap suc (length_heights count (drop 16 contents) (drop 864 bodies))

pub get_heights : (count : ℕ) (contents bodies : Bytes) (i : ℕ) → i < count →
    get_or (decode_heights (pieces 16 count contents) (pieces 864 count bodies)) i no_height ≡ decode_height
    (part contents (16 * i) 16) (part bodies (864 * i) 864)
unfolding decode_heights pieces part
get_heights zero contents bodies i h = absurd (not-suc-le-zero h)
get_heights (suc count) contents bodies zero h = refl
get_heights (suc count) contents bodies (suc i) h =
    let e : 16 + 16 * i ≡ 16 * suc i = omega arith in
    let f : 864 + 864 * i ≡ 864 * suc i = omega arith in
    get_heights count (drop 16 contents) (drop 864 bodies) i (le_of_suc-le-suc h)
    ∙ rw (drop-drop (16 * i) 16 contents, drop-drop (864 * i) 864 bodies, e, f)

pub last_decode : (book : Bytes) → last (decode book) ≡ book_heights book
unfolding last decode
last_decode book = length_heights (book_heights book) (drop 576 book) (drop (576 + 16 * book_heights book) book)

-- height `suc i` stands at place `i` of the list
pub at_suc : (s : State) (i : ℕ) → at s (suc i) ≡ get_or s.heights i no_height
unfolding at
at_suc s i = let e : suc i - 1 ≡ i = omega arith in rw e

-- heights past the last hold nothing
pub notarized_in : (s : State) (i : ℕ) → is_notarized (at s (suc i)) ≡ true → i < last s
unfolding is_notarized no_height last
notarized_in s i e = go (le_or_lt (length s.heights) i)
  where
    go : (length s.heights ≤ i) ⊎ (i < length s.heights) → i < length s.heights
    go (inl l) = absurd (false≢true (rw (at_suc s i, get_or-eq_default s.heights no_height {n = i} l) at e))
    go (inr l) = l

part_drop : (bytes : Bytes) (from i k : ℕ) → part (drop from bytes) i k ≡ part bytes (from + i) k
unfolding part
part_drop bytes from i k = rw drop-drop

-- the bytes that height `suc i` is read from
pub at_decode : (book : Bytes) (i : ℕ) → i < book_heights book →
    at (decode book) (suc i) ≡ decode_height (part book (576 + 16 * i) 16)
    (part book (576 + 16 * book_heights book + 864 * i) 864)
unfolding decode
at_decode book i h =
    at_suc (decode book) i ∙ get_heights (book_heights book) (drop 576 book) (drop (576 + 16 * book_heights book) book) i
    h ∙ rw (part_drop book 576 (16 * i) 16, part_drop book (576 + 16 * book_heights book) (864 * i) 864)

-- ---- a book of the right length says a state of the right shape
decode_height_shaped : (content body : Bytes) → length body ≡ 864 → ShapedHeight (decode_height content body)
unfolding decode_height
decode_height_shaped content body e = record {
  proposal_size = length_part body 0 176 (omega arith);
  notarized_size = length_part body 176 176 (omega arith);
  votes_size = length_part body 352 512 (omega arith);
}

pub decode_shaped : (book : Bytes) → Exact book → Shaped (decode book)
unfolding last
decode_shaped book exact = record {
  weighed = unfold decode in weights_weighed (byte_at book 7) (byte_at book 0) (part book 8 32);
  pool_size_lem = pool_size_lem;
  heights = every_from ShapedHeight no_height (decode book).heights
      (λ i h. rw (← at_suc (decode book) i) (height_shaped i (rw (last_decode book) at h)));
}
  where
    pool_size_lem : length (decode book).pool ≡ 512
    pool_size_lem = unfold decode in length_part book 64 512 (omega arith)

    height_shaped : (i : ℕ) → i < book_heights book → ShapedHeight (at (decode book) (suc i))
    height_shaped i h =
        rw (at_decode book i h) (decode_height_shaped _ _
        (length_part book (576 + 16 * book_heights book + 864 * i) 864 (omega arith)))

-- ---- a book whose bytes called zero are zero is the bytes of its state
pub record Clean (book : Bytes) : Type 0 where
  pub size : Exact book
  pub head_zeros : is_zero (head_unused book) ≡ true
  pub content_zeros_lem : (i : ℕ) → i < book_heights book → part book (576 + 16 * i + 10) 6 ≡ zeros 6

content_back : (content body : Bytes) → length content ≡ 16 → AreBytes content → part content 10 6 ≡ zeros 6 →
    content_bytes (decode_height content body) ≡ content
unfolding content_bytes decode_height le16 part
content_back content body l small z =
    let e : content ≡ firsts 10 0 content ++ drop 10 content = spell 10 0 content (omega arith) in
    let u : take 6 (drop 10 content) ≡ drop 10 content = take_all 6 (drop 10 content) (rw length-drop (omega arith)) in
    let e₂ = word_low content 2 small in
    let e₃ = word_high content 2 small in
    let e₄ = word_low content 4 small in
    let e₅ = word_high content 4 small in
    let e₆ = word_low content 6 small in
    let e₇ = word_high content 6 small in
    let e₈ = word_low content 8 small in
    let e₉ = word_high content 8 small in
    cc

body_back : (content body : Bytes) → length body ≡ 864 → body_bytes (decode_height content body) ≡ body
unfolding body_bytes decode_height part
body_back content body l =
    let e : drop 176 body ≡ take 176 (drop 176 body) ++ drop 352 body =
    sym (rw drop-drop at (take-append-drop 176 (drop 176 body))) in
    let f : take 512 (drop 352 body) ≡ drop 352 body = take_all 512 (drop 352 body) (rw length-drop (omega arith)) in
    rw (f, ← e) (take-append-drop 176 body)

contents_back : (count : ℕ) (contents bodies : Bytes) → 16 * count ≤ length contents → AreBytes contents →
    ((i : ℕ) → i < count → part contents (16 * i + 10) 6 ≡ zeros 6) →
    join (map content_bytes (decode_heights (pieces 16 count contents) (pieces 864 count bodies))) ≡ take (16 * count)
    contents
unfolding join decode_heights pieces
contents_back zero contents bodies h small z = refl
contents_back (suc count) contents bodies h small z =
    let e : 16 * suc count ≡ 16 + 16 * count = omega arith in
    let first : part (take 16 contents) 10 6 ≡ zeros 6 = unfold part in
    (part_part contents 0 16 10 6 (omega arith) ∙ z 0 (omega arith)) in
    let c = content_back (take 16 contents) (take 864 bodies) (length-take-le 16 contents (omega arith))
    (are_bytes_take 16 contents small) first in
    let r = contents_back count (drop 16 contents) (drop 864 bodies) (rw length-drop (omega arith))
    (are_bytes_drop 16 contents small)
    (λ i l. let f : 16 + (16 * i + 10) ≡ 16 * suc i + 10 = omega arith in
    part_drop contents 16 (16 * i + 10) 6 ∙ rw f (z (suc i) (omega arith))) in
    rw (c, r, e) (sym (take-add 16 (16 * count) contents))

bodies_back : (count : ℕ) (contents bodies : Bytes) → 864 * count ≤ length bodies →
    join (map body_bytes (decode_heights (pieces 16 count contents) (pieces 864 count bodies))) ≡ take (864 * count)
    bodies
unfolding join decode_heights pieces
bodies_back zero contents bodies h = refl
bodies_back (suc count) contents bodies h =
    let e : 864 * suc count ≡ 864 + 864 * count = omega arith in
    let c = body_back (take 16 contents) (take 864 bodies) (length-take-le 864 bodies (omega arith)) in
    let r = bodies_back count (drop 16 contents) (drop 864 bodies) (rw length-drop (omega arith)) in
    rw (c, r, e) (sym (take-add 864 (864 * count) bodies))

head_back : (book : Bytes) → AreBytes book → Clean book → head_bytes (decode book) ≡ take 64 book
unfolding head_bytes decode
head_back book small clean =
    let size : length book ≡ 576 + 880 * book_heights book = clean.size in
    let e = head_spelled book (omega arith) in
    let z = rest_back book (omega arith) small clean.head_zeros in
    let e₂ = heights_back book (omega arith) small clean.head_zeros in
    let e₄ = current_back book (omega arith) small clean.head_zeros in
    let e₅ = finalized_back book (omega arith) small clean.head_zeros in
    let h = length_heights (book_heights book) (drop 576 book) (drop (576 + 16 * book_heights book) book) in
    cc

module _ (book : Bytes) (small : AreBytes book) (clean : Clean book) where
  from_bodies : join (map body_bytes (decode book).heights) ≡ drop (576 + 16 * book_heights book) book
  unfolding decode
  from_bodies =
      let size : length book ≡ 576 + 880 * book_heights book = clean.size in
      bodies_back (book_heights book) (drop 576 book) (drop (576 + 16 * book_heights book) book)
      (rw length-drop (omega arith))
      ∙ take_all (864 * book_heights book) (drop (576 + 16 * book_heights book) book) (rw length-drop (omega arith))

  from_contents : join (map content_bytes (decode book).heights) ++ join (map body_bytes (decode book).heights) ≡ drop
      576 book
  unfolding decode
  from_contents =
      let size : length book ≡ 576 + 880 * book_heights book = clean.size in
      rw (
        from_bodies,
        contents_back (book_heights book) (drop 576 book) (drop (576 + 16 * book_heights book) book)
            (rw length-drop (omega arith)) (are_bytes_drop 576 book small)
            (λ i l. part_drop book 576 (16 * i + 10) 6 ∙ rw (← add_assoc 576 (16 * i) 10) (clean.content_zeros_lem i l)),
        ← drop-drop (16 * book_heights book) 576 book,
      )
      (take-append-drop (16 * book_heights book) (drop 576 book))

  from_pool : (decode book).pool ++ drop 576 book ≡ drop 64 book
  unfolding decode part
  from_pool = rw (← drop-drop 512 64 book) (take-append-drop 512 (drop 64 book))

  pub clean_back : encode (decode book) ≡ book
  unfolding encode
  clean_back = rw (head_back book small clean, from_contents, from_pool) (take-append-drop 64 book)
