-- What the bytes of an observer's book say, place by place, and when they are the bytes of the state that they say.
use Prim.Native.Nat.{ℕ, zero, suc, ◌+◌, ◌*◌, ◌≤◌, ◌<◌}
use native.Mathlib.Omega.{arith}
use Rattle.std.proofs.Math.Nat.{add_assoc}
use Rattle.std.proofs.Common.{le_of_suc-le-suc, not-suc-le-zero, sym, ap, ◌∙◌, take-append-drop, drop_of_length-le, take-add, length-take-le}
use Rattle.std.specs.Prelude.{◌≡◌, refl, true, List, [], ◌∷◌, ◌++◌, map, get_or, take, drop}
use Rattle.std.proofs.Math.ListN.{length, length-drop}
use Rattle.std.proofs.lemmas.List.{length-map}
use Rattle.std.proofs.Math.Seq.{take_all, drop-drop, get_or-drop}
use Rattle.protocol.specs.SoundState.{Shaped}
use Rattle.protocol.specs.Every.{Every, none, one}
use Rattle.protocol.specs.Bytes.{Bytes, byte_at, le16, part, is_zero, join, pieces, AreBytes, Sized}
use Rattle.protocol.specs.State.{at, last, head_bytes, book_heights, book_current, head_unused}
use Rattle.protocol.proofs.Laws.HeadLaws.{weights_weighed, rest_back, heights_back, current_back, finalized_back}
use Rattle.protocol.proofs.Laws.HeadLaws.{head_spelled}
use Rattle.protocol.proofs.Laws.HeadLaws.{head_unused_lem, head_current}
use Rattle.protocol.specs.Observer.{Observer, ObservedHeight, as_replica, as_replica_height, decode_observer}
use Rattle.protocol.specs.Observer.{decode_observed_height, decode_observed_heights, encode_observer}
use Rattle.protocol.specs.Observer.{observed_content_bytes, observed_body_bytes, observer_state}
use Rattle.protocol.specs.ObserverCalls.{new_observed_height}
use Rattle.protocol.proofs.Laws.BytesLaws.{are_bytes_take, are_bytes_drop, word_low, word_high, byte_part}
use Rattle.protocol.proofs.Laws.BytesLaws.{firsts, spell}
use Rattle.protocol.proofs.Laws.ObserverStateLaws.{ShapedObserver, at_as, last_as, shaped_as}
use Rattle.protocol.proofs.Laws.ObserverStateLaws.{contents_from, length_encode_observer, count_encode_observer}

-- the length is that of as many heights as byte 2 says
abbrev pub ExactObserver : Bytes → Type 0
ExactObserver book = length book ≡ 64 + 184 * book_heights book

-- ---- the heights of a book, from its contents and its blocks
length_observed : (count : ℕ) (contents bodies : Bytes) →
    length (decode_observed_heights (pieces 8 count contents) (pieces 176 count bodies)) ≡ count
unfolding decode_observed_heights pieces
length_observed zero contents bodies = refl
length_observed (suc count) contents bodies = ap suc (length_observed count (drop 8 contents) (drop 176 bodies))

get_observed : (count : ℕ) (contents bodies : Bytes) (i : ℕ) → i < count →
    get_or (decode_observed_heights (pieces 8 count contents) (pieces 176 count bodies)) i new_observed_height ≡
    decode_observed_height (part contents (8 * i) 8) (part bodies (176 * i) 176)
unfolding decode_observed_heights pieces part
get_observed zero contents bodies i h = absurd (not-suc-le-zero h)
get_observed (suc count) contents bodies zero h = refl
get_observed (suc count) contents bodies (suc i) h =
    let e : 8 + 8 * i ≡ 8 * suc i = omega arith in
    let f : 176 + 176 * i ≡ 176 * suc i = omega arith in
    get_observed count (drop 8 contents) (drop 176 bodies) i (le_of_suc-le-suc h)
    ∙ rw (drop-drop (8 * i) 8 contents, drop-drop (176 * i) 176 bodies, e, f)

pub count_observed : (book : Bytes) → length (decode_observer book).heights ≡ book_heights book
unfolding decode_observer
count_observed book = length_observed (book_heights book) (drop 64 book) (drop (64 + 8 * book_heights book) book)

pub last_observed : (book : Bytes) → last (observer_state book) ≡ book_heights book
last_observed book = last_as (decode_observer book) ∙ count_observed book

part_drop : (bytes : Bytes) (from i k : ℕ) → part (drop from bytes) i k ≡ part bytes (from + i) k
unfolding part
part_drop bytes from i k = rw drop-drop

-- the bytes that height `suc i` is read from
pub at_observed : (book : Bytes) (i : ℕ) → i < book_heights book →
    at (observer_state book) (suc i) ≡ as_replica_height (decode_observed_height (part book (64 + 8 * i) 8)
    (part book (64 + 8 * book_heights book + 176 * i) 176))
unfolding decode_observer
at_observed book i h =
    at_as (decode_observer book) i new_observed_height (rw count_observed h) ∙ ap as_replica_height
    (get_observed (book_heights book) (drop 64 book) (drop (64 + 8 * book_heights book) book) i h
    ∙ rw (part_drop book 64 (8 * i) 8, part_drop book (64 + 8 * book_heights book) (176 * i) 176))

-- ---- a book of the right length says a state of the right shape
bodies_shaped : (count : ℕ) (contents bodies : Bytes) → 176 * count ≤ length bodies →
    Every (Sized 176) (map observed_body_bytes (decode_observed_heights (pieces 8 count contents)
    (pieces 176 count bodies)))
unfolding decode_observed_heights decode_observed_height observed_body_bytes pieces
bodies_shaped zero contents bodies h = none
bodies_shaped (suc count) contents bodies h = one (length-take-le 176 bodies (omega arith))
    (bodies_shaped count (drop 8 contents) (drop 176 bodies) (rw length-drop (omega arith)))

pub decode_observer_shaped : (book : Bytes) → ExactObserver book → ShapedObserver (decode_observer book)
unfolding decode_observer
decode_observer_shaped book exact = record {
  weighed = weights_weighed (byte_at book 7) (byte_at book 0) (part book 8 32);
  blocks = bodies_shaped (book_heights book) (drop 64 book) (drop (64 + 8 * book_heights book) book)
      (rw length-drop (omega arith));
}

pub observer_state_shaped : (book : Bytes) → ExactObserver book → Shaped (observer_state book)
observer_state_shaped book exact = shaped_as (decode_observer book) (decode_observer_shaped book exact)

-- ---- a book whose bytes called zero are zero is the bytes of its state
pub record CleanObserver (book : Bytes) : Type 0 where
  pub size : ExactObserver book
  pub own_zero : byte_at book 1 ≡ 0
  pub flags_zero : byte_at book 3 ≡ 0
  pub current_zero : book_current book ≡ 0
  pub pending_zero : byte_at book 6 ≡ 0
  pub head_zeros : is_zero (head_unused book) ≡ true
  pub content_zero : (i : ℕ) → i < book_heights book → byte_at book (64 + 8 * i + 1) ≡ 0

content_back : (content body : Bytes) → length content ≡ 8 → AreBytes content → byte_at content 1 ≡ 0 →
    observed_content_bytes (decode_observed_height content body) ≡ content
unfolding observed_content_bytes decode_observed_height le16
content_back content body l small z =
    let e : content ≡ firsts 8 0 content ++ drop 8 content = spell 8 0 content (omega arith) in
    let u : drop 8 content ≡ [] = drop_of_length-le content {i = 8} (omega arith) in
    let e₂ = word_low content 2 small in
    let e₃ = word_high content 2 small in
    let e₄ = word_low content 4 small in
    let e₅ = word_high content 4 small in
    let e₆ = word_low content 6 small in
    let e₇ = word_high content 6 small in
    cc

contents_back : (count : ℕ) (contents bodies : Bytes) → 8 * count ≤ length contents → AreBytes contents →
    ((i : ℕ) → i < count → byte_at contents (8 * i + 1) ≡ 0) →
    join (map observed_content_bytes (decode_observed_heights (pieces 8 count contents) (pieces 176 count bodies))) ≡
    take (8 * count) contents
unfolding join decode_observed_heights pieces
contents_back zero contents bodies h small z = refl
contents_back (suc count) contents bodies h small z =
    let e : 8 * suc count ≡ 8 + 8 * count = omega arith in
    let first : byte_at (take 8 contents) 1 ≡ 0 = unfold part in
    (byte_part contents 0 8 1 (omega arith) ∙ z 0 (omega arith)) in
    let c = content_back (take 8 contents) (take 176 bodies) (length-take-le 8 contents (omega arith))
    (are_bytes_take 8 contents small) first in
    let r = contents_back count (drop 8 contents) (drop 176 bodies) (rw length-drop (omega arith))
    (are_bytes_drop 8 contents small)
    (λ i l. let f : 8 + (8 * i + 1) ≡ 8 * suc i + 1 = omega arith in
    get_or-drop 8 contents (8 * i + 1) 0 ∙ rw f (z (suc i) (omega arith))) in
    rw (c, r, e) (sym (take-add 8 (8 * count) contents))

bodies_back : (count : ℕ) (contents bodies : Bytes) →
    join (map observed_body_bytes (decode_observed_heights (pieces 8 count contents) (pieces 176 count bodies))) ≡
    take (176 * count) bodies
unfolding join decode_observed_heights decode_observed_height observed_body_bytes pieces
bodies_back zero contents bodies = refl
bodies_back (suc count) contents bodies =
    let e : 176 * suc count ≡ 176 + 176 * count = omega arith in
    let r = bodies_back count (drop 8 contents) (drop 176 bodies) in
    rw (r, e) (sym (take-add 176 (176 * count) bodies))

head_back : (book : Bytes) → AreBytes book → CleanObserver book → head_bytes (observer_state book) ≡ take 64 book
unfolding head_bytes as_replica decode_observer
head_back book small clean =
    let size : length book ≡ 64 + 184 * book_heights book = clean.size in
    let e = head_spelled book (omega arith) in
    let z = rest_back book (omega arith) small clean.head_zeros in
    let e₂ = heights_back book (omega arith) small clean.head_zeros in
    let e₄ = current_back book (omega arith) small clean.head_zeros in
    let e₅ = finalized_back book (omega arith) small clean.head_zeros in
    let h = count_observed book in
    let k = length-map (decode_observer book).heights as_replica_height in
    let own = clean.own_zero in
    let flags = clean.flags_zero in
    let current = clean.current_zero in
    let pending = clean.pending_zero in
    cc

module _ (book : Bytes) (small : AreBytes book) (clean : CleanObserver book) where
  from_bodies : join (map observed_body_bytes (decode_observer book).heights) ≡ drop (64 + 8 * book_heights book) book
  unfolding decode_observer
  from_bodies =
      let size : length book ≡ 64 + 184 * book_heights book = clean.size in
      bodies_back (book_heights book) (drop 64 book) (drop (64 + 8 * book_heights book) book)
      ∙ take_all (176 * book_heights book) (drop (64 + 8 * book_heights book) book) (rw length-drop (omega arith))

  from_contents : join (map observed_content_bytes (decode_observer book).heights) ++
      join (map observed_body_bytes (decode_observer book).heights) ≡ drop 64 book
  unfolding decode_observer
  from_contents =
      let size : length book ≡ 64 + 184 * book_heights book = clean.size in
      rw (
        from_bodies,
        contents_back (book_heights book) (drop 64 book) (drop (64 + 8 * book_heights book) book)
            (rw length-drop (omega arith)) (are_bytes_drop 64 book small)
            (λ i l. get_or-drop 64 book (8 * i + 1) 0 ∙ rw (← add_assoc 64 (8 * i) 1) (clean.content_zero i l)),
        ← drop-drop (8 * book_heights book) 64 book,
      )
      (take-append-drop (8 * book_heights book) (drop 64 book))

  pub clean_observer_back : encode_observer (decode_observer book) ≡ book
  unfolding encode_observer
  clean_observer_back = rw (head_back book small clean, from_contents) (take-append-drop 64 book)

-- ---- the bytes of an observer of the right shape are those of a clean book
contents_zero : (xs : List ObservedHeight) (rest : Bytes) (i : ℕ) → i < length xs →
    byte_at (join (map observed_content_bytes xs) ++ rest) (8 * i + 1) ≡ 0
unfolding join observed_content_bytes le16
contents_zero [] rest i h = absurd (not-suc-le-zero h)
contents_zero (x ∷ xs) rest zero h = refl
contents_zero (x ∷ xs) rest (suc i) h =
    let e : 8 * suc i + 1 ≡ 8 + (8 * i + 1) = omega arith in
    rw e (sym (get_or-drop 8 (join (map observed_content_bytes (x ∷ xs)) ++ rest) (8 * i + 1) 0)
    ∙ contents_zero xs rest i (le_of_suc-le-suc h))

module _ (o : Observer) (shaped : ShapedObserver o) where
  content_zero_at : (i : ℕ) → i < length o.heights → byte_at (encode_observer o) (64 + 8 * i + 1) ≡ 0
  content_zero_at i h =
      let e : 64 + 8 * i + 1 ≡ 64 + (8 * i + 1) = omega arith in
      rw e (sym (get_or-drop 64 (encode_observer o) (8 * i + 1) 0)
      ∙ rw (contents_from o shaped) (contents_zero o.heights _ i h))

  pub clean_encode_observer : CleanObserver (encode_observer o)
  unfolding encode_observer head_bytes as_replica
  clean_encode_observer = record {
    size = length_encode_observer o shaped ∙ rw (count_encode_observer o shaped);
    own_zero = refl;
    flags_zero = refl;
    current_zero = head_current (as_replica o) _;
    pending_zero = refl;
    head_zeros = head_unused_lem (as_replica o) _;
    content_zero = λ i h. content_zero_at i (rw (count_encode_observer o shaped) at h);
  }
