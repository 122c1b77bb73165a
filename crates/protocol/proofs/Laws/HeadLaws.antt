-- The head of a book, of replicas and observers alike: its weights are read back, and its bytes are those of the state
-- that they say where what its edition calls zero is zero.
use Rattle.std.specs.Prelude.{ℕ, zero, suc, ◌+◌, ◌-◌, ◌*◌, ◌≤◌, ◌<◌, ◌≡◌, Bool, get_or, set, length, drop, replicate}
use native.Mathlib.Omega.{arith}
use Rattle.std.proofs.Math.Path.{refl, sym}
use Rattle.std.proofs.Common.{ap, ap₂, subst, ◌∙◌, eqb-true, drop_of_length-le, length-append, length-drop, get_or-take, take_at, take-take, length-take-le}
use Rattle.std.proofs.Math.Bool.{true, false, cond}
use Rattle.std.proofs.lemmas.Bool.{false≢true}
use mathlib.Core.List.{List, [], ◌∷◌, ◌++◌, map, append_assoc, append-nil}
use Rattle.std.proofs.Math.Dec.{eqb}
use native.Mathlib.Nat.{add-zero, le_of_suc-le-suc, not-suc-le-zero}
use Rattle.std.proofs.Math.ListN.{take, get_or-append}
use Rattle.std.proofs.lemmas.List.{length-map, length-replicate, replicate-append-replicate, get_or-replicate}
use Rattle.std.proofs.Math.Seq.{take-append-add, drop_at, take_all, take-add, drop-drop}
use Rattle.protocol.specs.SoundState.{Weighed}
use Rattle.protocol.specs.Every.{Every, none, one}
use Rattle.protocol.specs.Bytes.{Bytes, byte_at, word16, le16, part, zeros, all, is_zero, join, pieces, put}
use Rattle.protocol.specs.Bytes.{AreBytes, Sized}
use Rattle.protocol.specs.State.{State, head_bytes, padded, evenly, words, weight_bytes, weights_in, book_weights}
use Rattle.protocol.specs.State.{head_unused, head_number, short_number, number_bytes, book_heights, book_current}
use Rattle.protocol.specs.State.{book_finalized, head_put, with_head}
use Rattle.protocol.proofs.Laws.RowLaws.{zeros_is_zero, is_zero_byte}
use Rattle.protocol.proofs.Laws.TestsLaws.{and_both}
use Rattle.protocol.proofs.Laws.BytesLaws.{length_zeros, zeros_add, zero_part, word16_le16, word_low, word_high}
use Rattle.protocol.proofs.Laws.BytesLaws.{are_bytes_take, are_bytes_drop, length_part, firsts, spell, word_part}
use Rattle.protocol.proofs.Laws.BytesLaws.{part_part}
use Rattle.protocol.proofs.Laws.BytesLaws.{middle_put, put_at}
use Rattle.protocol.proofs.Laws.PiecesLaws.{length_join, pieces_join, length_pieces, get_pieces, join_append}

-- ---- numbers of two bytes
words_sized : (ws : List ℕ) → Every (Sized 2) (map le16 ws)
unfolding le16
words_sized [] = none
words_sized (w ∷ ws) = one refl (words_sized ws)

words_read : (ws : List ℕ) → map (λ (w : Bytes). word16 w 0) (map le16 ws) ≡ ws
unfolding word16 le16
words_read [] = refl
words_read (w ∷ ws) = ap₂ ◌∷◌ (word16_le16 w) (words_read ws)

words_length : (ws : List ℕ) → length ws ≡ 16 → length (join (map le16 ws)) ≡ 32
words_length ws e = length_join 2 (map le16 ws) (words_sized ws) ∙ rw (length-map, e)

-- .. are read back from their bytes ..
pub words_back : (ws : List ℕ) (count : ℕ) → length ws ≡ count → words count (join (map le16 ws)) ≡ ws
unfolding words
words_back ws count e =
    let whole : pieces 2 (length (map le16 ws)) (join (map le16 ws) ++ []) ≡ map le16 ws =
    pieces_join 2 (map le16 ws) [] (words_sized ws) in
    let counted : length (map le16 ws) ≡ count = length-map ws le16 ∙ e in
    rw (subst (λ (k : ℕ). pieces 2 k (join (map le16 ws)) ≡ map le16 ws) counted (rw append-nil at whole))
    (words_read ws)

-- .. and their bytes are those that were read
word_bytes : (bytes : Bytes) → AreBytes bytes → length bytes ≡ 2 → le16 (word16 bytes 0) ≡ bytes
unfolding le16
word_bytes bytes small e =
    let two : bytes ≡ firsts 2 0 bytes ++ drop 2 bytes = spell 2 0 bytes (omega arith) in
    let over : drop 2 bytes ≡ [] = drop_of_length-le bytes {i = 2} (omega arith) in
    let low = word_low bytes 0 small in
    let high = word_high bytes 0 small in
    cc

pub words_bytes_lem : (count : ℕ) (bytes : Bytes) → AreBytes bytes → 2 * count ≤ length bytes →
    join (map le16 (words count bytes)) ≡ take (2 * count) bytes
unfolding words join pieces
words_bytes_lem zero bytes small h = refl
words_bytes_lem (suc count) bytes small h =
    let e : 2 * suc count ≡ 2 + 2 * count = omega arith in
    let first = word_bytes (take 2 bytes) (are_bytes_take 2 bytes small) (length-take-le 2 bytes (omega arith)) in
    let rest = words_bytes_lem count (drop 2 bytes) (are_bytes_drop 2 bytes small) (rw length-drop (omega arith)) in
    rw (first, rest, e) (sym (take-add 2 (2 * count) bytes))

pub words_count : (count : ℕ) (bytes : Bytes) → length (words count bytes) ≡ count
unfolding words
words_count count bytes = length-map (pieces 2 count bytes) (λ (w : Bytes). word16 w 0) ∙ length_pieces 2 count bytes

-- ---- weights
pub padded_sixteen : (ws : List ℕ) → length (padded ws) ≡ 16
unfolding padded
padded_sixteen ws =
    length-take-le 16 (ws ++ replicate 16 0) (rw (length-append, length-replicate) (omega arith))

-- the weights of the n that are there, and none of those that are absent
padded_split : (n : ℕ) (ws : List ℕ) → length ws ≡ n → n ≤ 16 → padded ws ≡ ws ++ zeros (16 - n)
unfolding padded zeros
padded_split n ws e high =
    let all : length ws + (16 - n) ≡ 16 = omega arith in
    let some : 16 - n + n ≡ 16 = omega arith in
    let cut : take {A = ℕ} (16 - n) (replicate 16 0) ≡ replicate (16 - n) 0 =
    ap (λ (k : ℕ). take {A = ℕ} (16 - n) (replicate k 0)) (sym some)
    ∙ rw (← replicate-append-replicate {A = ℕ} (16 - n) n 0)
    (take_at (replicate (16 - n) 0) (replicate n 0) (16 - n) (length-replicate (16 - n) 0)) in
    ap (λ (k : ℕ). take k (ws ++ replicate 16 0)) (sym all) ∙ take-append-add ws (replicate 16 0) (16 - n) ∙ rw cut

pub padded_front : (n : ℕ) (ws : List ℕ) → length ws ≡ n → n ≤ 16 → take n (padded ws) ≡ ws
padded_front n ws e high = rw (padded_split n ws e high) (take_at ws (zeros (16 - n)) n e)

pub padded_back : (n : ℕ) (ws : List ℕ) → length ws ≡ n → n ≤ 16 → drop n (padded ws) ≡ zeros (16 - n)
padded_back n ws e high = rw (padded_split n ws e high) (drop_at ws (zeros (16 - n)) n e)

pub weight_size : (edition : ℕ) (ws : List ℕ) → length (weight_bytes edition ws) ≡ 32
unfolding weight_bytes
weight_size edition ws = go (eqb edition 1)
  where
    go : (b : Bool) → length (cond b (zeros 32) (take 32 (join (map le16 ws) ++ zeros 32))) ≡ 32
    go true = length_zeros 32
    go false = length-take-le 32 (join (map le16 ws) ++ zeros 32) (rw (length-append, length_zeros 32) (omega arith))

-- the weights are read back
pub weights_read : (edition n : ℕ) (ws : List ℕ) → Weighed edition n ws →
    weights_in edition n (weight_bytes edition ws) ≡ ws
unfolding weights_in weight_bytes
weights_read edition n ws weighed = go (eqb edition 1) weighed.even
  where
    go : (b : Bool) → (b ≡ true → ws ≡ evenly n) →
        cond b (evenly n) (words 16 (cond b (zeros 32) (take 32 (join (map le16 ws) ++ zeros 32)))) ≡ ws
    go true e = sym (e refl)
    go false e = rw (take_at (join (map le16 ws)) (zeros 32) 32 (words_length ws weighed.sixteen))
        (words_back ws 16 weighed.sixteen)

-- 16 weights are read, and in edition 1 the n replicas weigh 1
pub weights_weighed : (edition n : ℕ) (area : Bytes) → Weighed edition n (weights_in edition n area)
unfolding weights_in evenly
weights_weighed edition n area = record { sixteen = sixteen (eqb edition 1); even = λ e. rw e }
  where
    sixteen : (b : Bool) → length (cond b (padded (replicate n 1)) (words 16 area)) ≡ 16
    sixteen true = padded_sixteen (replicate n 1)
    sixteen false = words_count 16 area

three_more : (a b c : ℕ) (rest : Bytes) → is_zero (a ∷ b ∷ c ∷ rest) ≡ true → is_zero rest ≡ true
unfolding is_zero all
three_more a b c rest e =
    (and_both (eqb c 0) (is_zero rest) (and_both (eqb b 0) (is_zero (c ∷ rest))
    (and_both (eqb a 0) (is_zero (b ∷ c ∷ rest)) e).1).1).1

-- ---- editions, as far as the head goes by them
pub data EditionCase (edition : ℕ) : Type 0 where
  first : eqb edition 1 ≡ true → eqb edition 3 ≡ false → EditionCase edition
  third : eqb edition 1 ≡ false → eqb edition 3 ≡ true → EditionCase edition
  other : eqb edition 1 ≡ false → eqb edition 3 ≡ false → EditionCase edition

pub edition_case : (edition : ℕ) → EditionCase edition
edition_case edition = go (eqb edition 1) (eqb edition 3) refl refl
  where
    go : (b c : Bool) → eqb edition 1 ≡ b → eqb edition 3 ≡ c → EditionCase edition
    go true true e f = let one = eqb-true edition 1 e in let three = eqb-true edition 3 f in absurd (omega arith)
    go true false e f = first e f
    go false true e f = third e f
    go false false e f = other e f

-- ---- the head of a state
number_size : (edition heights current finalized : ℕ) → length (number_bytes edition heights current finalized) ≡ 24
unfolding number_bytes le16
number_size edition heights current finalized = go (eqb edition 3)
  where
    go : (b : Bool) → length (cond b (le16 heights ++ (le16 current ++ (le16 finalized ++ zeros 18))) (zeros 24)) ≡ 24
    go true = let unused = length_zeros 18 in omega arith
    go false = length_zeros 24

pub head_size : (s : State) → length (head_bytes s) ≡ 64
unfolding head_bytes
head_size s =
    let weights = weight_size s.edition s.weights in
    let numbers = number_size s.edition (length s.heights) s.current s.finalized in
    simp length-append (omega arith)

-- a number is read back from where its edition has it
number_back : (b : Bool) (word x : ℕ) → (b ≡ true → word ≡ x) → cond b word (cond b 0 x) ≡ x
number_back true word x e = e refl
number_back false word x e = refl

third_numbers : (edition heights current finalized : ℕ) → eqb edition 3 ≡ true →
    number_bytes edition heights current finalized ≡ le16 heights ++ (le16 current ++ (le16 finalized ++ zeros 18))
unfolding number_bytes
third_numbers edition heights current finalized e = rw e

module _ (s : State) (more : Bytes) where
  abbrev W : Bytes
  W = weight_bytes s.edition s.weights

  abbrev N : Bytes
  N = number_bytes s.edition (length s.heights) s.current s.finalized

  abbrev B : Bytes
  B = head_bytes s ++ more

  -- the head past its first eight bytes
  head_rest : drop 8 B ≡ W ++ (N ++ more)
  unfolding head_bytes
  head_rest = append_assoc W N more

  weights_from : part B 8 32 ≡ W
  unfolding part
  weights_from = rw head_rest (take_at W (N ++ more) 32 (weight_size s.edition s.weights))

  numbers_from : part B 40 24 ≡ N
  unfolding part
  numbers_from =
      rw (← drop-drop 32 8 B, head_rest, drop_at W (N ++ more) 32 (weight_size s.edition s.weights))
      (take_at N more 24 (number_size s.edition (length s.heights) s.current s.finalized))

  edition_byte : byte_at B 7 ≡ s.edition
  unfolding head_bytes
  edition_byte = refl

  -- the three numbers
  word_from : (j : ℕ) → j + 1 < 24 → eqb s.edition 3 ≡ true →
      word16 B (40 + j) ≡ word16 (le16 (length s.heights) ++ (le16 s.current ++ (le16 s.finalized ++ zeros 18))) j
  word_from j low e =
      sym (word_part B 40 24 j low) ∙ ap (λ (bytes : Bytes). word16 bytes j)
      (numbers_from ∙ third_numbers s.edition (length s.heights) s.current s.finalized e)

  pub head_heights : book_heights B ≡ length s.heights
  unfolding head_number head_bytes short_number
  head_heights = number_back (eqb s.edition 3) (word16 B 40) (length s.heights)
      (λ e. word_from 0 (omega arith) e ∙ unfold word16 le16 in word16_le16 (length s.heights))

  pub head_current : book_current B ≡ s.current
  unfolding head_number head_bytes short_number
  head_current = number_back (eqb s.edition 3) (word16 B 42) s.current
      (λ e. word_from 2 (omega arith) e ∙ unfold word16 le16 in word16_le16 s.current)

  pub head_finalized : book_finalized B ≡ s.finalized
  unfolding head_number head_bytes short_number
  head_finalized = number_back (eqb s.edition 3) (word16 B 44) s.finalized
      (λ e. word_from 4 (omega arith) e ∙ unfold word16 le16 in word16_le16 s.finalized)

  pub head_weights : Weighed s.edition s.n s.weights → book_weights B ≡ s.weights
  head_weights weighed =
      ap (λ (area : Bytes). weights_in (byte_at B 7) (byte_at B 0) area) weights_from
      ∙ unfold head_bytes in weights_read s.edition s.n s.weights weighed

  -- what its edition calls zero
  both_from : part B 8 56 ≡ W ++ N
  both_from = split ∙ rw (weights_from, numbers_from)
    where
      split : part B 8 56 ≡ part B 8 32 ++ part B 40 24
      split = unfold part in take-add 32 24 (drop 8 B) ∙ rw (drop-drop 32 8 B)

  end_from : eqb s.edition 3 ≡ true → part B 46 18 ≡ zeros 18
  end_from e =
      sym (part_part B 40 24 6 18 (omega arith)) ∙ rw (
        numbers_from,
        third_numbers s.edition (length s.heights) s.current s.finalized e,
      )
      (unfold part le16 in take_all 18 (zeros 18) (omega (arith, length_zeros 18)))

  pub head_unused_lem : is_zero (head_unused B) ≡ true
  unfolding head_unused
  head_unused_lem = rw edition_byte (go (edition_case s.edition))
    where
      go : EditionCase s.edition → is_zero (cond (eqb s.edition 1) (part B 8 56)
          (cond (eqb s.edition 3) (byte_at B 2 ∷ byte_at B 4 ∷ byte_at B 5 ∷ part B 46 18) (part B 40 24))) ≡ true
      go (first e f) = rw (e, both_from, without_weights e, without_numbers f, zeros_add 32 24) (zeros_is_zero 56)
        where
          without_weights : eqb s.edition 1 ≡ true → W ≡ zeros 32
          without_weights e = unfold weight_bytes in rw e

          without_numbers : eqb s.edition 3 ≡ false → N ≡ zeros 24
          without_numbers e = unfold number_bytes in rw e
      go (third e f) = rw (e, f, end_from f) (unfold head_bytes short_number is_zero all in rw f (zeros_is_zero 18))
      go (other e f) = rw (e, f, numbers_from) (unfold number_bytes in rw f (zeros_is_zero 24))

-- ---- a number of the head is changed
-- the first eight bytes with one of the short numbers
abbrev first_eight : State → ℕ → ℕ → ℕ → Bytes → Bytes
first_eight s heights current finalized rest =
    s.n ∷ s.own ∷ heights ∷ s.flags ∷ current ∷ finalized ∷ s.pending_count ∷ s.edition ∷ rest

module _ (s : State) (more : Bytes) where
  abbrev F : Bytes
  F = weight_bytes s.edition s.weights

  third_head : (current finalized : ℕ) → eqb s.edition 3 ≡ true →
      head_bytes (with_head s s.flags current finalized) ++ more ≡ first_eight s 0 0 0 F ++
      ((le16 (length s.heights) ++ (le16 current ++ (le16 finalized ++ zeros 18))) ++ more)
  unfolding head_bytes with_head short_number number_bytes
  third_head current finalized e = rw e (append_assoc (first_eight s 0 0 0 F)
      (le16 (length s.heights) ++ (le16 current ++ (le16 finalized ++ zeros 18))) more)

  other_head : (current finalized : ℕ) → eqb s.edition 3 ≡ false →
      head_bytes (with_head s s.flags current finalized) ++ more ≡ first_eight s (length s.heights) current finalized
      ((F ++ zeros 24) ++ more)
  unfolding head_bytes with_head short_number number_bytes
  other_head current finalized e = rw e

  front_size : length (first_eight s 0 0 0 F) ≡ 40
  front_size = omega (arith, weight_size s.edition s.weights)

  kind_byte : (current finalized : ℕ) →
      byte_at (head_bytes (with_head s s.flags current finalized) ++ more) 7 ≡ s.edition
  unfolding head_bytes with_head
  kind_byte current finalized = refl

  pub put_finalized : (current old g : ℕ) →
      head_put 5 44 g (head_bytes (with_head s s.flags current old) ++ more) ≡
      head_bytes (with_head s s.flags current g) ++ more
  unfolding head_put
  put_finalized current old g = rw (kind_byte current old) (go (eqb s.edition 3) refl)
    where
      before : Bytes
      before = head_bytes (with_head s s.flags current old) ++ more

      go : (b : Bool) → eqb s.edition 3 ≡ b → cond b (put before 44 (le16 g)) (set before 5 g) ≡
          head_bytes (with_head s s.flags current g) ++ more
      go true e = rw (third_head current old e, third_head current g e)
          (middle_put (first_eight s 0 0 0 F) (le16 (length s.heights) ++ (le16 current ++ (le16 old ++ zeros 18))) more 40
          front_size 4 (le16 g) (unfold le16 in omega (arith, length_zeros 18)) ∙ unfold put le16 in refl)
      go false e = rw (other_head current old e, other_head current g e)

  pub put_current : (old finalized c : ℕ) →
      head_put 4 42 c (head_bytes (with_head s s.flags old finalized) ++ more) ≡
      head_bytes (with_head s s.flags c finalized) ++ more
  unfolding head_put
  put_current old finalized c = rw (kind_byte old finalized) (go (eqb s.edition 3) refl)
    where
      before : Bytes
      before = head_bytes (with_head s s.flags old finalized) ++ more

      go : (b : Bool) → eqb s.edition 3 ≡ b → cond b (put before 42 (le16 c)) (set before 4 c) ≡
          head_bytes (with_head s s.flags c finalized) ++ more
      go true e = rw (third_head old finalized e, third_head c finalized e)
          (middle_put (first_eight s 0 0 0 F) (le16 (length s.heights) ++ (le16 old ++ (le16 finalized ++ zeros 18))) more
          40 front_size 2 (le16 c) (unfold le16 in omega (arith, length_zeros 18)) ∙ unfold put le16 in refl)
      go false e = rw (other_head old finalized e, other_head c finalized e)

-- ---- a number of the head stands in a byte or in two: the other place is among the bytes called zero
module _ (book : Bytes) (long : 64 ≤ length book) (unused : is_zero (head_unused book) ≡ true) where
  -- two bytes within a part that is zero
  no_word : (i k j : ℕ) → i + k ≤ 64 → j + 1 < k → is_zero (part book i k) ≡ true → word16 book (i + j) ≡ 0
  no_word i k j within inside z =
      sym (word_part book i k j inside) ∙ unfold word16 in
      rw (is_zero_byte (part book i k) j z, is_zero_byte (part book i k) (j + 1) z)

  either_place : (byte word : ℕ) →
      (eqb (byte_at book 7) 3 ≡ true → byte_at book byte ≡ 0) → (eqb (byte_at book 7) 3 ≡ false → word16 book word ≡ 0) →
      byte_at book byte + word16 book word ≡ head_number byte word book
  unfolding head_number
  either_place byte word in-third in-other = go (eqb (byte_at book 7) 3) in-third in-other
    where
      go : (b : Bool) → (b ≡ true → byte_at book byte ≡ 0) → (b ≡ false → word16 book word ≡ 0) →
          byte_at book byte + word16 book word ≡ cond b (word16 book word) (byte_at book byte)
      go true z _ = omega (arith, z refl)
      go false _ z = omega (arith, z refl)

  no_later_word : (j : ℕ) → j + 1 < 24 → eqb (byte_at book 7) 3 ≡ false → word16 book (40 + j) ≡ 0
  unfolding head_unused
  no_later_word j inside f = go (edition_case (byte_at book 7))
    where
      go : EditionCase (byte_at book 7) → word16 book (40 + j) ≡ 0
      go (first e _) =
          let same : 8 + (32 + j) ≡ 40 + j = omega arith in
          rw same at (no_word 8 56 (32 + j) (omega arith) (omega arith) (rw e at unused))
      go (third _ e) = absurd (false≢true (sym f ∙ e))
      go (other e _) = no_word 40 24 j (omega arith) inside (rw (e, f) at unused)

  no_short_byte : eqb (byte_at book 7) 3 ≡ true → (i : ℕ) →
      byte_at (byte_at book 2 ∷ byte_at book 4 ∷ byte_at book 5 ∷ part book 46 18) i ≡ 0
  unfolding head_unused
  no_short_byte f i = go (edition_case (byte_at book 7))
    where
      go : EditionCase (byte_at book 7) → byte_at (byte_at book 2 ∷ byte_at book 4 ∷ byte_at book 5 ∷ part book 46 18) i ≡ 0
      go (first _ e) = absurd (false≢true (sym e ∙ f))
      go (third e _) = is_zero_byte _ i (rw (e, f) at unused)
      go (other _ e) = absurd (false≢true (sym e ∙ f))

  pub heights_sum : byte_at book 2 + word16 book 40 ≡ book_heights book
  heights_sum = either_place 2 40 (λ e. no_short_byte e 0) (no_later_word 0 (omega arith))

  pub current_sum : byte_at book 4 + word16 book 42 ≡ book_current book
  current_sum = either_place 4 42 (λ e. no_short_byte e 1) (no_later_word 2 (omega arith))

  pub finalized_sum : byte_at book 5 + word16 book 44 ≡ book_finalized book
  finalized_sum = either_place 5 44 (λ e. no_short_byte e 2) (no_later_word 4 (omega arith))

-- ---- a head whose bytes called zero are zero
module _ (book : Bytes) (long : 64 ≤ length book) (small : AreBytes book)
    (unused : is_zero (head_unused book) ≡ true) where
  abbrev E : ℕ
  E = byte_at book 7

  cases : {A : Type 0} →
      (eqb E 1 ≡ true → eqb E 3 ≡ false → is_zero (part book 8 56) ≡ true → A) →
      (eqb E 1 ≡ false → eqb E 3 ≡ true → is_zero (byte_at book 2 ∷ byte_at book 4 ∷ byte_at book 5 ∷ part book 46 18) ≡
      true → A) →
      (eqb E 1 ≡ false → eqb E 3 ≡ false → is_zero (part book 40 24) ≡ true → A) → A
  unfolding head_unused
  cases {A} in-first in-third in-other = go (edition_case E)
    where
      go : EditionCase E → A
      go (first e f) = in-first e f (rw e at unused)
      go (third e f) = in-third e f (rw (e, f) at unused)
      go (other e f) = in-other e f (rw (e, f) at unused)

  split : part book 8 56 ≡ part book 8 32 ++ part book 40 24
  split = unfold part in take-add 32 24 (drop 8 book) ∙ rw (drop-drop 32 8 book)

  area_back : eqb E 1 ≡ false → weight_bytes E (book_weights book) ≡ part book 8 32
  unfolding weight_bytes weights_in
  area_back e =
      let size = length_part book 8 32 (omega arith) in
      let area : join (map le16 (words 16 (part book 8 32))) ≡ part book 8 32 =
      words_bytes_lem 16 (part book 8 32) (unfold part in are_bytes_take 32 (drop 8 book) (are_bytes_drop 8 book small))
      (omega arith) ∙ take_all 32 (part book 8 32) (omega arith) in
      rw (e, area) (take_at (part book 8 32) (zeros 32) 32 size)

  word_there : (i : ℕ) → i + 2 ≤ 64 → le16 (word16 book i) ≡ part book i 2
  word_there i low =
      ap le16 (rw native.Mathlib.Nat.add-zero at (sym (word_part book i 2 0 (omega arith)))) ∙
      word_bytes (part book i 2) (unfold part in are_bytes_take 2 (drop i book) (are_bytes_drop i book small))
      (length_part book i 2 (omega arith))

  numbers_back : eqb E 3 ≡ true → is_zero (byte_at book 2 ∷ byte_at book 4 ∷ byte_at book 5 ∷ part book 46 18) ≡ true →
      number_bytes E (book_heights book) (book_current book) (book_finalized book) ≡ part book 40 24
  unfolding number_bytes head_number
  numbers_back e z = rw (
    e,
    word_there 40 (omega arith),
    word_there 42 (omega arith),
    word_there 44 (omega arith),
    ← end z,
  ) (sym parts)
    where
      end : is_zero (byte_at book 2 ∷ byte_at book 4 ∷ byte_at book 5 ∷ part book 46 18) ≡ true → part book 46 18 ≡ zeros 18
      end q = zero_part book 46 18 (omega arith) (three_more _ _ _ _ q)

      parts : part book 40 24 ≡ part book 40 2 ++ (part book 42 2 ++ (part book 44 2 ++ part book 46 18))
      parts = unfold part in (take-add 2 22 (drop 40 book) ∙ rw (drop-drop 2 40 book)
          (ap (λ (l : Bytes). take 2 (drop 40 book) ++ l) (take-add 2 20 (drop 42 book) ∙ rw (drop-drop 2 42 book)
          (ap (λ (l : Bytes). take 2 (drop 42 book) ++ l) (take-add 2 18 (drop 44 book) ∙ rw (drop-drop 2 44 book))))))

  pub rest_back : weight_bytes E (book_weights book) ++
      number_bytes E (book_heights book) (book_current book) (book_finalized book) ≡ part book 8 56
  rest_back = cases
      (λ e f z. rw (no_weights e, no_numbers f, zeros_add 32 24) (sym (zero_part book 8 56 (omega arith) z)))
      (λ e f z. rw (area_back e, numbers_back f z) (sym split))
      (λ e f z. rw (area_back e, no_numbers f, ← zero_part book 40 24 (omega arith) z) (sym split))
    where
      no_weights : eqb E 1 ≡ true → weight_bytes E (book_weights book) ≡ zeros 32
      no_weights e = unfold weight_bytes in rw e

      no_numbers : eqb E 3 ≡ false →
          number_bytes E (book_heights book) (book_current book) (book_finalized book) ≡ zeros 24
      no_numbers e = unfold number_bytes in rw e

  short_back : (byte word : ℕ) →
      (eqb E 3 ≡ true → byte_at book byte ≡ 0) → short_number E (head_number byte word book) ≡ byte_at book byte
  unfolding short_number head_number
  short_back byte word e = go (eqb E 3) e
    where
      go : (b : Bool) → (b ≡ true → byte_at book byte ≡ 0) →
          cond b 0 (cond b (word16 book word) (byte_at book byte)) ≡ byte_at book byte
      go true z = sym (z refl)
      go false z = refl

  shorts : eqb E 3 ≡ true → (byte_at book 2 ≡ 0) × (byte_at book 4 ≡ 0) × (byte_at book 5 ≡ 0)
  shorts is-third = cases
      (λ e f z. absurd (false≢true (sym f ∙ is-third)))
      (λ e f z. (is_zero_byte _ 0 z, is_zero_byte _ 1 z, is_zero_byte _ 2 z))
      (λ e f z. absurd (false≢true (sym f ∙ is-third)))

  pub heights_back : short_number E (book_heights book) ≡ byte_at book 2
  heights_back = short_back 2 40 (λ e. (shorts e).0)

  pub current_back : short_number E (book_current book) ≡ byte_at book 4
  current_back = short_back 4 42 (λ e. (shorts e).1)

  pub finalized_back : short_number E (book_finalized book) ≡ byte_at book 5
  finalized_back = short_back 5 44 (λ e. (shorts e).2)

-- the first eight bytes of a book, and the rest of its head
pub head_spelled : (book : Bytes) → 64 ≤ length book → take 64 book ≡ firsts 8 0 book ++ part book 8 56
unfolding part
head_spelled book long = ap (λ (l : Bytes). take 64 l) (spell 8 0 book (omega arith))

-- ---- the head of a book that is opened with weights
zero_words : (count : ℕ) → join (map le16 (zeros count)) ≡ zeros (2 * count)
unfolding join le16 zeros
zero_words zero = refl
zero_words (suc count) =
    let e : 2 * suc count ≡ suc (suc (2 * count)) = omega arith in
    rw (e, zero_words count)

map_append : (ws vs : List ℕ) → map le16 (ws ++ vs) ≡ map le16 ws ++ map le16 vs
map_append [] vs = refl
map_append (w ∷ ws) vs = ap (λ (l : List Bytes). le16 w ∷ l) (map_append ws vs)

pub opened_bytes : (n : ℕ) (weights : Bytes) → AreBytes weights → length weights ≡ 2 * n → n ≤ 16 →
    weight_bytes 3 (padded (words n weights)) ≡ weights ++ zeros (32 - 2 * n)
unfolding weight_bytes
opened_bytes n weights small size high =
    let given : join (map le16 (words n weights)) ≡ weights =
    words_bytes_lem n weights small (omega arith) ∙ take_all (2 * n) weights (omega arith) in
    let area : join (map le16 (padded (words n weights))) ≡ weights ++ zeros (2 * (16 - n)) =
    rw (
      padded_split n (words n weights) (words_count n weights) high,
      map_append (words n weights) (zeros (16 - n)),
      join_append (map le16 (words n weights)) (map le16 (zeros (16 - n))),
      given,
      zero_words (16 - n),
    ) in
    let whole : length (weights ++ zeros (2 * (16 - n))) ≡ 32 = simp length-append (rw length_zeros (omega arith)) in
    let rest : 2 * (16 - n) ≡ 32 - 2 * n = omega arith in
    rw (area, take_at (weights ++ zeros (2 * (16 - n))) (zeros 32) 32 whole, rest)

drop_zeros : (n k : ℕ) → n ≤ k → drop n (zeros k) ≡ zeros (k - n)
drop_zeros n k few =
    let e : n + (k - n) ≡ k = omega arith in
    ap (λ (j : ℕ). drop n (zeros j)) (sym e)
    ∙ rw (← zeros_add n (k - n)) (drop_at (zeros n) (zeros (k - n)) n (length_zeros n))

word_size : (x : ℕ) → length (le16 x) ≡ 2
unfolding le16
word_size x = refl

-- two bytes over zeros
word_over : (front : Bytes) (k : ℕ) → length front ≡ k → (x r : ℕ) →
    put (front ++ zeros (2 + r)) k (le16 x) ≡ (front ++ le16 x) ++ zeros r
word_over front k size x r =
    put_at front (zeros (2 + r)) (le16 x) k size ∙ ap (λ (l : Bytes). front ++ (le16 x ++ l)) over
    ∙ sym (append_assoc front (le16 x) (zeros r))
  where
    over : drop (length (le16 x)) (zeros (2 + r)) ≡ zeros r
    over = let e : 2 + r - 2 ≡ r = omega arith in
        rw (word_size x) (drop_zeros 2 (2 + r) (omega arith) ∙ ap zeros e)

module _ (f : Bytes) (eight : length f ≡ 8) (n : ℕ) (weights : Bytes) (small : AreBytes weights)
    (given : length weights ≡ 2 * n) (high : n ≤ 16) where
  abbrev weighed_front : Bytes
  weighed_front = f ++ weight_bytes 3 (padded (words n weights))

  weighed_size : length weighed_front ≡ 40
  weighed_size = rw (length-append f (weight_bytes 3 (padded (words n weights))))
      (omega (arith, eight, weight_size 3 (padded (words n weights))))

  weights_over : (r : ℕ) → put (f ++ zeros (56 + r)) 8 weights ≡ weighed_front ++ zeros (24 + r)
  weights_over r =
      let cut : 56 + r - 2 * n ≡ 32 - 2 * n + (24 + r) = omega arith in
      put_at f (zeros (56 + r)) weights 8 eight ∙
      rw (
        opened_bytes n weights small given high,
        given,
        drop_zeros (2 * n) (56 + r) (omega arith),
        cut,
        ← zeros_add (32 - 2 * n) (24 + r),
      )
      (simp append_assoc)

  -- the first eight bytes, then the weights, then H and the current height
  pub opened_head : (heights current r : ℕ) →
      put (put (put (f ++ zeros (56 + r)) 8 weights) 40 (le16 heights)) 42 (le16 current) ≡
      f ++ ((weight_bytes 3 (padded (words n weights)) ++ number_bytes 3 heights current 0) ++ zeros r)
  opened_head heights current r =
      let second : put (weighed_front ++ zeros (24 + r)) 40 (le16 heights) ≡
      (weighed_front ++ le16 heights) ++ zeros (22 + r) =
      ap (λ (k : ℕ). put (weighed_front ++ zeros k) 40 (le16 heights)) (two (22 + r) (24 + r) (omega arith))
      ∙ word_over weighed_front 40 weighed_size heights (22 + r) in
      let longer : length (weighed_front ++ le16 heights) ≡ 42 =
      rw (length-append weighed_front (le16 heights)) (omega (arith, weighed_size, word_size heights)) in
      let third-put : put ((weighed_front ++ le16 heights) ++ zeros (22 + r)) 42 (le16 current) ≡
      ((weighed_front ++ le16 heights) ++ le16 current) ++ zeros (20 + r) =
      ap (λ (k : ℕ). put ((weighed_front ++ le16 heights) ++ zeros k) 42 (le16 current))
      (two (20 + r) (22 + r) (omega arith)) ∙ word_over (weighed_front ++ le16 heights) 42 longer current (20 + r) in
      rw (weights_over r, second, third-put, third_numbers 3 heights current 0 refl) (ended r ∙ simp append_assoc)
    where
      two : (j k : ℕ) → k ≡ 2 + j → k ≡ 2 + j
      two j k e = e

      tail : (r : ℕ) → zeros (20 + r) ≡ le16 0 ++ (zeros 18 ++ zeros r)
      tail r =
          let e : 20 + r ≡ 2 + (18 + r) = omega arith in
          ap zeros e ∙ sym (zeros_add 2 (18 + r)) ∙ rw (← zeros_add 18 r) (unfold le16 zeros in refl)

      ended : (r : ℕ) → ((weighed_front ++ le16 heights) ++ le16 current) ++ zeros (20 + r) ≡
          ((weighed_front ++ le16 heights) ++ le16 current) ++ (le16 0 ++ (zeros 18 ++ zeros r))
      ended r = rw (tail r)

-- ---- one weight, as a reader finds it
get_word : (ps : List Bytes) (i : ℕ) → i < length ps →
    get_or (map (λ (w : Bytes). word16 w 0) ps) i 0 ≡ word16 (get_or ps i []) 0
get_word [] i h = absurd (not-suc-le-zero h)
get_word (p ∷ ps) zero h = refl
get_word (p ∷ ps) (suc i) h = get_word ps i (le_of_suc-le-suc h)

pub word_at : (count : ℕ) (bytes : Bytes) (s : ℕ) → s < count → get_or (words count bytes) s 0 ≡ word16 bytes (2 * s)
unfolding words
word_at count bytes s low =
    let many = length_pieces 2 count bytes in
    let place : 2 * s + 0 ≡ 2 * s = omega arith in
    get_word (pieces 2 count bytes) s (omega (arith, many, low))
    ∙ rw (get_pieces 2 count bytes s low) (word_part bytes (2 * s) 2 0 (omega arith) ∙ rw place)

one_at : (n s : ℕ) → s < n → n ≤ 16 → get_or (evenly n) s 0 ≡ 1
unfolding evenly
one_at n s low high =
    let size = length-replicate {A = ℕ} n 1 in
    rw (padded_split n (replicate n 1) size high)
    (get_or-append (replicate n 1) (zeros (16 - n)) 0 s (rw size low) ∙ get_or-replicate n s 1 0 low)

none_in : (bytes : Bytes) (i : ℕ) → is_zero bytes ≡ true → word16 bytes i ≡ 0
unfolding word16
none_in bytes i z = rw (is_zero_byte bytes i z, is_zero_byte bytes (i + 1) z)

-- two bytes of the head, which edition 1 has zero, and 1 more there
pub weight_at : (book : Bytes) (s : ℕ) → 64 ≤ length book → is_zero (head_unused book) ≡ true → byte_at book 0 ≤ 16 →
    s < byte_at book 0 →
    word16 book (8 + 2 * s) + cond (eqb (byte_at book 7) 1) 1 0 ≡ get_or (book_weights book) s 0
unfolding head_unused weights_in
weight_at book s long unused high low = go (edition_case (byte_at book 7))
  where
    area : get_or (words 16 (part book 8 32)) s 0 ≡ word16 book (8 + 2 * s)
    area =
        let many = length_pieces 2 16 (part book 8 32) in
        let place : 8 + 2 * s + 0 ≡ 8 + 2 * s = omega arith in
        let word : get_or (words 16 (part book 8 32)) s 0 ≡ word16 (get_or (pieces 2 16 (part book 8 32)) s []) 0 =
        unfold words in get_word (pieces 2 16 (part book 8 32)) s (omega arith) in
        word ∙
        rw (get_pieces 2 16 (part book 8 32) s (omega arith), part_part book 8 32 (2 * s) 2 (omega arith))
        (word_part book (8 + 2 * s) 2 0 (omega arith) ∙ rw place)

    none : is_zero (part book 8 56) ≡ true → word16 book (8 + 2 * s) ≡ 0
    none z = sym (word_part book 8 56 (2 * s) (omega arith)) ∙ none_in (part book 8 56) (2 * s) z

    go : EditionCase (byte_at book 7) → word16 book (8 + 2 * s) + cond (eqb (byte_at book 7) 1) 1 0 ≡
        get_or (cond (eqb (byte_at book 7) 1) (evenly (byte_at book 0)) (words 16 (part book 8 32))) s 0
    go (first e f) =
        let z : is_zero (part book 8 56) ≡ true = rw e at unused in
        rw (e, none z, one_at (byte_at book 0) s low high)
    go (third e f) = rw (e, add-zero, area)
    go (other e f) = rw (e, add-zero, area)

-- of those that are there
pub head_weighs : (book : Bytes) → 64 ≤ length book → is_zero (head_unused book) ≡ true → byte_at book 0 ≤ 16 →
    (s : ℕ) → s < byte_at book 0 →
    word16 book (8 + 2 * s) + cond (eqb (byte_at book 7) 1) 1 0 ≡ get_or (take (byte_at book 0) (book_weights book)) s 0
head_weighs book long unused high s low =
    weight_at book s long unused high low ∙ sym (get_or-take (byte_at book 0) (book_weights book) s 0 low)

pub head_weight_each : (book : Bytes) → byte_at book 0 ≤ 16 →
    length (take (byte_at book 0) (book_weights book)) ≡ byte_at book 0
head_weight_each book high =
    let sixteen = (weights_weighed (byte_at book 7) (byte_at book 0) (part book 8 32)).sixteen in
    length-take-le (byte_at book 0) (book_weights book) (rw sixteen high)
