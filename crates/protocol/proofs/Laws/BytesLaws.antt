-- Byte strings in three parts, equal pieces joined, and lists whose numbers are all bytes.
use Rattle.std.specs.Prelude.{ℕ, zero, suc, ◌+◌, ◌-◌, ◌*◌, ◌/◌, ◌%◌, ◌≤◌, ◌<◌, ◌≡◌, refl, ◌⊎◌, true, [], ◌∷◌, ◌++◌, take, set}
use native.Mathlib.Omega.{arith}
use Rattle.std.proofs.Math.Nat.{add_assoc, add-zero}
use Rattle.std.proofs.Common.{zero-add, suc-add, add-one, sym, ◌∙◌, inl, inr, append_assoc, append-nil, lit<, length-append, length-take, drop_of_length-le, take-take, drop_at, drop-cons, drop-drop, length-take-le}
use Rattle.std.proofs.Math.Path.{ap}
use Rattle.std.proofs.Math.ListN.{length, drop, length-drop, get_or-append}
use Rattle.std.proofs.lemmas.List.{length-replicate, replicate-append-replicate, set-append_left, set_split}
use Rattle.std.proofs.Math.Seq.{paste, take-length, take-append-le, take-append-add, take-append_seam, drop-append-add, drop-append-le, get_or-drop, get_or-take, get_or-append-add}
use Rattle.std.proofs.lemmas.List.Edits.{sets-eq}
use Rattle.protocol.specs.Bytes.{Bytes, byte_at, word16, le16, part, zeros, is_zero, AreBytes, put}
use Rattle.protocol.proofs.Laws.RowLaws.{is_zero_zeros}

pub are_bytes_take : (k : ℕ) (bytes : Bytes) → AreBytes bytes → AreBytes (take k bytes)
are_bytes_take zero bytes small i = lit< tt
are_bytes_take (suc k) [] small i = lit< tt
are_bytes_take (suc k) (x ∷ xs) small zero = small zero
are_bytes_take (suc k) (x ∷ xs) small (suc i) = are_bytes_take k xs (λ j. small (suc j)) i

pub are_bytes_drop : (k : ℕ) (bytes : Bytes) → AreBytes bytes → AreBytes (drop k bytes)
are_bytes_drop k bytes small i = rw get_or-drop (small (k + i))

-- ---- 16-bit numbers
pub low_byte : (a b : ℕ) → a < 256 → (a + 256 * b) % 256 ≡ a
low_byte a b h = omega arith

pub high_byte : (a b : ℕ) → a < 256 → (a + 256 * b) / 256 ≡ b
high_byte a b h = omega arith

pub word_low : (bytes : Bytes) (i : ℕ) → AreBytes bytes → word16 bytes i % 256 ≡ byte_at bytes i
unfolding word16
word_low bytes i small = low_byte (byte_at bytes i) (byte_at bytes (i + 1)) (small i)

pub word_high : (bytes : Bytes) (i : ℕ) → AreBytes bytes → word16 bytes i / 256 ≡ byte_at bytes (i + 1)
unfolding word16
word_high bytes i small = high_byte (byte_at bytes i) (byte_at bytes (i + 1)) (small i)

-- the two bytes of a number are read as the number
pub word16_le16 : (x : ℕ) → x % 256 + 256 * (x / 256) ≡ x
word16_le16 x = omega arith

-- ---- zero bytes
pub length_zeros : (count : ℕ) → length (zeros count) ≡ count
unfolding zeros
length_zeros count = length-replicate count 0

pub zeros_add : (a b : ℕ) → zeros a ++ zeros b ≡ zeros (a + b)
unfolding zeros
zeros_add a b = replicate-append-replicate a b 0

-- ---- parts
pub length_part : (bytes : Bytes) (i k : ℕ) → i + k ≤ length bytes → length (part bytes i k) ≡ k
unfolding part
length_part bytes i k h = length-take-le k (drop i bytes) (rw length-drop (omega arith))

pub byte_part : (bytes : Bytes) (i k j : ℕ) → j < k → byte_at (part bytes i k) j ≡ byte_at bytes (i + j)
unfolding part
byte_part bytes i k j h = rw (get_or-take k (drop i bytes) j 0 h, get_or-drop)

pub word_part : (bytes : Bytes) (i k j : ℕ) → j + 1 < k → word16 (part bytes i k) j ≡ word16 bytes (i + j)
unfolding word16
word_part bytes i k j h = rw (byte_part bytes i k j (omega arith), byte_part bytes i k (j + 1) h, ← add_assoc i j 1)

take_drop : (m k i : ℕ) (bytes : Bytes) → m + i ≤ k → take m (drop i (take k bytes)) ≡ take m (drop i bytes)
take_drop m k zero bytes h = take-take m k bytes (omega arith)
take_drop m zero (suc i) bytes h = absurd (omega arith)
take_drop m (suc k) (suc i) [] h = refl
take_drop m (suc k) (suc i) (x ∷ xs) h = take_drop m k i xs (omega arith)

-- a part of a part
pub part_part : (bytes : Bytes) (i k j m : ℕ) → j + m ≤ k → part (part bytes i k) j m ≡ part bytes (i + j) m
unfolding part
part_part bytes i k j m h = take_drop m k j (drop i bytes) (omega arith) ∙ rw drop-drop

pub zero_part : (bytes : Bytes) (i k : ℕ) → i + k ≤ length bytes → is_zero (part bytes i k) ≡ true →
    part bytes i k ≡ zeros k
zero_part bytes i k h e = is_zero_zeros (part bytes i k) e ∙ ap zeros (length_part bytes i k h)

-- ---- bytes spelled out
abbrev pub firsts : ℕ → ℕ → Bytes → Bytes
firsts zero i bytes = []
firsts (suc k) i bytes = byte_at bytes i ∷ firsts k (suc i) bytes

pub spell : (k i : ℕ) (bytes : Bytes) → i + k ≤ length bytes → drop i bytes ≡ firsts k i bytes ++ drop (i + k) bytes
spell zero i bytes h = rw add-zero
spell (suc k) i bytes h =
    let e : i + suc k ≡ suc i + k = omega arith in
    rw (drop-cons bytes i 0 (omega arith), e) (ap (λ (l : Bytes). byte_at bytes i ∷ l)
    (spell k (suc i) bytes (omega arith)))

pub length_put : (bytes : Bytes) (i : ℕ) (new : Bytes) → i + length new ≤ length bytes →
    length (put bytes i new) ≡ length bytes
unfolding put
length_put bytes i new h = simp (length-append, length-take, length-drop) (omega arith)

pub put_front : (old rest new : Bytes) → length old ≡ length new → put (old ++ rest) 0 new ≡ new ++ rest
unfolding put
put_front old rest new e = rw (zero-add, drop_at old rest (length new) e)

-- bytes after a front part
pub put_at : (front rest new : Bytes) (k : ℕ) → length front ≡ k →
    put (front ++ rest) k new ≡ front ++ (new ++ drop (length new) rest)
unfolding put
put_at front rest new k size = rw (← size, take-append_seam, drop-append-add)

pub put_paste : (bytes new : Bytes) (i : ℕ) → paste bytes i new (length new) ≡ put bytes i new
unfolding put
put_paste bytes new i = rw take-length (append_assoc (take i bytes) new (drop (i + length new) bytes))

-- all the bytes
pub put_all : (old new : Bytes) → length old ≡ length new → put old 0 new ≡ new
unfolding put
put_all old new e = rw (zero-add, drop_of_length-le old {i = length new} (omega arith)) (append-nil new)

-- bytes past a front part
pub put_after : (front rest : Bytes) (k : ℕ) → length front ≡ k → (j : ℕ) (new : Bytes) →
    put (front ++ rest) (k + j) new ≡ front ++ put rest j new
unfolding put
put_after front rest k size j new =
    rw (← size, take-append-add, add_assoc (length front) j (length new), drop-append-add)
    (append_assoc front (take j rest) (new ++ drop (j + length new) rest))

-- one byte, and the two bytes of a number
pub put_byte : (bytes : Bytes) (i v : ℕ) → i < length bytes → put bytes i (v ∷ []) ≡ set bytes i v
unfolding put
put_byte bytes i v h = rw (add-one i) (sym (set_split bytes i v h))

pub put_word : (bytes : Bytes) (i v : ℕ) → i + 1 < length bytes →
    put bytes i (le16 v) ≡ set (set bytes i (v % 256)) (i + 1) (v / 256)
unfolding put le16
put_word bytes i v h =
    rw (add-one i) (sym (sets-eq (v % 256 ∷ v / 256 ∷ []) bytes i (omega arith)
    ∙ append_assoc (take i bytes) (v % 256 ∷ v / 256 ∷ []) (drop (i + 2) bytes)))

set_append_add : (xs ys : Bytes) (i v : ℕ) → set (xs ++ ys) (length xs + i) v ≡ xs ++ set ys i v
set_append_add [] ys i v = rw zero-add
set_append_add (x ∷ xs) ys i v = rw suc-add (ap (λ (l : Bytes). x ∷ l) (set_append_add xs ys i v))

-- ---- a middle part is read and written where it stands
module _ (front middle back : Bytes) (k : ℕ) (size : length front ≡ k) where
  pub middle_part : (j m : ℕ) → j + m ≤ length middle → part (front ++ (middle ++ back)) (k + j) m ≡ part middle j m
  unfolding part
  middle_part j m h =
      let h₁ : j ≤ length middle = omega arith in
      let h₂ : m ≤ length (drop j middle) = rw length-drop (omega arith) in
      rw (← size, drop-append-add, drop-append-le j middle back h₁, take-append-le m (drop j middle) back h₂)

  pub middle_set : (j v : ℕ) → j < length middle →
      set (front ++ (middle ++ back)) (k + j) v ≡ front ++ (set middle j v ++ back)
  middle_set j v h = rw (← size, set_append_add, set-append_left)

  pub middle_put : (j : ℕ) (new : Bytes) → j + length new ≤ length middle →
      put (front ++ (middle ++ back)) (k + j) new ≡ front ++ (put middle j new ++ back)
  unfolding put
  middle_put j new h =
      let h₁ : j ≤ length middle = omega arith in
      rw (
        ← size,
        take-append-add,
        add_assoc (length front) j (length new),
        drop-append-add,
        take-append-le j middle back h₁,
        drop-append-le (j + length new) middle back h,
      )
      (simp append_assoc)

-- ---- the other bytes keep their values, and the new ones are read back
module _ (bytes new : Bytes) (i : ℕ) (fits : i + length new ≤ length bytes) where
  before_size : length (take i bytes) ≡ i
  before_size = simp length-take (omega arith)

  put_below : (k : ℕ) → k < i → byte_at (put bytes i new) k ≡ byte_at bytes k
  unfolding put
  put_below k below =
      let s = before_size in
      get_or-append (take i bytes) (new ++ drop (i + length new) bytes) 0 k (omega arith) ∙
      get_or-take i bytes k 0 below

  put_above : (m : ℕ) → byte_at (put bytes i new) (i + (length new + m)) ≡ byte_at bytes (i + (length new + m))
  unfolding put
  put_above m =
      let past = get_or-append-add (take i bytes) (new ++ drop (i + length new) bytes) (length new + m) 0 in
      rw before_size at past ∙ get_or-append-add new (drop (i + length new) bytes) m 0 ∙
      get_or-drop (i + length new) bytes m 0
      ∙ ap (λ (p : ℕ). byte_at bytes p) (let e : i + length new + m ≡ i + (length new + m) = omega arith in e)

  pub put_other : (k : ℕ) → (k < i) ⊎ (i + length new ≤ k) → byte_at (put bytes i new) k ≡ byte_at bytes k
  put_other k (inl below) = put_below k below
  put_other k (inr above) =
      let e : i + (length new + (k - (i + length new))) ≡ k = omega arith in
      rw e at (put_above (k - (i + length new)))

  pub put_there : part (put bytes i new) i (length new) ≡ new
  unfolding put
  put_there =
      let inner = middle_part (take i bytes) new (drop (i + length new) bytes) i before_size 0 (length new)
      (omega arith) in
      rw add-zero at inner ∙ unfold part in take-length new
