-- The weights in a book's head (document 02, 2.6): their bytes, what they are read as in each edition, and which of
-- them are sound, of four and of sixteen replicas, and of one; and which masks are, by weight.
use Rattle.std.specs.Prelude.{ℕ, ◌+◌, ◌*◌, ◌≡◌, refl, Bool, List, [], ◌∷◌, ◌++◌, map, replicate}
use Rattle.protocol.specs.Bytes.{Bytes, zeros, le16}
use Rattle.protocol.specs.State.{padded, head_bytes, encode, decode, head_unused, with_edition}
use Rattle.protocol.specs.Sound.{view, sound}
use Rattle.protocol.specs.Open.{unweighed, weighed, start_state, new_state}
use Rattle.check_books.specs.CheckCalls.{stand_in, one_bytes, splice, first_edition}
use Rattle.check_books.specs.CheckStates.{counting, free_places, passing, state_tools}

-- ---- bytes
-- weights of four replicas, and of sixteen: below 256, whole multiples of it, and 1,000
four : List ℕ
four = 10 ∷ 256 ∷ 1000 ∷ 1 ∷ []

four_bytes : Bytes
four_bytes = 10 ∷ 0 ∷ 0 ∷ 1 ∷ 232 ∷ 3 ∷ 1 ∷ 0 ∷ []

sixteen : List ℕ
sixteen = 1 ∷ 2 ∷ 3 ∷ 255 ∷ 256 ∷ 257 ∷ 512 ∷ 1000 ∷ 999 ∷ 768 ∷ 10 ∷ 20 ∷ 30 ∷ 100 ∷ 300 ∷ 1000 ∷ []

sixteen_bytes : Bytes
sixteen_bytes =
    1 ∷ 0 ∷ 2 ∷ 0 ∷ 3 ∷ 0 ∷ 255 ∷ 0 ∷ 0 ∷ 1 ∷ 1 ∷ 1 ∷ 0 ∷ 2 ∷ 232 ∷ 3 ∷
    231 ∷ 3 ∷ 0 ∷ 3 ∷ 10 ∷ 0 ∷ 20 ∷ 0 ∷ 30 ∷ 0 ∷ 100 ∷ 0 ∷ 44 ∷ 1 ∷ 232 ∷ 3 ∷ []

unfoldable weights : Unit {0}
unfolding state_tools four four_bytes sixteen sixteen_bytes
weights = tt

-- the head of a new state of an edition, with own number 3 and flag 1
head_of : ℕ → ℕ → List ℕ → Bytes
head_of edition n given = head_bytes (start_state edition n given 3 1 [])

-- two bytes at 8 + 2 s for replica s, the low one first; absent replicas have zeros, and then zeros up to 63
heads : head_of 2 4 four ∷ head_of 2 16 sixteen ∷ head_of 2 1 (1000 ∷ []) ∷ [] ≡
    (4 ∷ 3 ∷ 0 ∷ 1 ∷ 1 ∷ 0 ∷ 0 ∷ 2 ∷ (four_bytes ++ zeros 48)) ∷
    (16 ∷ 3 ∷ 0 ∷ 1 ∷ 1 ∷ 0 ∷ 0 ∷ 2 ∷ (sixteen_bytes ++ zeros 24)) ∷
    (1 ∷ 3 ∷ 0 ∷ 1 ∷ 1 ∷ 0 ∷ 0 ∷ 2 ∷ 232 ∷ 3 ∷ zeros 54) ∷ []
unfolding weights head_of
heads = refl

-- edition 1 has no weights
first_heads : head_of 1 4 (1 ∷ 1 ∷ 1 ∷ 1 ∷ []) ∷ head_of 1 16 (replicate 16 1) ∷ [] ≡
    (4 ∷ 3 ∷ 0 ∷ 1 ∷ 1 ∷ 0 ∷ 0 ∷ 1 ∷ zeros 56) ∷ (16 ∷ 3 ∷ 0 ∷ 1 ∷ 1 ∷ 0 ∷ 0 ∷ 1 ∷ zeros 56) ∷ []
unfolding weights head_of
first_heads = refl

-- sixteen of them, filled up with zeros
padding : map padded ([] ∷ four ∷ sixteen ∷ (sixteen ++ four) ∷ []) ≡
    zeros 16 ∷ (10 ∷ 256 ∷ 1000 ∷ 1 ∷ zeros 12) ∷ sixteen ∷ sixteen ∷ []
unfolding weights
padding = refl

-- ---- and back
-- a head of edition 2 with n and these bytes from 8 on; of edition 1
head_with : ℕ → ℕ → Bytes → Bytes
head_with edition n bytes = n ∷ 0 ∷ 0 ∷ 0 ∷ 1 ∷ 0 ∷ 0 ∷ edition ∷ bytes

-- sixteen weights are read, those of absent replicas too, which a sound book has not
read : map (λ bytes. (decode bytes).weights)
    (head_with 2 4 (four_bytes ++ zeros 48) ∷ head_with 2 16 (sixteen_bytes ++ zeros 24) ∷
    head_with 2 4 (sixteen_bytes ++ zeros 24) ∷ head_with 2 4 (zeros 56) ∷
    head_with 2 4 (zeros 30 ++ (255 ∷ 255 ∷ replicate 24 9)) ∷ []) ≡
    (10 ∷ 256 ∷ 1000 ∷ 1 ∷ zeros 12) ∷ sixteen ∷ sixteen ∷ zeros 16 ∷ (zeros 15 ++ (65535 ∷ [])) ∷ []
unfolding weights head_with
read = refl

-- edition 1 is read as weights of 1 for each of its replicas, whatever bytes stand there
first_read : map (λ bytes. (decode bytes).weights)
    (head_with 1 4 (zeros 56) ∷ head_with 1 16 (zeros 56) ∷ head_with 1 1 (zeros 56) ∷
    head_with 1 4 (four_bytes ++ zeros 48) ∷ []) ≡
    (1 ∷ 1 ∷ 1 ∷ 1 ∷ zeros 12) ∷ replicate 16 1 ∷ (1 ∷ zeros 15) ∷ (1 ∷ 1 ∷ 1 ∷ 1 ∷ zeros 12) ∷ []
unfolding weights head_with
first_read = refl

-- the view has those of the book's replicas alone
viewed : map (λ bytes. (view (decode bytes)).weights)
    (head_with 2 4 (four_bytes ++ zeros 48) ∷ head_with 2 4 (sixteen_bytes ++ zeros 24) ∷
    head_with 2 16 (sixteen_bytes ++ zeros 24) ∷ head_with 1 3 (zeros 56) ∷ []) ≡
    four ∷ (1 ∷ 2 ∷ 3 ∷ 255 ∷ []) ∷ sixteen ∷ (1 ∷ 1 ∷ 1 ∷ []) ∷ []
unfolding weights head_with
viewed = refl

-- a new state has sixteen weights too, whichever way it is opened
new_weights : map (λ way. (new_state way 4 0 []).weights) (weighed four_bytes ∷ unweighed ∷ []) ≡
    (10 ∷ 256 ∷ 1000 ∷ 1 ∷ zeros 12) ∷ (1 ∷ 1 ∷ 1 ∷ 1 ∷ zeros 12) ∷ []
unfolding weights
new_weights = refl

-- ---- books
-- so many replicas with these bytes from 8 on, own number 0, one height with nothing in it; edition 2
book_of : ℕ → Bytes → Bytes
book_of n bytes = splice 8 bytes (n ∷ 0 ∷ 1 ∷ 0 ∷ 1 ∷ 0 ∷ 0 ∷ 2 ∷ zeros 1448)

is_sound : Bytes → Bool
is_sound bytes = sound stand_in bytes

-- a book's bytes are those of the state that it says, in both editions
there_and_back : map (λ book. encode (decode book))
    (book_of 4 four_bytes ∷ book_of 16 sixteen_bytes ∷ first_edition (book_of 4 four_bytes) ∷ []) ≡
    book_of 4 four_bytes ∷ book_of 16 sixteen_bytes ∷ first_edition (book_of 4 four_bytes) ∷ []
unfolding weights book_of
there_and_back = refl

-- the same state in the other edition: weights of 1 go and come
other_edition : encode (with_edition 1 (decode (book_of 4 (one_bytes 4)))) ∷
    encode (with_edition 2 (decode (first_edition (book_of 4 four_bytes)))) ∷ [] ≡
    first_edition (book_of 4 (one_bytes 4)) ∷ book_of 4 (one_bytes 4) ∷ []
unfolding weights book_of
other_edition = refl

-- the bytes that the edition calls zero: 8 to 63 in edition 1, 40 to 63 in any other
unused : map (λ edition. head_unused (head_with edition 4 (counting 8 60))) (1 ∷ 2 ∷ []) ≡
    counting 8 56 ∷ counting 40 24 ∷ []
unfolding weights head_with
unused = refl

-- ---- soundness
-- Bytes 8 to 63 with one byte larger by one: of four replicas the weights of the four, but not 1,000; of sixteen
-- theirs; bytes of absent ones, and from 40 on, never. In edition 1 none.
places : map (λ book. free_places is_sound book (counting 8 56))
    (book_of 4 four_bytes ∷ book_of 16 (one_bytes 16) ∷ book_of 1 (one_bytes 1) ∷ first_edition (book_of 4 []) ∷ []) ≡
    (8 ∷ 9 ∷ 10 ∷ 11 ∷ 14 ∷ 15 ∷ []) ∷ counting 8 32 ∷ (8 ∷ 9 ∷ []) ∷ [] ∷ []
unfolding weights book_of is_sound
places = refl

-- the weights of one replica that leave a book of n replicas sound, the others weighing 1
bounds : ℕ → ℕ → List ℕ
bounds n s = passing (λ w. is_sound (splice (8 + 2 * s) (le16 w) (book_of n (one_bytes n))))
    (0 ∷ 1 ∷ 2 ∷ 255 ∷ 256 ∷ 999 ∷ 1000 ∷ 1001 ∷ 1024 ∷ 32768 ∷ 65535 ∷ [])

-- 1 to 1,000, for each of four, and the first, a middle one and the last of sixteen; 0 alone for one that is absent
weight_bounds : map (bounds 4) (counting 0 4) ++ (map (bounds 16) (0 ∷ 9 ∷ 15 ∷ []) ++ map (bounds 4) (4 ∷ 15 ∷ [])) ≡
    replicate 7 (1 ∷ 2 ∷ 255 ∷ 256 ∷ 999 ∷ 1000 ∷ []) ++ replicate 2 (0 ∷ [])
unfolding weights book_of is_sound bounds
weight_bounds = refl

-- editions: 2 alone with weights, 1 alone without; none with a weight too few or one too many, or past byte 39
editions : map (λ book. passing (λ edition. is_sound (splice 7 (edition ∷ []) book)) (0 ∷ 1 ∷ 2 ∷ 3 ∷ 4 ∷ 255 ∷ []))
    (book_of 4 four_bytes ∷ book_of 16 sixteen_bytes ∷ book_of 4 [] ∷ book_of 16 [] ∷
    book_of 4 (one_bytes 3) ∷ book_of 4 (one_bytes 5) ∷ book_of 16 (one_bytes 15) ∷ book_of 16 (one_bytes 17) ∷
    book_of 4 (zeros 55 ++ (1 ∷ [])) ∷ []) ≡
    (2 ∷ []) ∷ (2 ∷ []) ∷ (1 ∷ []) ∷ (1 ∷ []) ∷ replicate 5 []
unfolding weights book_of is_sound
editions = refl

-- ---- masks by weight
-- 0 weighs 4 of 7; a block at height 1 with a certificate and finalizes by these masks, and a finalized height
large_and_small : (certificate finalizes finalized : ℕ) → Bytes
large_and_small certificate finalizes finalized =
    4 ∷ 0 ∷ 1 ∷ 0 ∷ 1 ∷ finalized ∷ 0 ∷ 2 ∷ 4 ∷ 0 ∷ 1 ∷ 0 ∷ 1 ∷ 0 ∷ 1 ∷
    (zeros 561 ++ (0 ∷ 2 ∷ certificate ∷ 0 ∷ 0 ∷ 0 ∷ finalizes ∷ (zeros 185 ++ (1 ∷ zeros 687))))

-- a block's certificate is a quorum, and so are the finalizes of the finalized height: 0 with any other
sound_by_weight : passing (λ mask. is_sound (large_and_small mask 0 0)) (counting 0 16) ∷
    passing (λ mask. is_sound (large_and_small 3 mask 1)) (counting 0 16) ∷
    passing (λ mask. is_sound (large_and_small 3 mask 0)) (0 ∷ 1 ∷ 14 ∷ 15 ∷ []) ∷ [] ≡
    (3 ∷ 5 ∷ 7 ∷ 9 ∷ 11 ∷ 13 ∷ 15 ∷ []) ∷ (3 ∷ 5 ∷ 7 ∷ 9 ∷ 11 ∷ 13 ∷ 15 ∷ []) ∷ (0 ∷ 1 ∷ 14 ∷ 15 ∷ []) ∷ []
unfolding weights is_sound large_and_small
sound_by_weight = refl
