-- Weights in observers' books (document 02, 2.6): the head's bytes, soundness, Open, certificates and outputs by
-- weight, and the edition, which no call changes.
use Rattle.std.specs.Prelude.{ℕ, ◌+◌, ◌*◌, ◌≡◌, refl, List, [], ◌∷◌, ◌++◌, map, replicate, take}
use Rattle.std.proofs.Math.Option.{some, none}
use Rattle.protocol.specs.Bytes.{Bytes, zeros, le16, part}
use Rattle.protocol.specs.Frame.{dummy_vote, block_certificate, dummy_certificate, finalize_certificate}
use Rattle.protocol.specs.Answer.{refusal_number}
use Rattle.protocol.specs.Open.{unweighed, weighed}
use Rattle.protocol.specs.Call.{opening, delivery, moving, sizing}
use Rattle.protocol.specs.Observer.{encode_observer, decode_observer}
use Rattle.protocol.specs.ObserverCalls.{new_observer, observer_open_call}
use Rattle.protocol.specs.ObserverCall.{ObserverCall, observer_opening, observer_delivery, observer_moving}
use Rattle.protocol.specs.ObserverCall.{observer_sizing, observer_reading, observation}
use Rattle.check_books.specs.CheckCalls.{stand_in, weighing, one_bytes, answers, after, splice, first_edition}
use Rattle.check_books.specs.CheckStates.{entry, counting, free_places, passing}
use Rattle.check_books.specs.CheckObservers.{observer_numbers, observer_after, observer_outcome, observer_outcomes}
use Rattle.check_books.specs.CheckObservers.{observes, observes_with, observed_content, lowest, middle}
use Rattle.check_books.specs.CheckObservers.{observer_tools}

-- ---- books
-- so many replicas with these bytes from 8 on and nothing kept of one height; edition 2
book_of : ℕ → Bytes → Bytes
book_of n bytes = splice 8 bytes (n ∷ 0 ∷ 1 ∷ 0 ∷ 0 ∷ 0 ∷ 0 ∷ 2 ∷ zeros 240)

-- weights 10, 256, 1,000 and 1
four_bytes : Bytes
four_bytes = 10 ∷ 0 ∷ 0 ∷ 1 ∷ 232 ∷ 3 ∷ 1 ∷ 0 ∷ []

-- 0 weighs 4 of 7; a block at height 1 with a certificate and finalizes by these masks, and a finalized height
large_and_small : (certificate finalizes finalized : ℕ) → Bytes
large_and_small certificate finalizes finalized =
    4 ∷ 0 ∷ 1 ∷ 0 ∷ 0 ∷ finalized ∷ 0 ∷ 2 ∷ 4 ∷ 0 ∷ 1 ∷ 0 ∷ 1 ∷ 0 ∷ 1 ∷
    (zeros 49 ++ (observed_content 2 certificate 0 finalizes ++ lowest))

unfoldable books : Unit {0}
unfolding observer_tools book_of four_bytes large_and_small
books = tt

-- ---- the head
-- of the bytes the weights, of sixteen replicas; in edition 1 each of the book's weighs 1
read : map (λ book. (decode_observer book).weights)
    (book_of 4 four_bytes ∷ book_of 16 (one_bytes 15 ++ (232 ∷ 3 ∷ [])) ∷ first_edition (book_of 4 []) ∷
    first_edition (book_of 16 []) ∷ []) ≡
    (10 ∷ 256 ∷ 1000 ∷ 1 ∷ zeros 12) ∷ (replicate 15 1 ++ (1000 ∷ [])) ∷ (1 ∷ 1 ∷ 1 ∷ 1 ∷ zeros 12) ∷
    replicate 16 1 ∷ []
unfolding books
read = refl

-- a new observer has sixteen weights too, whichever way its book is opened
new_weights : map (λ way. (new_observer way 4 1).weights) (weighed four_bytes ∷ unweighed ∷ []) ≡
    (10 ∷ 256 ∷ 1000 ∷ 1 ∷ zeros 12) ∷ (1 ∷ 1 ∷ 1 ∷ 1 ∷ zeros 12) ∷ []
unfolding books
new_weights = refl

-- and back to the bytes
there_and_back : map (λ book. encode_observer (decode_observer book))
    (book_of 4 four_bytes ∷ book_of 16 (one_bytes 15 ++ (232 ∷ 3 ∷ [])) ∷ first_edition (book_of 4 four_bytes) ∷ []) ≡
    book_of 4 four_bytes ∷ book_of 16 (one_bytes 15 ++ (232 ∷ 3 ∷ [])) ∷ first_edition (book_of 4 four_bytes) ∷ []
unfolding books
there_and_back = refl

-- ---- soundness
-- bytes 8 to 63 with one byte larger by one: the weights of the book's replicas, but not 1,000; in edition 1 none
places : map (λ book. free_places observes book (counting 8 56))
    (book_of 4 four_bytes ∷ book_of 16 (one_bytes 16) ∷ book_of 1 (one_bytes 1) ∷ first_edition (book_of 4 []) ∷ []) ≡
    (8 ∷ 9 ∷ 10 ∷ 11 ∷ 14 ∷ 15 ∷ []) ∷ counting 8 32 ∷ (8 ∷ 9 ∷ []) ∷ [] ∷ []
unfolding books
places = refl

-- the weights of one replica that leave a book of n replicas sound, the others weighing 1
bounds : ℕ → ℕ → List ℕ
bounds n s = passing (λ w. observes (splice (8 + 2 * s) (le16 w) (book_of n (one_bytes n))))
    (0 ∷ 1 ∷ 256 ∷ 999 ∷ 1000 ∷ 1001 ∷ 1024 ∷ 65535 ∷ [])

-- 1 to 1,000, for each of four, and the first, a middle one and the last of sixteen; 0 alone for one that is absent
weight_bounds : map (bounds 4) (counting 0 4) ++ (map (bounds 16) (0 ∷ 9 ∷ 15 ∷ []) ++ map (bounds 4) (4 ∷ 15 ∷ [])) ≡
    replicate 7 (1 ∷ 256 ∷ 999 ∷ 1000 ∷ []) ++ replicate 2 (0 ∷ [])
unfolding books bounds
weight_bounds = refl

-- editions: 2 alone with weights, 1 alone without; none with a weight too few or one too many, or past byte 39
editions : map (λ book. observes_with book 7 (0 ∷ 1 ∷ 2 ∷ 3 ∷ 4 ∷ 255 ∷ []))
    (book_of 4 four_bytes ∷ book_of 16 (one_bytes 16) ∷ book_of 4 [] ∷ book_of 16 [] ∷
    book_of 4 (one_bytes 3) ∷ book_of 4 (one_bytes 5) ∷ book_of 16 (one_bytes 17) ∷ book_of 4 (zeros 55 ++ (1 ∷ [])) ∷ []) ≡
    (2 ∷ []) ∷ (2 ∷ []) ∷ (1 ∷ []) ∷ (1 ∷ []) ∷ replicate 4 []
unfolding books
editions = refl

-- by weight a block's certificate is a quorum, and the finalizes of the finalized height: 0 with any other
sound_by_weight : observes_with (large_and_small 3 0 0) 66 (0 ∷ 1 ∷ 3 ∷ 6 ∷ 9 ∷ 14 ∷ 15 ∷ []) ∷
    observes_with (large_and_small 3 3 1) 70 (0 ∷ 1 ∷ 3 ∷ 6 ∷ 9 ∷ 14 ∷ 15 ∷ []) ∷ [] ≡
    replicate 2 (3 ∷ 9 ∷ 15 ∷ [])
unfolding books
sound_by_weight = refl

-- ---- Open
-- the refusal's number over a book of so many bytes for n replicas with these bytes of weights, and 0 where it is
-- opened
opens : (length n : ℕ) → Bytes → ℕ
opens length n bytes = refusal_number (observer_open_call (weighed bytes) (replicate length 9) n 1).answer

-- two bytes for each replica, of 4, 16 and 1: none, one weight fewer, a byte fewer, a byte more, one weight more
weight_lengths : map (λ count. opens 248 4 (take count (one_bytes 16))) (0 ∷ 4 ∷ 6 ∷ 7 ∷ 8 ∷ 9 ∷ 10 ∷ 32 ∷ []) ++
    (map (λ count. opens 248 16 (take count (one_bytes 17))) (0 ∷ 16 ∷ 30 ∷ 31 ∷ 32 ∷ 33 ∷ 34 ∷ []) ++
    map (λ count. opens 248 1 (take count (one_bytes 2))) (0 ∷ 1 ∷ 2 ∷ 3 ∷ 4 ∷ [])) ≡
    2 ∷ 2 ∷ 2 ∷ 2 ∷ 0 ∷ 2 ∷ 2 ∷ 2 ∷
    2 ∷ 2 ∷ 2 ∷ 2 ∷ 0 ∷ 2 ∷ 2 ∷
    2 ∷ 2 ∷ 0 ∷ 2 ∷ 2 ∷ []
unfolding books opens
weight_lengths = refl

-- 1 to 1,000, for each of four, and for the first, a middle one and the last of sixteen
weight_ranges : map (λ s. map (λ w. opens 248 4 (splice (2 * s) (le16 w) (one_bytes 4)))
    (0 ∷ 1 ∷ 256 ∷ 1000 ∷ 1001 ∷ 65535 ∷ [])) (counting 0 4) ++
    map (λ s. map (λ w. opens 248 16 (splice (2 * s) (le16 w) (one_bytes 16)))
    (0 ∷ 1 ∷ 256 ∷ 1000 ∷ 1001 ∷ 65535 ∷ [])) (0 ∷ 9 ∷ 15 ∷ []) ≡
    replicate 7 (2 ∷ 0 ∷ 0 ∷ 0 ∷ 2 ∷ 2 ∷ [])
unfolding books opens
weight_ranges = refl

-- 2 before 1
weight_order : opens 247 4 (one_bytes 4) ∷ opens 247 4 (one_bytes 3) ∷ opens 249 4 (zeros 8) ∷ opens 0 4 [] ∷ [] ≡
    1 ∷ 2 ∷ 2 ∷ 2 ∷ []
unfolding books opens
weight_order = refl

-- every byte of a new book; refused weights leave the bytes
opened : observer_after (replicate 248 9) (observer_opening (weighing (10 ∷ 256 ∷ 1000 ∷ 1 ∷ [])) 4 1) ∷
    observer_after (counting 0 248) (observer_opening (weighed (zeros 8)) 4 1) ∷
    observer_after (counting 0 248) (observer_opening (weighed (one_bytes 5)) 4 1) ∷ [] ≡
    (4 ∷ 0 ∷ 1 ∷ 0 ∷ 0 ∷ 0 ∷ 0 ∷ 2 ∷ 10 ∷ 0 ∷ 0 ∷ 1 ∷ 232 ∷ 3 ∷ 1 ∷ zeros 233) ∷ replicate 2 (counting 0 248)
unfolding books
opened = refl

-- what an opening opens: the weights, as they are read; nothing where it is refused
opened_for : map (λ way. (observation stand_in (zeros 248) (observer_opening way 4 1)).opens)
    (weighing (10 ∷ 256 ∷ 1000 ∷ 1 ∷ []) ∷ unweighed ∷ weighing (1 ∷ 1 ∷ 1 ∷ []) ∷ weighed (zeros 8) ∷ []) ≡
    some (10 ∷ 256 ∷ 1000 ∷ 1 ∷ []) ∷ some (1 ∷ 1 ∷ 1 ∷ 1 ∷ []) ∷ none ∷ none ∷ []
unfolding books
opened_for = refl

-- ---- certificates: 9 by weight
-- the three certificates of height 1 with a mask
certificates : ℕ → List Bytes
certificates mask = block_certificate 1 mask lowest ∷ dummy_certificate 1 mask ∷ finalize_certificate 1 mask ∷ []

-- the answers of frames, each delivered to the same book
heard : Bytes → List Bytes → List (List ℕ)
heard book frames = map (λ frame. observer_numbers book (observer_delivery frame)) frames

-- 0 weighs 4 of 7: with any other it is enough; the three others, or 0 alone, are too few
certificates_by_weight : map (λ mask. heard (book_of 4 (4 ∷ 0 ∷ 1 ∷ 0 ∷ 1 ∷ 0 ∷ 1 ∷ 0 ∷ [])) (certificates mask))
    (14 ∷ 1 ∷ 6 ∷ 0 ∷ 3 ∷ 9 ∷ 15 ∷ []) ≡
    replicate 4 (replicate 3 (9 ∷ [])) ++ replicate 3 (replicate 3 (0 ∷ 1 ∷ []))
unfolding books certificates heard
certificates_by_weight = refl

-- sixteen replicas of whom the last weighs 1,000: it is enough alone, and the fifteen others are too few
certificate_of_one : map (λ mask. heard (book_of 16 (one_bytes 15 ++ (232 ∷ 3 ∷ []))) (certificates mask))
    (32767 ∷ 32768 ∷ []) ≡ replicate 3 (9 ∷ []) ∷ replicate 3 (0 ∷ 1 ∷ []) ∷ []
unfolding books certificates heard
certificate_of_one = refl

-- the same frames over books of one n and H whose weights differ: of 1, 2 and 3, and of 0 alone; all weigh 1, in
-- edition 2 and in edition 1, or 0 weighs 9
same_heights_other_weights : map (λ book. heard book (certificates 14 ++ certificates 1))
    (book_of 4 (one_bytes 4) ∷ first_edition (book_of 4 []) ∷ book_of 4 (9 ∷ 0 ∷ 1 ∷ 0 ∷ 1 ∷ 0 ∷ 1 ∷ 0 ∷ []) ∷ []) ≡
    replicate 2 (replicate 3 (0 ∷ 1 ∷ []) ++ replicate 3 (9 ∷ [])) ++
    ((replicate 3 (9 ∷ []) ++ replicate 3 (0 ∷ 1 ∷ [])) ∷ [])
unfolding books certificates heard
same_heights_other_weights = refl

-- ---- Move: by the finalizes of 0 and another, and not by those of the three others or of 0 alone
outputs : map (λ finalizes. observer_outcome (large_and_small 9 finalizes 0) observer_moving) (3 ∷ 9 ∷ 15 ∷ 14 ∷ 1 ∷ []) ≡
    replicate 3 (0 ∷ 2 ∷ 1 ∷ 5 ∷ 1 ∷ []) ++ replicate 2 (0 ∷ 0 ∷ 0 ∷ [])
unfolding books
outputs = refl

-- a block at height 2 on no parent, over the dummies of height 1: by 0 and another it is linked; by the others not
over_dummies : ℕ → Bytes
over_dummies dummies =
    4 ∷ 0 ∷ 2 ∷ 0 ∷ 0 ∷ 0 ∷ 0 ∷ 2 ∷ 4 ∷ 0 ∷ 1 ∷ 0 ∷ 1 ∷ 0 ∷ 1 ∷
    (zeros 49 ++ (observed_content 0 0 dummies 0 ++ (observed_content 2 5 0 9 ++ (zeros 176 ++ middle))))

outputs_over_dummies : map (λ dummies. observer_outcome (over_dummies dummies) observer_moving) (3 ∷ 9 ∷ 14 ∷ 1 ∷ []) ≡
    replicate 2 (0 ∷ 2 ∷ 2 ∷ 5 ∷ 2 ∷ []) ++ replicate 2 (0 ∷ 0 ∷ 0 ∷ [])
unfolding books over_dummies
outputs_over_dummies = refl

-- ---- no call changes the edition or the weights
-- frames of each kind, refused, known and fresh, a move, a size and a reading
others : List ObserverCall
others =
    observer_delivery (dummy_vote 0 1) ∷ observer_delivery (block_certificate 1 15 lowest) ∷
    observer_delivery (dummy_certificate 1 15) ∷ observer_delivery (dummy_certificate 1 15) ∷
    observer_delivery (finalize_certificate 1 15) ∷ observer_moving ∷ observer_moving ∷ observer_sizing ∷
    observer_reading (zeros 16) ∷ []

-- bytes 7 to 63 after each of a list of calls
heads : Bytes → List ObserverCall → List Bytes
heads book [] = []
heads book (call ∷ calls) =
    let next : Bytes = observer_after book call in
    part next 7 57 ∷ heads next calls

edition_stays : map (λ book. heads book others) (first_edition (book_of 4 []) ∷ book_of 4 four_bytes ∷ []) ≡
    replicate 9 (1 ∷ zeros 56) ∷ replicate 9 (2 ∷ 10 ∷ 0 ∷ 0 ∷ 1 ∷ 232 ∷ 3 ∷ 1 ∷ zeros 49) ∷ []
unfolding books others heads
edition_stays = refl

-- what these calls answer, cut off after the first changed byte's place
others_answer : map (λ book. map (take 3) (observer_outcomes book others))
    (first_edition (book_of 4 []) ∷ book_of 4 four_bytes ∷ []) ≡
    replicate 2
    ((16 ∷ []) ∷ (0 ∷ 1 ∷ 64 ∷ []) ∷ (0 ∷ 1 ∷ 68 ∷ []) ∷ (0 ∷ 0 ∷ []) ∷ (0 ∷ 1 ∷ 70 ∷ []) ∷
    (0 ∷ 2 ∷ 1 ∷ []) ∷ (0 ∷ 0 ∷ 0 ∷ []) ∷ (0 ∷ 16 ∷ []) ∷ take 3 (entry 7) ∷ [])
unfolding books others
others_answer = refl

-- ---- a replica with the same weights that is given the same certificates answers alike
frames : List Bytes
frames = certificates 14 ++ (certificates 1 ++ (certificates 9 ++ certificates 3))

same_answers : answers (after (zeros 1456) (opening (weighing (4 ∷ 1 ∷ 1 ∷ 1 ∷ [])) 4 2 1 (3 ∷ []) ∷ []))
    (map delivery frames ++ (moving (zeros 448) ∷ sizing ∷ [])) ∷
    map (take 2) (observer_outcomes (book_of 4 (4 ∷ 0 ∷ 1 ∷ 0 ∷ 1 ∷ 0 ∷ 1 ∷ 0 ∷ []))
    (map observer_delivery frames)) ∷ [] ≡
    (replicate 6 (9 ∷ []) ++
    (replicate 3 (0 ∷ 1 ∷ []) ++
    ((0 ∷ 0 ∷ []) ∷ (0 ∷ 1 ∷ []) ∷ (0 ∷ 1 ∷ []) ∷ (0 ∷ 2 ∷ 1 ∷ []) ∷ (0 ∷ 16 ∷ []) ∷ []))) ∷
    (replicate 6 (9 ∷ []) ++
    (replicate 3 (0 ∷ 1 ∷ []) ++ ((0 ∷ 0 ∷ []) ∷ (0 ∷ 1 ∷ []) ∷ (0 ∷ 1 ∷ []) ∷ []))) ∷ []
unfolding books certificates frames
same_answers = refl
