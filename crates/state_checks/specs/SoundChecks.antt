-- Soundness row by row: which bytes of a book's head and contents are free, both sides of each bound, at the first, a
-- middle and the last height. Each replica weighs 1; WeightChecks has other weights.
use Rattle.std.specs.Prelude.{ℕ, ◌+◌, ◌*◌, ◌≡◌, refl, Bool, true, not, List, [], ◌∷◌, ◌++◌, map, replicate, take}
use Rattle.protocol.specs.Bytes.{Bytes, zeros}
use Rattle.protocol.specs.Tests.{all_of}
use Rattle.protocol.specs.Sound.{sound}
use Rattle.check_books.specs.CheckCalls.{stand_in, one_bytes, splice, first_edition}
use Rattle.check_books.specs.CheckStates.{entry, counting, free_places, passing, state_tools}

-- ---- books, byte by byte
-- blocks of heights 1, 2 and 3, each on the one below
first : Bytes
first = 1 ∷ 0 ∷ 0 ∷ 0 ∷ 1 ∷ (zeros 43 ++ (entry 7 ++ zeros 112))

second : Bytes
second = 2 ∷ 0 ∷ 1 ∷ (zeros 13 ++ (stand_in first ++ zeros 128))

third : Bytes
third = 3 ∷ 0 ∷ 2 ∷ (zeros 13 ++ (stand_in second ++ zeros 128))

-- the contents of a height where a proposal is held and a block notarized by replicas 0, 1 and 2, who all finalized
content : ℕ → Bytes
content leader = leader ∷ 3 ∷ 7 ∷ 0 ∷ 0 ∷ 0 ∷ 7 ∷ zeros 9

-- four replicas, own number 2, three heights, current height 2, the log still empty, one pending entry
book : Bytes
book =
    4 ∷ 2 ∷ 3 ∷ 0 ∷ 2 ∷ 0 ∷ 1 ∷ 2 ∷
    (one_bytes 4 ++ (zeros 48 ++ (entry 5 ++ (zeros 496 ++
    (content 0 ++ (content 3 ++ (content 1 ++
    (first ++ (first ++ (zeros 512 ++
    (second ++ (second ++ (zeros 512 ++
    (third ++ (third ++ zeros 512)))))))))))))))

-- the same with the log of all three heights
ended : Bytes
ended = splice 5 (3 ∷ []) book

-- sixteen replicas, own number 15, one height that 15 leads, every bit of the four masks set
wide : Bytes
wide =
    16 ∷ 15 ∷ 1 ∷ 0 ∷ 1 ∷ 0 ∷ 0 ∷ 2 ∷
    (one_bytes 16 ++ (zeros 536 ++ (15 ∷ 0 ∷ (replicate 8 255 ++ zeros 870))))

-- one replica, one height
alone : Bytes
alone = 1 ∷ 0 ∷ 1 ∷ 0 ∷ 1 ∷ 0 ∷ 0 ∷ 2 ∷ 1 ∷ zeros 1447

-- four replicas, own number 2, so many heights with nothing in them
empty : ℕ → Bytes
empty heights = 4 ∷ 2 ∷ heights ∷ 0 ∷ 1 ∷ 0 ∷ 0 ∷ 2 ∷ (one_bytes 4 ++ zeros (560 + 880 * heights))

unfoldable books : Unit {0}
unfolding state_tools first second third content book ended wide alone empty
books = tt

is_sound : Bytes → Bool
is_sound bytes = sound stand_in bytes

-- ---- byte by byte
-- own number 1, the timer's flag, current height 2, a pending entry and larger weights of the four are sound; every
-- other raised byte of the head is not. In edition 1 a fifth replica is, which weighs 1 too, and no weight
head_places : map (λ bytes. free_places is_sound bytes (counting 0 64)) (empty 1 ∷ first_edition (empty 1) ∷ []) ≡
    (1 ∷ 3 ∷ 4 ∷ 6 ∷ counting 8 8) ∷ (0 ∷ 1 ∷ 3 ∷ 4 ∷ 6 ∷ []) ∷ []
unfolding books is_sound
head_places = refl

-- of each height the leader and the low bytes of the masks, here of four replicas; without blocks no other state than
-- 0
content_places : free_places is_sound (empty 3) (counting 576 48) ≡
    576 ∷ 578 ∷ 580 ∷ 582 ∷ 584 ∷ 592 ∷ 594 ∷ 596 ∷ 598 ∷ 600 ∷ 608 ∷ 610 ∷ 612 ∷ 614 ∷ 616 ∷ []
unfolding books is_sound
content_places = refl

-- each height's proposal is well formed for its height: byte 1 is zero, and byte 0 is the height; from height 2 on
-- its digest is free
proposal_places : free_places is_sound book (624 ∷ 625 ∷ 1488 ∷ 1489 ∷ 1504 ∷ 2352 ∷ 2353 ∷ 2399 ∷ []) ≡ 1504 ∷
    2399 ∷ []
unfolding books is_sound
proposal_places = refl

-- the notarized blocks by the same places; where one is finalized, their entries and digests count too
notarized_places : free_places is_sound book (800 ∷ 801 ∷ 1664 ∷ 1665 ∷ 1680 ∷ 2528 ∷ 2529 ∷ 2575 ∷ []) ≡ 1680 ∷
    2575 ∷ []
unfolding books is_sound
notarized_places = refl

linked_places : free_places is_sound ended (848 ∷ 1680 ∷ 2575 ∷ []) ≡ []
unfolding books is_sound
linked_places = refl

-- the last pending place, and the first and the last vote digest's ends
free_places_lem : free_places is_sound book (575 ∷ 976 ∷ 3215 ∷ []) ≡ 575 ∷ 976 ∷ 3215 ∷ []
unfolding books is_sound
free_places_lem = refl

-- ---- bounds
-- the values of one byte that leave a book sound
sound_with : Bytes → ℕ → List ℕ → List ℕ
sound_with bytes place values = passing (λ x. is_sound (splice place (x ∷ []) bytes)) values

-- 16 replicas and no more; own numbers below 16; below 1; without weights in the head any number of 1 to 16
replicas : sound_with wide 0 (15 ∷ 16 ∷ 17 ∷ 255 ∷ []) ∷ sound_with wide 1 (0 ∷ 15 ∷ 16 ∷ []) ∷
    sound_with alone 0 (0 ∷ 1 ∷ 2 ∷ 16 ∷ 17 ∷ []) ∷ sound_with (first_edition alone) 0 (0 ∷ 1 ∷ 2 ∷ 16 ∷ 17 ∷ 255 ∷ []) ∷
    sound_with alone 1 (0 ∷ 1 ∷ []) ∷ [] ≡
    (16 ∷ []) ∷ (0 ∷ 15 ∷ []) ∷ (1 ∷ []) ∷ (1 ∷ 2 ∷ 16 ∷ []) ∷ (0 ∷ []) ∷ []
unfolding books is_sound sound_with
replicas = refl

-- 1 to 63 heights, each book of the right length; HeightChecks has one of 64
heights : passing (λ h. is_sound (empty h)) (0 ∷ 1 ∷ 2 ∷ 63 ∷ []) ≡ 1 ∷ 2 ∷ 63 ∷ []
unfolding books is_sound
heights = refl

-- current heights 1 to H + 1; all flags below 16, flag 2 without flag 1 among them; 0 to 32 pending entries; finalized
-- heights above the current one, and none above the last
head_bounds : sound_with (empty 3) 4 (counting 0 6) ∷ sound_with alone 4 (counting 0 4) ∷
    sound_with alone 3 (counting 0 18) ∷
    sound_with alone 6 (0 ∷ 1 ∷ 31 ∷ 32 ∷ 33 ∷ []) ∷ sound_with ended 5 (counting 0 5) ∷ [] ≡
    (1 ∷ 2 ∷ 3 ∷ 4 ∷ []) ∷ (1 ∷ 2 ∷ []) ∷ counting 0 16 ∷
    (0 ∷ 1 ∷ 31 ∷ 32 ∷ []) ∷ (0 ∷ 1 ∷ 2 ∷ 3 ∷ []) ∷ []
unfolding books is_sound sound_with
head_bounds = refl

-- edition 2 with the weight of one replica, edition 1 without, and no other; with a second weight none is
editions : map (λ bytes. sound_with bytes 7 (0 ∷ 1 ∷ 2 ∷ 3 ∷ 4 ∷ 255 ∷ []))
    (alone ∷ first_edition alone ∷ splice 10 (1 ∷ []) alone ∷ []) ≡ (2 ∷ []) ∷ (1 ∷ []) ∷ [] ∷ []
unfolding books is_sound sound_with
editions = refl

-- leaders below 4, and states up to 3 where the bodies are zero (so 0 alone), at each of three heights
leaders : sound_with (empty 3) 576 (0 ∷ 3 ∷ 4 ∷ []) ∷ sound_with (empty 3) 592 (0 ∷ 3 ∷ 4 ∷ []) ∷
    sound_with (empty 3) 608 (0 ∷ 3 ∷ 4 ∷ []) ∷
    sound_with wide 576 (15 ∷ 16 ∷ []) ∷ [] ≡ (0 ∷ 3 ∷ []) ∷ (0 ∷ 3 ∷ []) ∷ (0 ∷ 3 ∷ []) ∷ (15 ∷ []) ∷ []
unfolding books is_sound sound_with
leaders = refl

-- states 0 to 3 where both blocks stand, and no other; where none does 0 alone
states : sound_with book 577 (0 ∷ 1 ∷ 2 ∷ 3 ∷ 4 ∷ 255 ∷ []) ∷ sound_with book 593 (3 ∷ 4 ∷ []) ∷
    sound_with book 609 (3 ∷ 4 ∷ []) ∷ sound_with (empty 3) 577 (0 ∷ 1 ∷ 2 ∷ 3 ∷ []) ∷ [] ≡
    (0 ∷ 1 ∷ 2 ∷ 3 ∷ []) ∷ (3 ∷ []) ∷ (3 ∷ []) ∷ (0 ∷ []) ∷ []
unfolding books is_sound sound_with
states = refl

-- masks: of four replicas bit 3 and no bit 4 in each of the four; of one replica bit 0
masks : sound_with (empty 3) 578 (15 ∷ 16 ∷ []) ∷ sound_with (empty 3) 580 (15 ∷ 16 ∷ []) ∷
    sound_with (empty 3) 582 (15 ∷ 16 ∷ []) ∷ sound_with (empty 3) 584 (15 ∷ 16 ∷ []) ∷
    sound_with (empty 3) 612 (15 ∷ 16 ∷ []) ∷ sound_with (empty 3) 616 (15 ∷ 16 ∷ []) ∷ sound_with alone 580 (0 ∷ 1 ∷
    2 ∷ []) ∷ [] ≡
    (15 ∷ []) ∷ (15 ∷ []) ∷ (15 ∷ []) ∷ (15 ∷ []) ∷ (15 ∷ []) ∷ (15 ∷ []) ∷ (0 ∷ 1 ∷ []) ∷ []
unfolding books is_sound sound_with
masks = refl

-- a notarized block's certificate mask is a quorum, at each height; a proposal that is held asks for none
certificates : sound_with book 578 (0 ∷ 3 ∷ 7 ∷ 14 ∷ 15 ∷ []) ∷ sound_with book 594 (0 ∷ 12 ∷ 13 ∷ []) ∷
    sound_with book 610 (6 ∷ 11 ∷ []) ∷
    sound_with (splice 593 (1 ∷ []) book) 594 (0 ∷ 3 ∷ 7 ∷ []) ∷ [] ≡
    (7 ∷ 14 ∷ 15 ∷ []) ∷ (13 ∷ []) ∷ (11 ∷ []) ∷ (0 ∷ 3 ∷ 7 ∷ []) ∷ []
unfolding books is_sound sound_with
certificates = refl

-- the finalized height has a quorum of finalizes, here of three of four, and is linked
finalized : sound_with ended 614 (0 ∷ 3 ∷ 7 ∷ 11 ∷ []) ∷ sound_with (splice 593 (1 ∷ []) book) 5 (counting 0 4) ∷ [] ≡
    (7 ∷ 11 ∷ []) ∷ (0 ∷ 1 ∷ []) ∷ []
unfolding books is_sound sound_with
finalized = refl

-- the lengths beside the right one
lengths : all_of
    (is_sound book ∷ is_sound ended ∷ is_sound (empty 3) ∷ is_sound wide ∷ is_sound alone ∷
    not (is_sound (take 3215 book)) ∷
    not (is_sound (book ++ (0 ∷ []))) ∷
    not (is_sound (take 1455 alone)) ∷
    not (is_sound []) ∷ []) ≡ true
unfolding books is_sound
lengths = refl
