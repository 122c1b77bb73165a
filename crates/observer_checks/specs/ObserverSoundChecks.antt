-- An observer's book (document 02, 2.3): its sizes and bytes, and its soundness row by row: which bytes are free, and
-- both sides of each bound, at the first, a middle and the last height.
use Rattle.std.specs.Prelude.{ℕ, ◌≡◌, refl, true, not, List, [], ◌∷◌, ◌++◌, map, length, replicate, take}
use Rattle.protocol.specs.Bytes.{Bytes, zeros}
use Rattle.protocol.specs.Tests.{all_of}
use Rattle.protocol.specs.State.{encode, decode}
use Rattle.protocol.specs.Observer.{ObservedHeight, Observer, as_replica, observed, observer_book_size, encode_observer}
use Rattle.protocol.specs.Observer.{decode_observer}
use Rattle.check_books.specs.CheckCalls.{splice, first_edition}
use Rattle.check_books.specs.CheckStates.{counting, free_places, passing}
use Rattle.check_books.specs.CheckObservers.{observes, observes_with, first_block, observer_head}
use Rattle.check_books.specs.CheckObservers.{observed_content, new_book, lowest, season, season_to}
use Rattle.check_books.specs.CheckObservers.{observer_tools}

-- ---- sizes
sizes : map observer_book_size (1 ∷ 2 ∷ 3 ∷ 63 ∷ []) ≡ 248 ∷ 432 ∷ 616 ∷ 11656 ∷ []
unfolding observer_tools
sizes = refl

lengths : length season ∷ length (new_book 4 1) ∷ [] ≡ 616 ∷ 248 ∷ []
unfolding observer_tools
lengths = refl

-- ---- bytes
-- an observer, its book and the book of a replica that heard as much, with a value of its own in each byte of two
-- heights' contents, and blocks whose bytes count up
sample : Observer
sample = record {
  edition = 9;
  n = 5;
  weights = counting 258 16;
  finalized = 7;
  heights =
      record {
        status = 3;
        certificate_mask = 513;
        dummy_mask = 1027;
        finalize_mask = 1541;
        notarized = counting 11 176;
      } ∷
      record {
        status = 8;
        certificate_mask = 3340;
        dummy_mask = 3854;
        finalize_mask = 4368;
        notarized = counting 40 176;
      } ∷ [];
}

-- the bytes of its weights, 258 to 273
sample_weights : Bytes
sample_weights =
    2 ∷ 1 ∷ 3 ∷ 1 ∷ 4 ∷ 1 ∷ 5 ∷ 1 ∷ 6 ∷ 1 ∷ 7 ∷ 1 ∷ 8 ∷ 1 ∷ 9 ∷ 1 ∷
    10 ∷ 1 ∷ 11 ∷ 1 ∷ 12 ∷ 1 ∷ 13 ∷ 1 ∷ 14 ∷ 1 ∷ 15 ∷ 1 ∷ 16 ∷ 1 ∷ 17 ∷ 1 ∷ []

sample_bytes : Bytes
sample_bytes =
    5 ∷ 0 ∷ 2 ∷ 0 ∷ 0 ∷ 7 ∷ 0 ∷ 9 ∷
    (sample_weights ++ (zeros 24 ++
    ((3 ∷ 0 ∷ 1 ∷ 2 ∷ 3 ∷ 4 ∷ 5 ∷ 6 ∷ 8 ∷ 0 ∷ 12 ∷ 13 ∷ 14 ∷ 15 ∷ 16 ∷ 17 ∷ []) ++
    (counting 11 176 ++ counting 40 176))))

-- a replica's head; its pending entries, leaders, voters, held proposals and vote digests
replica_with : (own flags current pending_count : ℕ) → Bytes → (leader voters : ℕ) → Bytes → Bytes → Bytes
replica_with own flags current pending_count pool leader voters held digests =
    5 ∷ own ∷ 2 ∷ flags ∷ current ∷ 7 ∷ pending_count ∷ 9 ∷
    (sample_weights ++ (zeros 24 ++ (pool ++
    ((leader ∷ 3 ∷ 1 ∷ 2 ∷ 3 ∷ 4 ∷ 5 ∷ 6 ∷ voters ∷ zeros 7) ++
    ((leader ∷ 8 ∷ 12 ∷ 13 ∷ 14 ∷ 15 ∷ 16 ∷ 17 ∷ voters ∷ zeros 7) ++
    (held ++ (counting 11 176 ++ (digests ++
    (held ++ (counting 40 176 ++ digests))))))))))

-- the fields of an observer as numbers
height_fields : ObservedHeight → List ℕ
height_fields x =
    x.status ∷ x.certificate_mask ∷ x.dummy_mask ∷ x.finalize_mask ∷ x.notarized

fields : Observer → List (List ℕ)
fields o = (o.edition ∷ o.n ∷ o.finalized ∷ o.weights) ∷ map height_fields o.heights

encoded : encode_observer sample ≡ sample_bytes
unfolding observer_tools sample sample_weights sample_bytes
encoded = refl

-- each field is read at its place alone, whatever the bytes are that are called zero
cluttered : Bytes
cluttered =
    splice 1 (31 ∷ []) (splice 3 (32 ∷ 33 ∷ []) (splice 6 (34 ∷ []) (splice 40 (replicate 24 35)
    (splice 65 (36 ∷ []) (splice 73 (37 ∷ []) sample_bytes)))))

decoded : map (λ bytes. fields (decode_observer bytes)) (sample_bytes ∷ cluttered ∷ []) ≡
    replicate 2
    ((9 ∷ 5 ∷ 7 ∷ counting 258 16) ∷
    (3 ∷ 513 ∷ 1027 ∷ 1541 ∷ counting 11 176) ∷
    (8 ∷ 3340 ∷ 3854 ∷ 4368 ∷ counting 40 176) ∷ [])
unfolding observer_tools sample_weights sample_bytes cluttered height_fields fields
decoded = refl

-- and back to the bytes; of a sound book too
there_and_back : encode_observer (decode_observer sample_bytes) ∷ encode_observer (decode_observer (season_to 3)) ∷ [] ≡
    sample_bytes ∷ season_to 3 ∷ []
unfolding observer_tools sample_weights sample_bytes
there_and_back = refl

-- as a replica's state all that only a replica has is zero
as_replica_lem : encode (as_replica sample) ≡ replica_with 0 0 0 0 (zeros 512) 0 0 (zeros 176) (zeros 512)
unfolding observer_tools sample sample_weights replica_with
as_replica_lem = refl

-- and of a replica's state an observer keeps the rest
kept : encode_observer (observed (decode
    (replica_with 21 22 23 24 (replicate 512 25) 26 27 (replicate 176 28) (replicate 512 29)))) ≡ sample_bytes
unfolding observer_tools sample_weights sample_bytes replica_with
kept = refl

-- ---- byte by byte
-- of a new book's head larger weights of the four alone are sound: every other raised byte is not; in edition 1 a fifth
-- replica alone is
head_places : map (λ book. free_places observes book (counting 0 64)) (new_book 4 1 ∷ first_edition (new_book 4 1) ∷ []) ≡
    counting 8 8 ∷ (0 ∷ []) ∷ []
unfolding observer_tools
head_places = refl

-- of each height the low bytes of the masks, here of four replicas; without a block no other state than 0
content_places : free_places observes (new_book 4 3) (counting 64 24) ≡
    66 ∷ 68 ∷ 70 ∷ 74 ∷ 76 ∷ 78 ∷ 82 ∷ 84 ∷ 86 ∷ []
unfolding observer_tools
content_places = refl

-- the same with a block on no parent at height 2 too, notarized where this state is 2
filled : ℕ → Bytes
filled status = splice 72 (observed_content status 14 7 0) (splice 264 (first_block 2 9) season)

-- of a notarized block on no parent the count and the entries up to it, and from height 2 on the parent's height; of
-- one on a parent the digest too
block_places : free_places observes (filled 2) (counting 88 528) ≡
    92 ∷
    (counting 136 16 ++ (266 ∷ 268 ∷ (counting 312 16 ++ (442 ∷ 444 ∷ counting 456 64))))
unfolding observer_tools filled
block_places = refl

-- where the log ends at height 3 its block's parent counts too, and all of the parent's bytes; the place of the block
-- that is not there is free
linked_places : free_places observes (season_to 3) (counting 88 528) ≡ counting 264 176 ++ (444 ∷ counting 488 32)
unfolding observer_tools
linked_places = refl

-- where no block is notarized its place is free, and its certificate's mask below n
free_places_lem : map observes
    (splice 264 (replicate 176 255) (season_to 3) ∷ splice 74 (15 ∷ []) (season_to 3) ∷
    splice 264 (counting 1 176) (splice 74 (1 ∷ []) season) ∷ splice 88 (replicate 528 255) (new_book 4 3) ∷
    splice 72 (replicate 176 255) (new_book 1 1) ∷ []) ≡ replicate 5 true
unfolding observer_tools
free_places_lem = refl

-- ---- bounds
-- 1 to 16 replicas, where the head has no weights; with four weights four, and with every bit of sixteen in each mask
-- sixteen
wide : Bytes
wide = observer_head 16 1 0 ++ (0 ∷ 0 ∷ (replicate 6 255 ++ zeros 176))

replicas : observes_with (first_edition (new_book 4 1)) 0 (0 ∷ 1 ∷ 2 ∷ 15 ∷ 16 ∷ 17 ∷ 255 ∷ []) ∷
    observes_with (new_book 4 1) 0 (0 ∷ 1 ∷ 3 ∷ 4 ∷ 5 ∷ 16 ∷ []) ∷ observes_with wide 0 (0 ∷ 15 ∷ 16 ∷ 17 ∷ []) ∷ [] ≡
    (1 ∷ 2 ∷ 15 ∷ 16 ∷ []) ∷ (4 ∷ []) ∷ (16 ∷ []) ∷ []
unfolding observer_tools wide
replicas = refl

-- 1 to 63 heights, each book of the right length
heights : passing (λ h. observes (new_book 4 h)) (0 ∷ 1 ∷ 2 ∷ 63 ∷ 64 ∷ []) ≡ 1 ∷ 2 ∷ 63 ∷ []
unfolding observer_tools
heights = refl

-- edition 2; own number, flags, current height and pending count 0
head_bounds : map (λ place. observes_with (season_to 1) place (counting 0 5 ++ (255 ∷ []))) (7 ∷ 1 ∷ 3 ∷ 4 ∷ 6 ∷ []) ≡
    (2 ∷ []) ∷ replicate 4 (0 ∷ [])
unfolding observer_tools
head_bounds = refl

-- states 0 and 2 where a block is well formed and certified, and 0 where none is
states : map (λ place. observes_with season place (counting 0 7 ++ (255 ∷ []))) (64 ∷ 72 ∷ 80 ∷ []) ++
    (observes_with (filled 0) 72 (counting 0 7 ++ (255 ∷ [])) ∷ []) ≡
    (0 ∷ 2 ∷ []) ∷ (0 ∷ []) ∷ (0 ∷ 2 ∷ []) ∷ (0 ∷ 2 ∷ []) ∷ []
unfolding observer_tools filled
states = refl

-- masks: of four replicas bit 3 and no bit 4 in each of the three at each height; of one bit 0; of nine bit 8
masks : map (λ place. observes_with (new_book 4 3) place (8 ∷ 15 ∷ 16 ∷ 128 ∷ []))
    (66 ∷ 68 ∷ 70 ∷ 74 ∷ 76 ∷ 78 ∷ 82 ∷ 84 ∷ 86 ∷ []) ++
    (map (λ place. observes_with (new_book 1 1) place (0 ∷ 1 ∷ 2 ∷ [])) (66 ∷ 68 ∷ 70 ∷ []) ++
    map (λ place. observes_with (new_book 9 1) place (0 ∷ 1 ∷ 2 ∷ [])) (67 ∷ 69 ∷ 71 ∷ [])) ≡
    replicate 9 (8 ∷ 15 ∷ []) ++ replicate 6 (0 ∷ 1 ∷ [])
unfolding observer_tools
masks = refl

-- a notarized block's certificate is a quorum, at each height; where none is notarized it need not be
certificates : map (λ place. observes_with season place (0 ∷ 3 ∷ 7 ∷ 12 ∷ 14 ∷ 15 ∷ [])) (66 ∷ 74 ∷ 82 ∷ []) ++
    (observes_with (filled 2) 74 (0 ∷ 3 ∷ 7 ∷ 12 ∷ 14 ∷ 15 ∷ []) ∷ []) ≡
    (7 ∷ 14 ∷ 15 ∷ []) ∷ (0 ∷ 3 ∷ 7 ∷ 12 ∷ 14 ∷ 15 ∷ []) ∷ (7 ∷ 14 ∷ 15 ∷ []) ∷ (7 ∷ 14 ∷ 15 ∷ []) ∷ []
unfolding observer_tools filled
certificates = refl

-- the dummies and the finalizes of a height may be few
few : map (λ place. observes_with season place (0 ∷ 1 ∷ 7 ∷ 15 ∷ [])) (68 ∷ 70 ∷ 76 ∷ 78 ∷ 84 ∷ 86 ∷ []) ≡
    replicate 6 (0 ∷ 1 ∷ 7 ∷ 15 ∷ [])
unfolding observer_tools
few = refl

-- the zero byte of each height
zero_bytes : map (λ place. observes_with season place (0 ∷ 1 ∷ 2 ∷ 255 ∷ [])) (65 ∷ 73 ∷ 81 ∷ []) ≡ replicate 3 (0 ∷ [])
unfolding observer_tools
zero_bytes = refl

-- ---- the finalized height: 0 or a finalized one of the book's, here 1 and 3
finalized : Bytes → List ℕ
finalized book = observes_with book 5 (counting 0 6 ++ (255 ∷ []))

-- as it is; height 3 with another parent's digest, over no dummy, over one of two replicas, by two finalizes, and
-- without a block; height 1 by two finalizes; height 2 by three, where there is no block, and one that is linked
finalized_heights_lem : map finalized
    (season ∷ splice 456 (99 ∷ []) season ∷ splice 76 (0 ∷ []) season ∷ splice 76 (3 ∷ []) season ∷
    splice 86 (3 ∷ []) season ∷ splice 80 (0 ∷ []) season ∷ splice 70 (12 ∷ []) season ∷
    splice 78 (7 ∷ []) season ∷ splice 72 (observed_content 2 7 7 7) (splice 68 (7 ∷ []) (filled 0)) ∷ []) ≡
    (0 ∷ 1 ∷ 3 ∷ []) ∷ (0 ∷ 1 ∷ []) ∷ (0 ∷ 1 ∷ []) ∷ (0 ∷ 1 ∷ []) ∷
    (0 ∷ 1 ∷ []) ∷ (0 ∷ 1 ∷ []) ∷ (0 ∷ 3 ∷ []) ∷
    (0 ∷ 1 ∷ 3 ∷ []) ∷ (0 ∷ 1 ∷ 2 ∷ 3 ∷ []) ∷ []
unfolding observer_tools filled finalized
finalized_heights_lem = refl

-- one replica, and sixteen, of whom eleven certify and eleven finalize: one height
alone : Bytes
alone = observer_head 1 1 0 ++ (observed_content 2 1 0 1 ++ lowest)

sixteen : Bytes
sixteen = observer_head 16 1 0 ++ ((2 ∷ 0 ∷ 255 ∷ 7 ∷ 0 ∷ 0 ∷ 224 ∷ 255 ∷ []) ++ lowest)

few_and_many : map finalized
    (alone ∷ splice 70 (0 ∷ []) alone ∷ sixteen ∷ splice 71 (127 ∷ []) sixteen ∷ splice 67 (3 ∷ []) sixteen ∷ []) ≡
    (0 ∷ 1 ∷ []) ∷ (0 ∷ []) ∷ (0 ∷ 1 ∷ []) ∷ (0 ∷ []) ∷ [] ∷ []
unfolding observer_tools finalized alone sixteen
few_and_many = refl

-- ---- the lengths beside the right one, and those of a replica's books
exact : all_of
    (observes season ∷ observes (new_book 4 1) ∷
    not (observes (take 615 season)) ∷
    not (observes (season ++ (0 ∷ []))) ∷
    not (observes (take 247 (new_book 4 1))) ∷
    not (observes (new_book 4 1 ++ (0 ∷ []))) ∷
    not (observes (observer_head 4 1 0 ++ zeros 1392)) ∷
    not (observes (observer_head 4 3 0 ++ zeros 184)) ∷
    not (observes (take 64 season)) ∷
    not (observes []) ∷ []) ≡ true
unfolding observer_tools
exact = refl
