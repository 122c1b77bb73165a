-- Observers with heights of two bytes and books of edition 3 (document 02, 2.7): what Open makes and refuses, which
-- bytes of a head are free, frames that agree with others in the low byte of their height alone, and calls on such a
-- book.
use Rattle.std.specs.Prelude.{ℕ, ◌≡◌, refl, true, false, List, [], ◌∷◌, ◌++◌, map, replicate}
use Rattle.protocol.specs.Bytes.{Bytes, zeros}
use Rattle.protocol.specs.Frame.{proposal, block_vote, dummy_vote, finalize, block_certificate, dummy_certificate}
use Rattle.protocol.specs.Frame.{finalize_certificate}
use Rattle.protocol.specs.Block.{new_block}
use Rattle.protocol.specs.Observer.{observer_book_size}
use Rattle.protocol.specs.Open.{Opening, unweighed, long}
use Rattle.protocol.specs.ObserverCall.{observer_opening, observer_delivery, observer_moving, observer_reading}
use Rattle.protocol.specs.ObserverCall.{observer_sizing}
use Rattle.check_books.specs.CheckCalls.{one_bytes, one_each, long_each, two_bytes, first_edition, third_edition}
use Rattle.check_books.specs.CheckStates.{counting, free_places}
use Rattle.check_books.specs.CheckObservers.{observer_numbers, observer_after, observer_outcomes, observes, observes_with}
use Rattle.check_books.specs.CheckObservers.{deliveries, new_book, season, season_to, season_entries, highest}
use Rattle.check_books.specs.CheckObservers.{observer_tools}

-- ---- Open
-- every byte of a new book of two heights: H at 40, and the other heights zero
opened : observer_after (replicate 432 9) (observer_opening (long_each 4) 4 2) ≡
    4 ∷ 0 ∷ 0 ∷ 0 ∷ 0 ∷ 0 ∷ 0 ∷ 3 ∷ (one_bytes 4 ++ (zeros 24 ++ (2 ∷ zeros 391)))
unfolding observer_tools
opened = refl

-- the answer on a book of so many bytes
opening_of : Opening → (bytes heights : ℕ) → List ℕ
opening_of way bytes heights = observer_numbers (replicate bytes 9) (observer_opening way 4 heights)

-- a book of its length for each H, by the three ways: 64 heights in edition 3 alone
lengths : map (λ way. map (λ heights. opening_of way (observer_book_size heights) heights) (0 ∷ 1 ∷ 63 ∷ 64 ∷ []))
    (unweighed ∷ one_each 4 ∷ long_each 4 ∷ []) ≡
    replicate 2 ((2 ∷ []) ∷ (0 ∷ []) ∷ (0 ∷ []) ∷ (2 ∷ []) ∷ []) ++
    (((2 ∷ []) ∷ (0 ∷ []) ∷ (0 ∷ []) ∷ (0 ∷ []) ∷ []) ∷ [])
unfolding observer_tools opening_of
lengths = refl

-- no book of any H has two bytes: 1 where H is in range, and else 2
bounds : map (opening_of (long_each 4) 2) (256 ∷ 999 ∷ 1000 ∷ 1001 ∷ 65537 ∷ []) ≡
    (1 ∷ []) ∷ (1 ∷ []) ∷ (1 ∷ []) ∷ (2 ∷ []) ∷ (2 ∷ []) ∷ []
unfolding observer_tools opening_of
bounds = refl

-- weights as in edition 2
weights : map (λ given. opening_of (long given) 248 1)
    (two_bytes (1 ∷ 1000 ∷ 256 ∷ 1 ∷ []) ∷ two_bytes (1 ∷ 1 ∷ 1 ∷ []) ∷ two_bytes (1 ∷ 1 ∷ 1 ∷ 1001 ∷ []) ∷ []) ≡
    (0 ∷ []) ∷ (2 ∷ []) ∷ (2 ∷ []) ∷ []
unfolding observer_tools opening_of
weights = refl

-- ---- the head
-- of a new book's head larger weights alone are sound: neither own number, flags and pending count, nor bytes 2, 4 and
-- 5, nor H, a current height at 42 and 43, the finalized height, or bytes 46 to 63
head_places : free_places observes (third_edition (new_book 4 1)) (counting 0 64) ≡ counting 8 8
unfolding observer_tools
head_places = refl

-- the same where the log ends at height 1, which byte 5 said: no current height, and the finalized one by both bytes
head_bytes_lem : map (λ place. observes_with (third_edition (season_to 1)) place (0 ∷ 1 ∷ []))
    (2 ∷ 4 ∷ 5 ∷ 41 ∷ 42 ∷ 43 ∷ 45 ∷ 46 ∷ 63 ∷ []) ≡ replicate 9 (0 ∷ [])
unfolding observer_tools
head_bytes_lem = refl

-- heights 1 and 3 are finalized; H is three; edition 3 alone
numbers : observes_with (third_edition season) 44 (counting 0 5) ∷ observes_with (third_edition season) 40 (counting 0 5) ∷
    map (λ book. observes_with book 7 (counting 0 6 ++ (255 ∷ [])))
    (third_edition (season_to 3) ∷ season_to 3 ∷ first_edition (season_to 3) ∷ []) ≡
    (0 ∷ 1 ∷ 3 ∷ []) ∷ (3 ∷ []) ∷ (3 ∷ []) ∷ (2 ∷ []) ∷ (1 ∷ []) ∷ []
unfolding observer_tools
numbers = refl

-- a book of 64 heights in edition 3 alone
heights : map observes (third_edition (new_book 4 64) ∷ new_book 4 64 ∷ first_edition (new_book 4 64) ∷ []) ≡
    true ∷ false ∷ false ∷ []
unfolding observer_tools
heights = refl

-- ---- Deliver
-- the block of a height
far : ℕ → Bytes
far h = new_block h 0 (zeros 32) []

-- byte 3 of a frame: 6 for certificates and 16 for statements, but 4 where a block agrees in the low byte alone
beyond : List Bytes
beyond =
    dummy_certificate 257 7 ∷ finalize_certificate 257 7 ∷ dummy_certificate 256 7 ∷ block_certificate 259 7 (far 259) ∷
    dummy_vote 1 257 ∷ finalize 1 257 ∷ block_vote 1 257 (zeros 32) ∷ proposal 0 259 (far 259) ∷
    block_certificate 259 7 highest ∷ block_certificate 3 7 (far 259) ∷ proposal 0 259 highest ∷
    proposal 0 3 (far 259) ∷ []

delivered : map (λ book. deliveries book beyond) (season ∷ first_edition season ∷ third_edition season ∷ []) ≡
    replicate 3 (replicate 4 (6 ∷ []) ++ (replicate 4 (16 ∷ []) ++ replicate 4 (4 ∷ [])))
unfolding observer_tools far beyond
delivered = refl

-- ---- calls on a book of edition 3
-- a certificate is kept at its place, an output changes the finalized height at 44, and the log is read
run : observer_outcomes (third_edition season)
    (observer_delivery (dummy_certificate 2 14) ∷ observer_moving ∷ observer_moving ∷ observer_sizing ∷
    observer_reading (zeros 48) ∷ []) ≡
    (0 ∷ 1 ∷ 76 ∷ 15 ∷ []) ∷ (0 ∷ 2 ∷ 3 ∷ 44 ∷ 3 ∷ []) ∷ (0 ∷ 0 ∷ 0 ∷ []) ∷ (0 ∷ 48 ∷ []) ∷ season_entries ∷ []
unfolding observer_tools
run = refl
