-- The calls of an observer but Deliver (document 02, 2.3), whole runs, and a replica beside it that is given the same
-- certificates.
use Rattle.std.specs.Prelude.{ℕ, ◌+◌, ◌*◌, ◌≡◌, refl, true, false, List, [], ◌∷◌, ◌++◌, map, replicate, take, drop}
use Rattle.std.proofs.Math.Option.{some, none}
use Rattle.protocol.specs.Bytes.{Bytes, zeros}
use Rattle.protocol.specs.Frame.{dummy_vote, block_certificate, dummy_certificate, finalize_certificate}
use Rattle.protocol.specs.Answer.{refusal_number}
use Rattle.protocol.specs.Open.{Opening, unweighed}
use Rattle.protocol.specs.Read.{read_part}
use Rattle.protocol.specs.Call.{delivery, packet_delivery, moving, signalling, submitting, sizing, reading, fetching}
use Rattle.protocol.specs.ObserverCalls.{observer_open_call, observer_read_part, observer_read_buffer}
use Rattle.protocol.specs.ObserverCall.{ObserverCall, observer_opening, observer_delivery, observer_moving}
use Rattle.protocol.specs.ObserverCall.{observer_sizing, observer_reading, observation, observer_book_after_all}
use Rattle.check_books.specs.CheckCalls.{stand_in, answer_of, answers, after, splice, one_bytes, one_each}
use Rattle.check_books.specs.CheckStates.{entry}
use Rattle.check_books.specs.CheckObservers.{observer_after, observer_outcome, observer_outcomes, new_book}
use Rattle.check_books.specs.CheckObservers.{lowest, highest, season, season_to, other, season_entries, damaged}
use Rattle.check_books.specs.CheckObservers.{replica_book, with_byte, observer_tools}

-- ---- Open
-- the refusal's number over a book of so many bytes, and 0 where the book is opened, by a way for each n
opens : (ℕ → Opening) → (bytes n heights : ℕ) → ℕ
opens way bytes n heights = refusal_number (observer_open_call (way n) (replicate bytes 9) n heights).answer

-- the same without weights and by weights of 1; ObserverWeightChecks has other weights
both_ways : ((ℕ → Opening) → List ℕ) → List (List ℕ)
both_ways told = told (λ n. unweighed) ∷ told one_each ∷ []

-- 1 to 16 replicas; 1 to 63 heights, each with a book of its length
ranges : both_ways (λ way. map (λ n. opens way 248 n 1) (0 ∷ 1 ∷ 2 ∷ 15 ∷ 16 ∷ 17 ∷ 256 ∷ []) ++
    map (λ h. opens way (64 + 184 * h) 4 h) (0 ∷ 1 ∷ 2 ∷ 62 ∷ 63 ∷ 64 ∷ 256 ∷ [])) ≡
    replicate 2
    (2 ∷ 0 ∷ 0 ∷ 0 ∷ 0 ∷ 2 ∷ 2 ∷
    2 ∷ 0 ∷ 0 ∷ 0 ∷ 0 ∷ 2 ∷ 2 ∷ [])
unfolding observer_tools opens both_ways
ranges = refl

-- the lengths beside the right one, those of other heights, and that of a replica's book of as many; 2 before 1
open_lengths : both_ways (λ way.
    map (λ bytes. opens way bytes 4 3) (0 ∷ 64 ∷ 432 ∷ 615 ∷ 616 ∷ 617 ∷ 800 ∷ 3216 ∷ []) ++
    (opens way 615 0 3 ∷ opens way 617 17 3 ∷ opens way 63 4 0 ∷ opens way 65 4 0 ∷ opens way 11839 4 64 ∷
    opens way 0 0 0 ∷ [])) ≡
    replicate 2
    (1 ∷ 1 ∷ 1 ∷ 1 ∷ 0 ∷ 1 ∷ 1 ∷ 1 ∷
    2 ∷ 2 ∷ 2 ∷ 2 ∷ 2 ∷ 2 ∷ [])
unfolding observer_tools opens both_ways
open_lengths = refl

-- a new book: n, H, edition 2 and the weights, and all else is zero, whatever bytes stood there
opened : observer_after (replicate 432 9) (observer_opening (one_each 4) 4 2) ∷
    observer_after (season_to 3) (observer_opening (one_each 16) 16 3) ∷ [] ≡
    (4 ∷ 0 ∷ 2 ∷ 0 ∷ 0 ∷ 0 ∷ 0 ∷ 2 ∷ 1 ∷ 0 ∷ 1 ∷ 0 ∷ 1 ∷ 0 ∷ 1 ∷ zeros 417) ∷
    (16 ∷ 0 ∷ 3 ∷ 0 ∷ 0 ∷ 0 ∷ 0 ∷ 2 ∷ (one_bytes 16 ++ zeros 576)) ∷ []
unfolding observer_tools
opened = refl

-- without weights: n, H and edition 1
opened_first : observer_after (replicate 432 9) (observer_opening unweighed 4 2) ∷
    observer_after (season_to 3) (observer_opening unweighed 16 3) ∷ [] ≡
    (4 ∷ 0 ∷ 2 ∷ 0 ∷ 0 ∷ 0 ∷ 0 ∷ 1 ∷ zeros 424) ∷ (16 ∷ 0 ∷ 3 ∷ 0 ∷ 0 ∷ 0 ∷ 0 ∷ 1 ∷ zeros 608) ∷ []
unfolding observer_tools
opened_first = refl

-- a refused opening leaves the bytes
not_opened : map (observer_outcome (season_to 3))
    (observer_opening (one_each 17) 17 3 ∷ observer_opening (one_each 4) 4 2 ∷ observer_opening (one_each 4) 4 64 ∷ []) ≡
    (2 ∷ []) ∷ (1 ∷ []) ∷ (2 ∷ []) ∷ []
unfolding observer_tools
not_opened = refl

-- ---- Move: the largest finalized height, and nothing else
move : Bytes → List ℕ
move book = observer_outcome book observer_moving

-- g jumps to 3 from 0 and from 1; from 3 the observer is idle; each move again is idle
jumps : map (λ g. observer_outcomes (season_to g) (observer_moving ∷ observer_moving ∷ [])) (0 ∷ 1 ∷ 3 ∷ []) ≡
    ((0 ∷ 2 ∷ 3 ∷ 5 ∷ 3 ∷ []) ∷ (0 ∷ 0 ∷ 0 ∷ []) ∷ []) ∷
    ((0 ∷ 2 ∷ 3 ∷ 5 ∷ 3 ∷ []) ∷ (0 ∷ 0 ∷ 0 ∷ []) ∷ []) ∷
    ((0 ∷ 0 ∷ 0 ∷ []) ∷ (0 ∷ 0 ∷ 0 ∷ []) ∷ []) ∷ []
unfolding observer_tools
jumps = refl

-- height 3 with another parent's digest, over no dummy, over two dummies, by two finalizes, and without a block: 1;
-- after that idle
unlinked : List Bytes
unlinked =
    splice 456 (99 ∷ []) season ∷ splice 76 (0 ∷ []) season ∷ splice 76 (3 ∷ []) season ∷
    splice 86 (3 ∷ []) season ∷ splice 80 (0 ∷ []) season ∷ []

to_height_1 : map move unlinked ++ map (λ book. move (splice 5 (1 ∷ []) book)) unlinked ≡
    replicate 5 (0 ∷ 2 ∷ 1 ∷ 5 ∷ 1 ∷ []) ++ replicate 5 (0 ∷ 0 ∷ 0 ∷ [])
unfolding observer_tools move unlinked
to_height_1 = refl

-- height 1 by two finalizes: 3; no block at height 1, and so none that is linked: idle
without_first : move (splice 70 (3 ∷ []) season) ∷ move (splice 64 (0 ∷ []) season) ∷ [] ≡
    (0 ∷ 2 ∷ 3 ∷ 5 ∷ 3 ∷ []) ∷ (0 ∷ 0 ∷ 0 ∷ []) ∷ []
unfolding observer_tools move
without_first = refl

-- finalizes without a block: idle in a new book; height 2, which is a dummy, is passed over
without_block : map move
    (new_book 4 2 ∷ splice 70 (7 ∷ []) (new_book 4 2) ∷ splice 78 (15 ∷ []) (new_book 4 2) ∷
    splice 78 (7 ∷ []) (splice 86 (0 ∷ []) season) ∷ []) ≡
    replicate 3 (0 ∷ 0 ∷ 0 ∷ []) ++ ((0 ∷ 2 ∷ 1 ∷ 5 ∷ 1 ∷ []) ∷ [])
unfolding observer_tools move
without_block = refl

-- a book that is not sound
not_moved : move damaged ∷ move [] ∷ move (splice 5 (2 ∷ []) season) ∷ [] ≡ replicate 3 (1 ∷ [])
unfolding observer_tools move
not_moved = refl

-- ---- Register size and Read
-- none at 0, one entry at 1 and three at 3: the first block's and then the two of the third, none of the dummy between
sizes : map (λ g. observer_outcome (season_to g) observer_sizing) (0 ∷ 1 ∷ 3 ∷ []) ++
    map (λ book. observer_outcome book observer_sizing) (new_book 4 2 ∷ damaged ∷ [] ∷ season_to 2 ∷ []) ≡
    (0 ∷ 0 ∷ []) ∷ (0 ∷ 16 ∷ []) ∷ (0 ∷ 48 ∷ []) ∷ (0 ∷ 0 ∷ []) ∷ replicate 3 (1 ∷ [])
unfolding observer_tools
sizes = refl

-- the part that is read, and the buffer: empty and untouched at 0; the bytes past the part keep their values; one byte
-- short, and from a book that is not sound, the part is empty and nothing is written
read : Bytes → ℕ → List Bytes
read book room =
    observer_read_part stand_in book (replicate room 170) ∷ observer_read_buffer stand_in book (replicate room 170) ∷ []

readings : map (read (season_to 3)) (48 ∷ 50 ∷ 47 ∷ 0 ∷ []) ++
    (read (season_to 1) 16 ∷ read (season_to 1) 15 ∷ read (season_to 0) 20 ∷ read (season_to 0) 0 ∷ read damaged 99 ∷
    read (season_to 2) 99 ∷ read (splice 264 (replicate 176 255) (season_to 3)) 48 ∷
    read (splice 5 (3 ∷ []) damaged) 99 ∷ []) ≡
    (season_entries ∷ season_entries ∷ []) ∷ (season_entries ∷ (season_entries ++ (170 ∷ 170 ∷ [])) ∷ []) ∷
    ([] ∷ replicate 47 170 ∷ []) ∷ ([] ∷ [] ∷ []) ∷
    (entry 7 ∷ entry 7 ∷ []) ∷ ([] ∷ replicate 15 170 ∷ []) ∷ ([] ∷ replicate 20 170 ∷ []) ∷ ([] ∷ [] ∷ []) ∷
    ([] ∷ replicate 99 170 ∷ []) ∷ ([] ∷ replicate 99 170 ∷ []) ∷ (season_entries ∷ season_entries ∷ []) ∷
    ([] ∷ replicate 99 170 ∷ []) ∷ []
unfolding observer_tools read
readings = refl

-- neither changes the book
reading_keeps : observer_after (season_to 3) observer_sizing ∷
    observer_after (season_to 3) (observer_reading (replicate 50 170)) ∷ [] ≡ replicate 2 (season_to 3)
unfolding observer_tools
reading_keeps = refl

-- ---- from the opening to the reading
-- the blocks from the last to the first, with moves between: what was heard first is finalized last
run : List ObserverCall
run =
    observer_opening (one_each 4) 4 3 ∷ observer_moving ∷ observer_delivery (finalize_certificate 3 11) ∷ observer_moving ∷
    observer_delivery (block_certificate 3 13 highest) ∷ observer_moving ∷ observer_delivery (dummy_vote 0 2) ∷
    observer_delivery (finalize_certificate 1 7) ∷ observer_moving ∷ observer_sizing ∷
    observer_delivery (block_certificate 1 7 lowest) ∷ observer_moving ∷ observer_sizing ∷
    observer_delivery (dummy_certificate 2 7) ∷ observer_moving ∷ observer_moving ∷ observer_sizing ∷
    observer_reading (zeros 48) ∷ []

run_answers : map (take 3) (observer_outcomes (new_book 4 3) run) ≡
    (0 ∷ []) ∷ (0 ∷ 0 ∷ 0 ∷ []) ∷ (0 ∷ 1 ∷ 86 ∷ []) ∷ (0 ∷ 0 ∷ 0 ∷ []) ∷
    (0 ∷ 1 ∷ 80 ∷ []) ∷ (0 ∷ 0 ∷ 0 ∷ []) ∷ (16 ∷ []) ∷
    (0 ∷ 1 ∷ 70 ∷ []) ∷ (0 ∷ 0 ∷ 0 ∷ []) ∷ (0 ∷ 0 ∷ []) ∷
    (0 ∷ 1 ∷ 64 ∷ []) ∷ (0 ∷ 2 ∷ 1 ∷ []) ∷ (0 ∷ 16 ∷ []) ∷
    (0 ∷ 1 ∷ 76 ∷ []) ∷ (0 ∷ 2 ∷ 3 ∷ []) ∷ (0 ∷ 0 ∷ 0 ∷ []) ∷ (0 ∷ 48 ∷ []) ∷
    take 3 season_entries ∷ []
unfolding observer_tools run
run_answers = refl

-- every byte of the book afterwards
run_book : observer_book_after_all stand_in (replicate 616 9) run ≡ season_to 3
unfolding observer_tools run
run_book = refl

-- ---- a replica that is given the same certificates
-- refused and known frames are among these
certificates : List Bytes
certificates =
    finalize_certificate 3 11 ∷ finalize_certificate 3 3 ∷ block_certificate 3 13 highest ∷ dummy_certificate 4 7 ∷
    block_certificate 1 7 lowest ∷ block_certificate 1 7 other ∷ dummy_certificate 2 23 ∷ dummy_certificate 2 14 ∷
    block_certificate 1 14 lowest ∷ with_byte 6 1 (dummy_certificate 3 7) ∷ finalize_certificate 1 7 ∷ []

-- their answers are the same
same_answers : answers replica_book (map delivery certificates) ∷
    map (take 2) (observer_outcomes (new_book 4 3) (map observer_delivery certificates)) ∷ [] ≡
    replicate 2
    ((0 ∷ 1 ∷ []) ∷ (9 ∷ []) ∷ (0 ∷ 1 ∷ []) ∷ (6 ∷ []) ∷
    (0 ∷ 1 ∷ []) ∷ (10 ∷ []) ∷ (5 ∷ []) ∷ (0 ∷ 1 ∷ []) ∷
    (0 ∷ 0 ∷ []) ∷ (4 ∷ []) ∷ (0 ∷ 1 ∷ []) ∷ [])
unfolding observer_tools certificates
same_answers = refl

-- after all of them the replica moves until idle: output of 3, three passes; the observer: output of 3
idle_at_last : map (drop 11)
    (answers replica_book (map delivery certificates ++ replicate 5 (moving (zeros 448))) ∷
    observer_outcomes (new_book 4 3) (map observer_delivery certificates ++ replicate 2 observer_moving) ∷ []) ≡
    ((0 ∷ 2 ∷ 3 ∷ []) ∷ (0 ∷ 3 ∷ 1 ∷ 5 ∷ 4 ∷ []) ∷ (0 ∷ 3 ∷ 2 ∷ 6 ∷ 4 ∷ []) ∷ (0 ∷ 3 ∷ 3 ∷ 5 ∷ 4 ∷ []) ∷
    (0 ∷ 0 ∷ 0 ∷ []) ∷ []) ∷
    ((0 ∷ 2 ∷ 3 ∷ 5 ∷ 3 ∷ []) ∷ (0 ∷ 0 ∷ 0 ∷ []) ∷ []) ∷ []
unfolding observer_tools certificates
idle_at_last = refl

-- what a replica reads after each frame and some moves, and what an observer reads
replica_logs : Bytes → List Bytes → List Bytes
replica_logs book [] = []
replica_logs book (frame ∷ frames) =
    let next : Bytes = after book (delivery frame ∷ replicate 3 (moving (zeros 448))) in
    read_part stand_in next (zeros 99) ∷ replica_logs next frames

observer_logs : Bytes → List Bytes → List Bytes
observer_logs book [] = []
observer_logs book (frame ∷ frames) =
    let next : Bytes = observer_book_after_all stand_in book (observer_delivery frame ∷ observer_moving ∷ []) in
    observer_read_part stand_in next (zeros 99) ∷ observer_logs next frames

-- they read the same: nothing before the dummy of height 2 comes, and then the log of all three heights
same_logs : replica_logs replica_book certificates ∷ observer_logs (new_book 4 3) certificates ∷ [] ≡
    replicate 2 (replicate 7 [] ++ replicate 4 season_entries)
unfolding observer_tools certificates replica_logs observer_logs
same_logs = refl

-- ---- the one kind's calls on the other's book: 1, and an empty part
replica_calls_lem : map (answer_of (season_to 3))
    (delivery (dummy_certificate 1 7) ∷ packet_delivery [] ∷ moving (zeros 448) ∷ signalling 1 ∷
    submitting (zeros 16) ∷ sizing ∷ fetching 7 1 (zeros 224) ∷ reading (zeros 99) ∷ []) ≡
    replicate 7 (1 ∷ []) ++ ([] ∷ [])
unfolding observer_tools
replica_calls_lem = refl

observer_calls_lem : map (observer_outcome replica_book)
    (observer_delivery (dummy_certificate 1 7) ∷ observer_delivery (dummy_vote 1 1) ∷ observer_moving ∷ observer_sizing ∷
    observer_reading (zeros 99) ∷ observer_opening (one_each 4) 4 3 ∷ []) ≡
    replicate 4 (1 ∷ []) ++ ([] ∷ (1 ∷ []) ∷ [])
unfolding observer_tools
observer_calls_lem = refl

-- ---- what each call does besides its answer, refused and not
calls : List ObserverCall
calls =
    observer_opening (one_each 5) 5 3 ∷ observer_opening (one_each 17) 17 3 ∷ observer_opening (one_each 5) 5 2 ∷
    observer_delivery (finalize_certificate 2 7) ∷ observer_delivery (dummy_certificate 2 7) ∷
    observer_delivery (dummy_vote 0 1) ∷ observer_delivery (block_certificate 1 7 other) ∷
    observer_moving ∷ observer_sizing ∷ observer_reading (zeros 16) ∷ observer_reading (zeros 15) ∷ []

accepted : map (λ call. (observation stand_in (season_to 1) call).accepted) calls ++
    map (λ call. (observation stand_in damaged call).accepted)
    (observer_delivery (dummy_certificate 2 7) ∷ observer_moving ∷ observer_sizing ∷ observer_reading [] ∷ []) ≡
    true ∷ false ∷ false ∷
    true ∷ true ∷ false ∷ false ∷ true ∷ true ∷ true ∷ true ∷
    false ∷ false ∷ false ∷ true ∷ []
unfolding observer_tools calls
accepted = refl

opens_for_lem : map (λ call. (observation stand_in (season_to 1) call).opens) calls ≡
    some (1 ∷ 1 ∷ 1 ∷ 1 ∷ 1 ∷ []) ∷ replicate 10 none
unfolding observer_tools calls
opens_for_lem = refl

delivers : map (λ call. (observation stand_in (season_to 1) call).delivers) calls ≡
    [] ∷ [] ∷ [] ∷ (finalize_certificate 2 7 ∷ []) ∷ (dummy_certificate 2 7 ∷ []) ∷ replicate 6 []
unfolding observer_tools calls
delivers = refl

reads : map (λ call. (observation stand_in (season_to 1) call).reads) calls ≡
    replicate 9 none ++ (some (entry 7) ∷ some [] ∷ [])
unfolding observer_tools calls
reads = refl
