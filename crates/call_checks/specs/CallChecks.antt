-- Signal, Submit, Register size, Read, Fetch and the frame of Move and Deliver, as whole calls: both sides of each
-- bound, and every byte left.
use Rattle.std.specs.Prelude.{ℕ, zero, suc, ◌≡◌, refl, Bool, true, List, [], ◌∷◌, ◌++◌, map, replicate, take}
use Rattle.protocol.specs.Bytes.{Bytes, zeros, part}
use Rattle.protocol.specs.Tests.{all_of}
use Rattle.protocol.specs.Block.{new_block}
use Rattle.protocol.specs.Frame.{dummy_vote, finalize, block_certificate, dummy_certificate, finalize_certificate}
use Rattle.protocol.specs.State.{decode}
use Rattle.protocol.specs.Fetch.{every_certificate, fetch_call}
use Rattle.protocol.specs.Call.{Call, delivery, moving, signalling, submitting, sizing, reading, fetching}
use Rattle.check_books.specs.CheckCalls.{stand_in, Result, perform, refuses, splice, expect, disagreement, one_bytes}
use Rattle.check_books.specs.CheckStates.{entry, counting, entries_from, height, vacant, state, state_tools}

-- ---- books, byte by byte
first : Bytes
first = new_block 1 0 (zeros 32) (entry 1 ∷ entry 2 ∷ [])

-- replica 2 of four, two heights, current height and flags as given, nothing kept
quiet : ℕ → ℕ → Bytes
quiet flags current = 4 ∷ 2 ∷ 2 ∷ flags ∷ current ∷ 0 ∷ 0 ∷ 2 ∷ (one_bytes 4 ++ zeros 2320)

-- one height whose block, with entries 1 and 2, is notarized by 0, 1 and 3 and finalized by 1, 2 and 3; so many
-- pending entries, of these bytes
settled : ℕ → Bytes → Bytes
settled count pool =
    splice 768 first
    (splice 577 (2 ∷ 11 ∷ 0 ∷ 0 ∷ 0 ∷ 14 ∷ [])
    (splice 64 pool (4 ∷ 2 ∷ 1 ∷ 0 ∷ 2 ∷ 1 ∷ count ∷ 2 ∷ (one_bytes 4 ++ zeros 1440))))

-- one height with nothing in it, and so many pending entries from entry 1 on
waiting : ℕ → Bytes
waiting count =
    splice 64 (entries_from 1 count) (4 ∷ 2 ∷ 1 ∷ 0 ∷ 1 ∷ 0 ∷ count ∷ 2 ∷ (one_bytes 4 ++ zeros 1440))

unfoldable calls : Unit {0}
unfolding state_tools first quiet settled waiting
calls = tt

-- the first number of an answer: of a refusal its number, else 0
answer : Bytes → Call → List ℕ
answer book call = take 1 (perform book call).numbers

-- ---- Signal: 6 outside 1 to H, 14 unless it is c and the timer has not fired; no other flag counts
signals : map (λ h. answer (quiet 0 1) (signalling h)) (counting 0 4) ++
    (map (λ h. answer (quiet 0 2) (signalling h)) (counting 0 4) ++
    (map (λ h. answer (quiet 0 3) (signalling h)) (counting 0 4) ++
    map (λ flags. answer (quiet flags 2) (signalling 2)) (counting 0 16))) ≡
    (6 ∷ []) ∷ (0 ∷ []) ∷ (14 ∷ []) ∷ (6 ∷ []) ∷
    (6 ∷ []) ∷ (14 ∷ []) ∷ (0 ∷ []) ∷ (6 ∷ []) ∷
    (6 ∷ []) ∷ (14 ∷ []) ∷ (14 ∷ []) ∷ (6 ∷ []) ∷
    (0 ∷ []) ∷ (14 ∷ []) ∷ (0 ∷ []) ∷ (14 ∷ []) ∷ (0 ∷ []) ∷ (14 ∷ []) ∷ (0 ∷ []) ∷ (14 ∷ []) ∷
    (0 ∷ []) ∷ (14 ∷ []) ∷ (0 ∷ []) ∷ (14 ∷ []) ∷ (0 ∷ []) ∷ (14 ∷ []) ∷ (0 ∷ []) ∷ (14 ∷ []) ∷ []
unfolding calls answer
signals = refl

-- ---- calls one after the other on one book, with the bytes that each changes: (number, changes, the lent buffer
-- afterwards)
signalled : disagreement 1 (quiet 14 2)
    (expect (signalling 1) (14 ∷ []) [] [] ∷
    expect (signalling 2) (0 ∷ []) ((3, 15 ∷ []) ∷ []) [] ∷
    expect (signalling 2) (14 ∷ []) [] [] ∷ []) ≡ 0
unfolding calls
signalled = refl

-- the timer's flag alone changes where the log and the pending entries are not empty
signalled_on_a_log : disagreement 1 (splice 4 (1 ∷ []) (settled 3 (entries_from 5 3)))
    (expect (signalling 1) (0 ∷ []) ((3, 1 ∷ []) ∷ []) [] ∷
    expect (moving (replicate 448 9)) (0 ∷ 1 ∷ 1 ∷ []) ((3, 3 ∷ []) ∷ []) (dummy_vote 2 1 ++ replicate 224 9) ∷
    expect (moving (replicate 448 9)) (0 ∷ 3 ∷ 1 ∷ 5 ∷ 0 ∷ []) ((3, 0 ∷ 2 ∷ []) ∷ [])
    (block_certificate 1 11 first ++ zeros 224) ∷
    expect (moving (replicate 448 9)) (0 ∷ 0 ∷ 0 ∷ []) [] (replicate 448 9) ∷ []) ≡ 0
unfolding calls
signalled_on_a_log = refl

-- ---- Submit
-- 13 for an entry that is pending, first or last, or in the log, first or last; 4 for other lengths, before 13; stale
-- places are not pending
submissions : map (λ e. answer (settled 2 (entries_from 5 4)) (submitting e))
    (entry 5 ∷ entry 6 ∷ entry 7 ∷ entry 1 ∷ entry 2 ∷ entry 3 ∷ zeros 16 ∷ [] ∷ take 15 (entry 5) ∷
    (entry 5 ++ (5 ∷ [])) ∷ (entry 5 ++ entry 5) ∷
    (take 15 (entry 5) ++ (6 ∷ [])) ∷ (2 ∷ replicate 15 5) ∷ []) ≡
    (13 ∷ []) ∷ (13 ∷ []) ∷ (0 ∷ []) ∷ (13 ∷ []) ∷ (13 ∷ []) ∷ (0 ∷ []) ∷ (0 ∷ []) ∷ (4 ∷ []) ∷ (4 ∷ []) ∷ (4 ∷
    []) ∷ (4 ∷ []) ∷
    (0 ∷ []) ∷ (0 ∷ []) ∷ []
unfolding calls answer
submissions = refl

-- 12: there is room for a 32nd entry and not for a 33rd, and 13 comes before it; those in the log are dropped before
-- they are counted
room : answer (waiting 30) (submitting (entry 100)) ∷ answer (waiting 31) (submitting (entry 100)) ∷
    answer (waiting 32) (submitting (entry 100)) ∷
    answer (waiting 32) (submitting (entry 32)) ∷
    answer (settled 32 (entries_from 1 32)) (submitting (entry 98)) ∷
    answer (settled 32 (entries_from 2 32)) (submitting (entry 98)) ∷
    answer (settled 32 (entries_from 3 32)) (submitting (entry 98)) ∷
    -- 32 pending entries that are alike
    answer (settled 32 (replicate 512 3)) (submitting (entry 98)) ∷
    answer (settled 32 (replicate 512 1)) (submitting (entry 98)) ∷ [] ≡
    (0 ∷ []) ∷ (0 ∷ []) ∷ (12 ∷ []) ∷
    (13 ∷ []) ∷
    (0 ∷ []) ∷ (0 ∷ []) ∷
    (12 ∷ []) ∷
    (12 ∷ []) ∷ (0 ∷ []) ∷ []
unfolding calls answer
room = refl

-- what is dropped, closed up, appended and zeroed: the first, a middle and the last of the pending entries are in the
-- log
submitted : disagreement 1
    (splice 3 (13 ∷ []) (settled 5 (entry 1 ++ (entry 7 ++ (entry 2 ++ (entry 8 ++ (entry 1 ++ replicate 32 5)))))))
    (expect (submitting (entry 9)) (0 ∷ []) ((6, 3 ∷ []) ∷ (64, entry 7 ++ (entry 8 ++ (entry 9 ++ zeros 464))) ∷
    []) [] ∷
    expect (submitting (entry 10)) (0 ∷ []) ((6, 4 ∷ []) ∷ (112, entry 10) ∷ []) [] ∷
    expect (submitting (entry 10)) (13 ∷ []) [] [] ∷ []) ≡ 0
unfolding calls
submitted = refl

-- the 32nd entry at the last place
last_place : disagreement 1 (waiting 31) (expect (submitting (entry 100)) (0 ∷ []) ((6, 32 ∷ []) ∷ (560, entry 100) ∷
    []) [] ∷ []) ≡ 0
unfolding calls
last_place = refl

-- ---- Register size and Read: buffers of 0, 31, 32, 33 bytes; a book that is not sound; an empty log
readings : disagreement 1 (settled 0 [])
    (expect sizing (0 ∷ 32 ∷ []) [] [] ∷
    expect (reading []) [] [] [] ∷
    expect (reading (replicate 31 9)) [] [] (replicate 31 9) ∷
    expect (reading (replicate 32 9)) (entry 1 ++ entry 2) [] (entry 1 ++ entry 2) ∷
    expect (reading (replicate 33 9)) (entry 1 ++ entry 2) [] (entry 1 ++ (entry 2 ++ (9 ∷ []))) ∷ []) ≡ 0
unfolding calls
readings = refl

unreadable : disagreement 1 (splice 7 (255 ∷ []) (settled 0 []))
    (expect sizing (1 ∷ []) [] [] ∷ expect (reading (replicate 64 9)) [] [] (replicate 64 9) ∷ []) ≡ 0
unfolding calls
unreadable = refl

empty_log : disagreement 1 (quiet 0 1)
    (expect sizing (0 ∷ 0 ∷ []) [] [] ∷ expect (reading []) [] [] [] ∷ expect (reading (9 ∷ [])) [] [] (9 ∷ []) ∷
    []) ≡ 0
unfolding calls
empty_log = refl

-- ---- Fetch
-- a block that is notarized and not linked, at height 2, whose masks are no quorums; a quorum of dummies and of
-- finalizes at height 1, without a block
unlinked : Bytes
unlinked =
    splice 1648 (new_block 2 1 (replicate 32 3) (entry 4 ∷ []))
    (splice 592 (0 ∷ 2 ∷ 13 ∷ 0 ∷ 3 ∷ 0 ∷ 5 ∷ 0 ∷ 15 ∷ [])
    (splice 576 (0 ∷ 0 ∷ 7 ∷ 0 ∷ 11 ∷ 0 ∷ 14 ∷ 0 ∷ 15 ∷ []) (quiet 0 1)))

-- the page certificate of height 2 although it is not linked; masks of their own kinds; bytes past 224 stay
fetches : disagreement 1 unlinked
    (expect (fetching 5 1 (replicate 230 9)) (11 ∷ []) [] (replicate 230 9) ∷
    expect (fetching 6 1 (replicate 230 9)) (0 ∷ []) [] (dummy_certificate 1 11 ++ replicate 6 9) ∷
    expect (fetching 7 1 (replicate 224 9)) (0 ∷ []) [] (finalize_certificate 1 14) ∷
    expect (fetching 5 2 (replicate 230 9)) (0 ∷ [])
    [] (block_certificate 2 13 (new_block 2 1 (replicate 32 3) (entry 4 ∷ [])) ++ replicate 6 9) ∷
    expect (fetching 6 2 (replicate 224 9)) (11 ∷ []) [] (replicate 224 9) ∷
    expect (fetching 7 2 (replicate 224 9)) (11 ∷ []) [] (replicate 224 9) ∷ []) ≡ 0
unfolding calls unlinked
fetches = refl

-- the frames written, as a list: that one, or none
fetched_frames : (fetch_call stand_in unlinked 6 1 (zeros 224)).frames ++ (fetch_call stand_in unlinked 6 2 (zeros 224)
    ).frames ≡
    dummy_certificate 1 11 ∷ []
unfolding calls unlinked
fetched_frames = refl

-- all that Fetch gives, by height, then kind: of that book two at height 1 and the page of height 2; of a height with
-- all three, page, dummies and finalizes, after the finalizes of the height below
every_certificate_lem : every_certificate (decode unlinked) ++
    every_certificate (state 4 0 0 1 0 0 [] (height 0 0 0 0 7 0 [] [] [] ∷
    height 1 2 13 14 11 15 [] (new_block 2 0 (zeros 32) []) [] ∷ vacant 0 ∷ [])) ≡
    (6 ∷ 0 ∷ 1 ∷ 0 ∷ 11 ∷ zeros 219) ∷
    (7 ∷ 0 ∷ 1 ∷ 0 ∷ 14 ∷ zeros 219) ∷
    (5 ∷ 0 ∷ 2 ∷ 0 ∷ 13 ∷
    (zeros 43 ++ (2 ∷ 0 ∷ 1 ∷ 0 ∷ 1 ∷ (zeros 11 ++ (replicate 32 3 ++ (entry 4 ++ zeros 112)))))) ∷
    (7 ∷ 0 ∷ 1 ∷ 0 ∷ 7 ∷ zeros 219) ∷
    (5 ∷ 0 ∷ 2 ∷ 0 ∷ 13 ∷ (zeros 43 ++ (2 ∷ zeros 175))) ∷
    (6 ∷ 0 ∷ 2 ∷ 0 ∷ 14 ∷ zeros 219) ∷
    (7 ∷ 0 ∷ 2 ∷ 0 ∷ 11 ∷ zeros 219) ∷ []
unfolding calls unlinked
every_certificate_lem = refl

-- 4 for kinds outside 5 to 7, 6 for heights outside 1 to H, 3 for replies below 224; in this order, and 11 after them
fetch_refusals : map (λ k. answer unlinked (fetching k 1 (zeros 224))) (counting 0 9) ++
    (map (λ h. answer unlinked (fetching 6 h (zeros 224))) (counting 0 4) ++
    (map (λ bytes. answer unlinked (fetching 6 1 (zeros bytes))) (0 ∷ 223 ∷ 224 ∷ 225 ∷ []) ++
    (answer unlinked (fetching 4 0 (zeros 223)) ∷ answer unlinked (fetching 6 3 (zeros 223)) ∷
    answer unlinked (fetching 6 2 (zeros 223)) ∷
    answer unlinked (fetching 256 1 (zeros 224)) ∷ []))) ≡
    (4 ∷ []) ∷ (4 ∷ []) ∷ (4 ∷ []) ∷ (4 ∷ []) ∷ (4 ∷ []) ∷ (11 ∷ []) ∷ (0 ∷ []) ∷ (0 ∷ []) ∷ (4 ∷ []) ∷
    (6 ∷ []) ∷ (0 ∷ []) ∷ (11 ∷ []) ∷ (6 ∷ []) ∷
    (3 ∷ []) ∷ (3 ∷ []) ∷ (0 ∷ []) ∷ (0 ∷ []) ∷
    (4 ∷ []) ∷ (6 ∷ []) ∷ (3 ∷ []) ∷
    (4 ∷ []) ∷ []
unfolding calls answer unlinked
fetch_refusals = refl

-- ---- Move: replies of 447, 448 and 450 bytes; bytes past what is written stay, whatever is written
replies : disagreement 1 (splice 580 (13 ∷ []) (quiet 1 1))
    (expect (moving (replicate 447 9)) (3 ∷ []) [] (replicate 447 9) ∷
    expect (moving []) (3 ∷ []) [] [] ∷
    expect (moving (replicate 448 9)) (0 ∷ 1 ∷ 1 ∷ []) ((3, 3 ∷ []) ∷ []) (dummy_vote 2 1 ++ replicate 224 9) ∷
    expect (moving (replicate 450 9)) (0 ∷ 3 ∷ 1 ∷ 6 ∷ 0 ∷ []) ((3, 0 ∷ 2 ∷ []) ∷ []) (dummy_certificate 1 13 ++
    (zeros 224 ++ (9 ∷ 9 ∷ []))) ∷
    expect (delivery (dummy_certificate 2 11)) (0 ∷ 1 ∷ []) ((596, 11 ∷ []) ∷ []) [] ∷
    expect (moving (replicate 450 9)) (0 ∷ 3 ∷ 2 ∷ 6 ∷ 4 ∷ []) ((4, 3 ∷ []) ∷ []) (dummy_certificate 2 11 ++
    (finalize 2 2 ++ (9 ∷ 9 ∷ []))) ∷
    expect (moving (replicate 450 9)) (0 ∷ 0 ∷ 0 ∷ []) [] (replicate 450 9) ∷ []) ≡ 0
unfolding calls
replies = refl

-- ---- every call refuses a book that is not sound, before all else, and leaves it and what it was lent
unsound : all_of
    (refuses 1 (splice 7 (255 ∷ []) (quiet 0 1)) (delivery []) ∷
    refuses 1 (splice 7 (255 ∷ []) (quiet 0 1)) (moving []) ∷
    refuses 1 (splice 7 (255 ∷ []) (quiet 0 1)) (signalling 0) ∷
    refuses 1 (splice 7 (255 ∷ []) (quiet 0 1)) (submitting []) ∷
    refuses 1 (splice 7 (255 ∷ []) (quiet 0 1)) sizing ∷
    refuses 1 (splice 7 (255 ∷ []) (quiet 0 1)) (fetching 0 0 []) ∷ []) ≡ true
unfolding calls
unsound = refl
