-- The definitions against an independent replica in Rust: its answers, books and buffers, call by call.
--
-- The rows are from the first and the third scenario that `cargo run --example vectors -- stand-in` prints
-- (host/reference, written from document 01 alone; its stand-in digest is `stand_in`). A row has the call, the numbers
-- of its answer, the parts of the book that it changed, and the lent buffer afterwards; a check gives the number of the
-- first row that differs, and 0 if none does.
use Rattle.std.specs.Prelude.{ℕ, zero, suc, ◌+◌, ◌≡◌, refl, [], ◌∷◌, ◌++◌, replicate}
use Rattle.protocol.specs.Bytes.{Bytes, zeros}
use Rattle.protocol.specs.Call.{opening, delivery, moving, signalling, submitting, sizing, reading, fetching}
use Rattle.check_books.specs.CheckCalls.{count_up, expect, disagreement, one_bytes, long_each, tools}

-- the entries of the scenarios: bytes that grow by 16
tagged : ℕ → ℕ → Bytes
tagged from zero = []
tagged from (suc count) = from ∷ tagged (from + 16) count

-- one replica and one height: two entries, moves with its own frames fed back, readings, fetches
alone : disagreement 1 (replicate 1456 90)
    (expect (opening (long_each 1) 1 0 1 (0 ∷ [])) (0 ∷ [])
    ((0, 1 ∷ 0 ∷ 0 ∷ 0 ∷ 0 ∷ 0 ∷ 0 ∷ 3 ∷ 1 ∷ (zeros 31 ++ (1 ∷ 0 ∷ 1 ∷ zeros 1413))) ∷ []) [] ∷
    expect (submitting (tagged 1 16)) (0 ∷ []) ((6, 1 ∷ []) ∷ (64, tagged 1 16) ∷ []) [] ∷
    expect (submitting (tagged 2 16)) (0 ∷ []) ((6, 2 ∷ []) ∷ (80, tagged 2 16) ∷ []) [] ∷
    expect (moving (replicate 448 170)) (0 ∷ 4 ∷ 1 ∷ []) ((3, 8 ∷ []) ∷ [])
    (1 ∷ 0 ∷ 1 ∷ (zeros 45 ++ (1 ∷ 0 ∷ 0 ∷ 0 ∷ 2 ∷
    (zeros 43 ++ (tagged 1 16 ++ (tagged 2 16 ++ (zeros 96 ++ (replicate 224 170)))))))) ∷
    expect (delivery (1 ∷ 0 ∷ 1 ∷ (zeros 45 ++ (1 ∷ 0 ∷ 0 ∷ 0 ∷ 2 ∷
    (zeros 43 ++ (tagged 1 16 ++ (tagged 2 16 ++ (zeros 96)))))))) (0 ∷ 1 ∷ [])
    ((577, 1 ∷ []) ∷ (592, 1 ∷ 0 ∷ 0 ∷ 0 ∷ 2 ∷ []) ∷ (640, tagged 1 16 ++ (tagged 2 16)) ∷ []) [] ∷
    expect (moving (replicate 448 170)) (0 ∷ 5 ∷ 1 ∷ []) ((3, 12 ∷ []) ∷ [])
    (2 ∷ 0 ∷ 1 ∷ (zeros 13 ++ (count_up 2 32 ++ (zeros 176 ++ (replicate 224 170))))) ∷
    expect (delivery (2 ∷ 0 ∷ 1 ∷ (zeros 13 ++ (count_up 2 32 ++ (zeros 176))))) (0 ∷ 1 ∷ [])
    ((577, 3 ∷ 1 ∷ (zeros 5 ++ (1 ∷ []))) ∷ (768, 1 ∷ 0 ∷ 0 ∷ 0 ∷ 2 ∷ []) ∷ (816, tagged 1 16 ++ (tagged 2 16)) ∷
    (944, count_up 2 32) ∷ []) [] ∷
    expect (moving (replicate 448 170)) (0 ∷ 3 ∷ 1 ∷ 5 ∷ 4 ∷ []) ((3, 0 ∷ []) ∷ (42, 2 ∷ []) ∷ [])
    (5 ∷ 0 ∷ 1 ∷ 0 ∷ 1 ∷ (zeros 43 ++ (1 ∷ 0 ∷ 0 ∷ 0 ∷ 2 ∷
    (zeros 43 ++ (tagged 1 16 ++ (tagged 2 16 ++ (zeros 96 ++ (4 ∷ 0 ∷ 1 ∷ zeros 221)))))))) ∷
    expect (delivery (5 ∷ 0 ∷ 1 ∷ 0 ∷ 1 ∷ (zeros 43 ++
    (1 ∷ 0 ∷ 0 ∷ 0 ∷ 2 ∷ (zeros 43 ++ (tagged 1 16 ++ (tagged 2 16 ++ (zeros 96)))))))) (0 ∷ 0 ∷ []) [] [] ∷
    expect (delivery (4 ∷ 0 ∷ 1 ∷ zeros 221)) (0 ∷ 1 ∷ []) ((582, 1 ∷ []) ∷ []) [] ∷
    expect (moving (replicate 448 170)) (0 ∷ 2 ∷ 1 ∷ []) ((44, 1 ∷ []) ∷ []) (replicate 448 170) ∷
    expect (moving (replicate 448 170)) (0 ∷ 0 ∷ 0 ∷ []) [] (replicate 448 170) ∷
    expect sizing (0 ∷ 32 ∷ []) [] [] ∷
    expect (reading []) [] [] [] ∷
    expect (reading (replicate 31 170)) [] [] (replicate 31 170) ∷
    expect (reading (replicate 32 170)) (tagged 1 16 ++ (tagged 2 16)) [] (tagged 1 16 ++ (tagged 2 16)) ∷
    expect (reading (replicate 40 170)) (tagged 1 16 ++ (tagged 2 16)) []
    (tagged 1 16 ++ (tagged 2 16 ++ (replicate 8 170))) ∷
    expect (submitting (tagged 1 16)) (13 ∷ []) [] [] ∷
    expect (submitting (tagged 3 16)) (0 ∷ []) ((6, 1 ∷ []) ∷ (64, tagged 3 16 ++ (zeros 16)) ∷ []) [] ∷
    expect (fetching 5 1 (replicate 224 170)) (0 ∷ []) []
    (5 ∷ 0 ∷ 1 ∷ 0 ∷ 1 ∷ (zeros 43 ++ (1 ∷ 0 ∷ 0 ∷ 0 ∷ 2 ∷
    (zeros 43 ++ (tagged 1 16 ++ (tagged 2 16 ++ (zeros 96))))))) ∷
    expect (fetching 6 1 (replicate 224 170)) (11 ∷ []) [] (replicate 224 170) ∷
    expect (fetching 7 1 (replicate 224 170)) (0 ∷ []) [] (7 ∷ 0 ∷ 1 ∷ 0 ∷ 1 ∷ zeros 219) ∷
    expect (signalling 1) (14 ∷ []) [] [] ∷ []) ≡ 0
unfolding tools tagged
alone = refl

-- four replicas and two heights: votes before the proposal, clashes, a leader who equivocates and the height passed
-- without a finalize, a block on a parent that was not notarized, a log of one entry
votes : disagreement 1 (replicate 2336 90)
    (expect (opening (long_each 4) 4 2 2 (0 ∷ 1 ∷ [])) (0 ∷ [])
    ((
      0,
      4 ∷ 2 ∷ 0 ∷ 0 ∷ 0 ∷ 0 ∷ 0 ∷ 3 ∷
          (one_bytes 4 ++ (zeros 24 ++ (2 ∷ 0 ∷ 1 ∷ (zeros 549 ++ (1 ∷ zeros 1743))))),
    ) ∷ []) [] ∷
    expect (delivery (2 ∷ 3 ∷ 1 ∷ (zeros 13 ++ (count_up 123 32 ++ (zeros 176))))) (0 ∷ 1 ∷ [])
    ((584, 8 ∷ []) ∷ (1056, count_up 123 32) ∷ []) [] ∷
    expect (delivery (2 ∷ 3 ∷ 1 ∷ (zeros 13 ++ (count_up 23 32 ++ (zeros 176))))) (8 ∷ []) [] [] ∷
    expect (delivery (2 ∷ 1 ∷ 1 ∷ (zeros 13 ++ (count_up 123 32 ++ (zeros 176))))) (0 ∷ 1 ∷ [])
    ((584, 10 ∷ []) ∷ (992, count_up 123 32) ∷ []) [] ∷
    expect (delivery (2 ∷ 0 ∷ 1 ∷ (zeros 13 ++ (count_up 23 32 ++ (zeros 176))))) (0 ∷ 1 ∷ [])
    ((584, 11 ∷ []) ∷ (960, count_up 23 32) ∷ []) [] ∷
    expect (delivery (1 ∷ 0 ∷ 1 ∷ (zeros 45 ++ (1 ∷ 0 ∷ 0 ∷ 0 ∷ 1 ∷ (zeros 43 ++ (tagged 1 16 ++ (zeros 112)))))))
    (0 ∷ 1 ∷ []) ((577, 1 ∷ []) ∷ (608, 1 ∷ 0 ∷ 0 ∷ 0 ∷ 1 ∷ []) ∷ (656, tagged 1 16) ∷ []) [] ∷
    expect (delivery (1 ∷ 0 ∷ 1 ∷ (zeros 45 ++ (1 ∷ 0 ∷ 0 ∷ 0 ∷ 1 ∷ (zeros 43 ++ (tagged 1 16 ++ (zeros 112)))))))
    (0 ∷ 0 ∷ []) [] [] ∷
    expect (delivery (1 ∷ 0 ∷ 1 ∷ (zeros 45 ++ (1 ∷ 0 ∷ 0 ∷ 0 ∷ 1 ∷ (zeros 43 ++ (tagged 2 16 ++ (zeros 112)))))))
    (0 ∷ 1 ∷ []) ((3, 1 ∷ []) ∷ []) [] ∷
    expect (moving (replicate 448 170)) (0 ∷ 1 ∷ 1 ∷ []) ((3, 3 ∷ []) ∷ [])
    (3 ∷ 2 ∷ 1 ∷ (zeros 221 ++ (replicate 224 170))) ∷
    expect (delivery (3 ∷ 2 ∷ 1 ∷ zeros 221)) (0 ∷ 1 ∷ []) ((580, 4 ∷ []) ∷ []) [] ∷
    expect (moving (replicate 448 170)) (0 ∷ 5 ∷ 1 ∷ []) ((3, 7 ∷ []) ∷ [])
    (2 ∷ 2 ∷ 1 ∷ (zeros 13 ++ (count_up 123 32 ++ (zeros 176 ++ (replicate 224 170))))) ∷
    expect (delivery (2 ∷ 2 ∷ 1 ∷ (zeros 13 ++ (count_up 123 32 ++ (zeros 176))))) (0 ∷ 1 ∷ [])
    ((577, 3 ∷ 14 ∷ []) ∷ (584, 15 ∷ []) ∷ (784, 1 ∷ 0 ∷ 0 ∷ 0 ∷ 1 ∷ []) ∷ (832, tagged 1 16) ∷
    (1024, count_up 123 32) ∷ []) [] ∷
    expect (moving (replicate 448 170)) (0 ∷ 3 ∷ 1 ∷ 5 ∷ 0 ∷ []) ((3, 0 ∷ []) ∷ (42, 2 ∷ []) ∷ [])
    (5 ∷ 0 ∷ 1 ∷ 0 ∷ 14 ∷ (zeros 43 ++ (1 ∷ 0 ∷ 0 ∷ 0 ∷ 1 ∷
    (zeros 43 ++ (tagged 1 16 ++ (zeros 112 ++ (zeros 224))))))) ∷
    expect (delivery (5 ∷ 0 ∷ 1 ∷ 0 ∷ 14 ∷ (zeros
    43 ++ (1 ∷ 0 ∷ 0 ∷ 0 ∷ 1 ∷ (zeros 43 ++ (tagged 1 16 ++ (zeros 112))))))) (0 ∷ 0 ∷ []) [] [] ∷
    expect (moving (replicate 448 170)) (0 ∷ 0 ∷ 0 ∷ []) [] (replicate 448 170) ∷
    expect (delivery (5 ∷ 0 ∷ 1 ∷ 0 ∷ 15 ∷ (zeros
    43 ++ (1 ∷ 0 ∷ 0 ∷ 0 ∷ 1 ∷ (zeros 43 ++ (tagged 1 16 ++ (zeros 112))))))) (0 ∷ 0 ∷ []) [] [] ∷
    expect (delivery (5 ∷ 0 ∷ 1 ∷ 0 ∷ 15 ∷ (zeros
    43 ++ (1 ∷ 0 ∷ 0 ∷ 0 ∷ 1 ∷ (zeros 43 ++ (tagged 2 16 ++ (zeros 112))))))) (10 ∷ []) [] [] ∷
    expect (delivery (5 ∷ 0 ∷ 2 ∷ 0 ∷ 7 ∷ (zeros 43 ++ (2 ∷ 0 ∷ 1 ∷ (zeros 13 ++ (count_up 23 32 ++ (zeros 128)))))))
    (0 ∷ 1 ∷ []) ((593, 2 ∷ 7 ∷ []) ∷ (1648, 2 ∷ 0 ∷ 1 ∷ []) ∷ (1664, count_up 23 32) ∷ []) [] ∷
    expect (delivery (1 ∷ 1 ∷ 2 ∷ (zeros 45 ++ (2 ∷ 0 ∷ 1 ∷ 0 ∷ 2 ∷
    (zeros 11 ++ (count_up 123 32 ++ (tagged 3 16 ++ (tagged 1 16 ++ (zeros 96))))))))) (0 ∷ 1 ∷ [])
    ((593, 3 ∷ []) ∷ (1472, 2 ∷ 0 ∷ 1 ∷ 0 ∷ 2 ∷ []) ∷ (1488, count_up 123 32 ++ (tagged 3 16 ++ (tagged 1 16))) ∷ [])
    [] ∷
    expect (moving (replicate 448 170)) (0 ∷ 5 ∷ 2 ∷ []) ((3, 4 ∷ []) ∷ [])
    (2 ∷ 2 ∷ 2 ∷ (zeros 13 ++ (count_up 85 32 ++ (zeros 176 ++ (replicate 224 170))))) ∷
    expect (delivery (2 ∷ 2 ∷ 2 ∷ (zeros 13 ++ (count_up 85 32 ++ (zeros 176))))) (0 ∷ 1 ∷ [])
    ((600, 4 ∷ []) ∷ (1888, count_up 85 32) ∷ []) [] ∷
    expect (moving (replicate 448 170)) (0 ∷ 0 ∷ 0 ∷ []) [] (replicate 448 170) ∷
    expect (delivery (7 ∷ 0 ∷ 2 ∷ 0 ∷ 7 ∷ zeros 219)) (0 ∷ 1 ∷ []) ((598, 7 ∷ []) ∷ []) [] ∷
    expect (delivery (7 ∷ 0 ∷ 1 ∷ 0 ∷ 13 ∷ zeros 219)) (0 ∷ 1 ∷ []) ((582, 13 ∷ []) ∷ []) [] ∷
    expect (moving (replicate 448 170)) (0 ∷ 2 ∷ 1 ∷ []) ((44, 1 ∷ []) ∷ []) (replicate 448 170) ∷
    expect (moving (replicate 448 170)) (0 ∷ 0 ∷ 0 ∷ []) [] (replicate 448 170) ∷
    expect (reading (replicate 64 170)) (tagged 1 16) [] (tagged 1 16 ++ (replicate 48 170)) ∷ []) ≡ 0
unfolding tools tagged
votes = refl
