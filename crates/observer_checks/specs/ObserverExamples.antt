-- The examples of an observer (document 02, 2.3) as one table, which one theorem covers: a call on a book, its answer,
-- the bytes that it changes, and the lent buffer after it.
use Rattle.std.specs.Prelude.{ℕ, ◌≡◌, refl, cond, List, [], ◌∷◌, ◌++◌, replicate}
use Rattle.protocol.specs.Bytes.{Bytes, zeros}
use Rattle.protocol.specs.Frame.{proposal, dummy_vote, finalize, block_certificate, dummy_certificate}
use Rattle.protocol.specs.Frame.{finalize_certificate}
use Rattle.protocol.specs.ObserverCall.{ObserverCall, observer_opening, observer_delivery, observer_moving}
use Rattle.protocol.specs.ObserverCall.{observer_sizing, observer_reading}
use Rattle.check_books.specs.CheckCalls.{splice, one_each}
use Rattle.check_books.specs.CheckObservers.{Observed, is_observed, new_book, lowest, season, season_to}
use Rattle.check_books.specs.CheckObservers.{other, middle, season_entries, damaged, replica_book, with_byte}
use Rattle.check_books.specs.CheckObservers.{observer_tools}

pub data Name : Type 0 where
  opening_a_book : Name
  too_many_replicas : Name
  no_height_lem : Name
  too_few_weights : Name
  length_beside : Name
  no_frame_lem : Name
  bad_block : Name
  vote_of_height_0 : Name
  vote_of_height_99 : Name
  vote_of_signer_99 : Name
  finalize_of_one : Name
  certificate_of_height_4 : Name
  certificate_of_bit_4 : Name
  certificate_of_two : Name
  another_block : Name
  block_heard : Name
  block_again : Name
  dummies_heard : Name
  dummies_added : Name
  dummies_again : Name
  finalizes_heard : Name
  finalizes_without_block : Name
  output_of_3 : Name
  output_again : Name
  empty_log : Name
  log_size_lem : Name
  log_read : Name
  short_buffer : Name
  book_of_a_replica : Name
  current_height_1 : Name

row : Name → Bytes → ObserverCall → List ℕ → List (ℕ × Bytes) → Bytes → Name × Observed
row name book call numbers changes buffer =
    (name, record { book = book; call = call; numbers = numbers; changes = changes; buffer = buffer })

table : List (Name × Observed)
table =
    row opening_a_book (replicate 248 9) (observer_opening (one_each 4) 4 1) (0 ∷ [])
    ((0, 4 ∷ 0 ∷ 1 ∷ 0 ∷ 0 ∷ 0 ∷ 0 ∷ 2 ∷ 1 ∷ 0 ∷ 1 ∷ 0 ∷ 1 ∷ 0 ∷ 1 ∷ zeros 233) ∷ []) [] ∷
    row too_many_replicas (new_book 4 1) (observer_opening (one_each 17) 17 1) (2 ∷ []) [] [] ∷
    row no_height_lem (new_book 4 1) (observer_opening (one_each 4) 4 0) (2 ∷ []) [] [] ∷
    row too_few_weights (new_book 4 1) (observer_opening (one_each 3) 4 1) (2 ∷ []) [] [] ∷
    row length_beside (replicate 247 9) (observer_opening (one_each 4) 4 1) (1 ∷ []) [] [] ∷
    row no_frame_lem season (observer_delivery (with_byte 0 8 (dummy_vote 0 1))) (4 ∷ []) [] [] ∷
    row bad_block season (observer_delivery (proposal 0 2 lowest)) (4 ∷ []) [] [] ∷
    row vote_of_height_0 season (observer_delivery (dummy_vote 0 0)) (16 ∷ []) [] [] ∷
    row vote_of_height_99 season (observer_delivery (dummy_vote 0 99)) (16 ∷ []) [] [] ∷
    row vote_of_signer_99 season (observer_delivery (dummy_vote 99 1)) (16 ∷ []) [] [] ∷
    row finalize_of_one season (observer_delivery (finalize 0 1)) (16 ∷ []) [] [] ∷
    row certificate_of_height_4 season (observer_delivery (dummy_certificate 4 23)) (6 ∷ []) [] [] ∷
    row certificate_of_bit_4 season (observer_delivery (dummy_certificate 1 16)) (5 ∷ []) [] [] ∷
    row certificate_of_two season (observer_delivery (block_certificate 1 3 other)) (9 ∷ []) [] [] ∷
    row another_block season (observer_delivery (block_certificate 1 7 other)) (10 ∷ []) [] [] ∷
    row block_heard season (observer_delivery (block_certificate 2 14 middle)) (0 ∷ 1 ∷ [])
    ((72, 2 ∷ 0 ∷ 14 ∷ []) ∷ (264, middle) ∷ []) [] ∷
    row block_again season (observer_delivery (block_certificate 1 15 lowest)) (0 ∷ 0 ∷ []) [] [] ∷
    row dummies_heard season (observer_delivery (dummy_certificate 3 7)) (0 ∷ 1 ∷ []) ((84, 7 ∷ []) ∷ []) [] ∷
    row dummies_added season (observer_delivery (dummy_certificate 2 14)) (0 ∷ 1 ∷ []) ((76, 15 ∷ []) ∷ []) [] ∷
    row dummies_again season (observer_delivery (dummy_certificate 2 7)) (0 ∷ 0 ∷ []) [] [] ∷
    row finalizes_heard season (observer_delivery (finalize_certificate 2 7)) (0 ∷ 1 ∷ []) ((78, 7 ∷ []) ∷ []) [] ∷
    row finalizes_without_block (splice 70 (7 ∷ []) (new_book 4 1)) observer_moving (0 ∷ 0 ∷ 0 ∷ []) [] [] ∷
    row output_of_3 season observer_moving (0 ∷ 2 ∷ 3 ∷ []) ((5, 3 ∷ []) ∷ []) [] ∷
    row output_again (season_to 3) observer_moving (0 ∷ 0 ∷ 0 ∷ []) [] [] ∷
    row empty_log season observer_sizing (0 ∷ 0 ∷ []) [] [] ∷
    row log_size_lem (season_to 3) observer_sizing (0 ∷ 48 ∷ []) [] [] ∷
    row log_read (season_to 3) (observer_reading (replicate 49 170)) season_entries [] (season_entries ++ (170 ∷ [])) ∷
    row short_buffer (season_to 3) (observer_reading (replicate 47 170)) [] [] (replicate 47 170) ∷
    row book_of_a_replica replica_book observer_moving (1 ∷ []) [] [] ∷
    row current_height_1 damaged observer_sizing (1 ∷ []) [] [] ∷ []

-- the names of the rows that are not as expected
failing : List (Name × Observed) → List Name
failing [] = []
failing (x ∷ xs) =
    let rest : List Name = failing xs in
    cond (is_observed x.1) rest (x.0 ∷ rest)

-- every row of the table holds
examples : failing table ≡ []
unfolding observer_tools row table failing
examples = refl
