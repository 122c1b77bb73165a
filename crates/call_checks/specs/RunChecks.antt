-- The definitions on whole runs: document 01's rehearsal, a height finalized by votes and one by certificates, and its
-- list of errors.
use Rattle.std.specs.Prelude.{ℕ, zero, suc, ◌≡◌, refl, cond, List, [], ◌∷◌, ◌++◌, eqb}
use Rattle.protocol.specs.Bytes.{Bytes, zeros}
use Rattle.protocol.specs.Block.{new_block}
use Rattle.protocol.specs.Frame.{kind, signer, frame_height, proposal, block_vote, dummy_vote, finalize, block_certificate}
use Rattle.protocol.specs.Frame.{dummy_certificate, finalize_certificate}
use Rattle.protocol.specs.Answer.{Answer, refused, accepted, Delivery, known, fresh, Move, idle, vote_dummy, output}
use Rattle.protocol.specs.Answer.{pass, propose, vote_block, Outcome, certificate_kind, finalize_kind, move_number}
use Rattle.protocol.specs.Deliver.{deliver_call}
use Rattle.protocol.specs.Move.{MoveOutcome, move_call}
use Rattle.protocol.specs.Call.{Call, opening, delivery, moving, signalling, submitting, sizing, reading}
use Rattle.check_books.specs.CheckCalls.{stand_in, after, answers, one_each, tools}
use Rattle.check_books.specs.CheckStates.{entry}

-- ---- the rehearsal
-- a line of the rehearsal's output, by its first word
pub data Line : Type 0 where
  take : (k h s : ℕ) → Line
  same : (k h s : ℕ) → Line
  deny : ℕ → Line
  dummy : ℕ → Line
  final : ℕ → Line
  passed : (h k f : ℕ) → Line
  offer : ℕ → Line
  vote : ℕ → Line

delivery_line : Bytes → Answer Delivery → Line
delivery_line frame (refused number) = deny number
delivery_line frame (accepted known) = same (kind frame) (frame_height frame) (signer frame)
delivery_line frame (accepted fresh) = take (kind frame) (frame_height frame) (signer frame)

-- the line of a move; none where the replica is idle
move_line : Move → List Line
move_line idle = []
move_line (vote_dummy h) = dummy h ∷ []
move_line (output g) = final g ∷ []
move_line (pass h certificate finalized) = passed h (certificate_kind certificate) (finalize_kind finalized) ∷ []
move_line (propose h) = offer h ∷ []
move_line (vote_block h) = vote h ∷ []

-- the lines of moves and the book after them
abbrev Run : Type 0
Run = List Line × Bytes

-- a move's line before those of the later moves; idle ends the run
proceed : Answer Move → Bytes → Run → Run
proceed (refused number) book later = (deny number ∷ [], book)
proceed (accepted move) book later = cond (eqb (move_number move) 0) ([], book) (move_line move ++ later.0, later.1)

-- moves until idle; a line that the program cannot print marks a run that is longer than the fuel
until_idle : ℕ → Bytes → Run
until_idle zero book = (deny 0 ∷ [], book)
until_idle (suc fuel) book =
    let o : MoveOutcome = move_call stand_in book (zeros 448) in
    let later : Run = until_idle fuel o.book in
    proceed o.answer book later

-- each frame is delivered, then the replica moves until idle; its own frames are not delivered to it
rehearse : Bytes → List Bytes → List Line
rehearse book [] = []
rehearse book (frame ∷ frames) =
    let o : Outcome Delivery = deliver_call stand_in book frame in
    let run : Run = until_idle 6 o.book in
    delivery_line frame o.answer ∷ (run.0 ++ rehearse run.1 frames)

-- document 01's book and input
rehearsal_book : Bytes
rehearsal_book = after (zeros 3216) (opening (one_each 4) 4 2 3 (0 ∷ 1 ∷ 2 ∷ []) ∷ [])

rehearsal_input : List Bytes
rehearsal_input =
    dummy_vote 0 1 ∷ dummy_vote 1 1 ∷ dummy_vote 2 1 ∷ dummy_certificate 2 7 ∷ dummy_certificate 2 7 ∷ []

-- and its eight lines
rehearsal : rehearse rehearsal_book rehearsal_input ≡
    take 3 1 0 ∷
    take 3 1 1 ∷
    take 3 1 2 ∷
    passed 1 6 4 ∷
    take 6 2 0 ∷
    passed 2 6 4 ∷
    offer 3 ∷
    same 6 2 0 ∷ []
unfolding tools delivery_line move_line proceed until_idle rehearse rehearsal_book rehearsal_input
rehearsal = refl

-- a short last frame is denied by 4
rehearsal_short : rehearse rehearsal_book (dummy_vote 0 1 ∷ (3 ∷ 1 ∷ []) ∷ []) ≡ take 3 1 0 ∷ deny 4 ∷ []
unfolding tools delivery_line move_line proceed until_idle rehearse rehearsal_book
rehearsal_short = refl

-- ---- two heights of four replicas, at replica 0, which leads height 1
-- the block that replica 0 proposes with one pending entry, and one of replica 1 on it
first : Bytes
first = new_block 1 0 (zeros 32) (entry 1 ∷ [])

second : Bytes
second = new_block 2 1 (stand_in first) (entry 2 ∷ entry 3 ∷ [])

-- height 1 by single votes (the proposal, three block votes, three finalizes), height 2 by certificates, the finalize
-- one first
two_heights : List Call
two_heights =
    opening (one_each 4) 4 0 2 (0 ∷ 1 ∷ []) ∷
    submitting (entry 1) ∷
    moving (zeros 448) ∷
    delivery (proposal 0 1 first) ∷
    moving (zeros 448) ∷
    delivery (block_vote 0 1 (stand_in first)) ∷
    delivery (block_vote 1 1 (stand_in first)) ∷
    delivery (block_vote 1 1 (stand_in first)) ∷
    delivery (block_vote 2 1 (stand_in first)) ∷
    moving (zeros 448) ∷
    delivery (finalize 0 1) ∷
    delivery (finalize 1 1) ∷
    delivery (finalize 2 1) ∷
    moving (zeros 448) ∷
    sizing ∷
    delivery (finalize_certificate 2 14) ∷
    moving (zeros 448) ∷
    delivery (block_certificate 2 7 second) ∷
    delivery (block_certificate 2 11 second) ∷
    moving (zeros 448) ∷
    moving (zeros 448) ∷
    moving (zeros 448) ∷
    reading (zeros 47) ∷
    reading (zeros 50) ∷
    submitting (entry 3) ∷
    submitting (entry 4) ∷ []

two_heights_lem : answers (zeros 2336) two_heights ≡
    (0 ∷ []) ∷
    (0 ∷ []) ∷
    -- propose 1; the proposal is fresh; vote 1; the second vote of one signer is known
    (0 ∷ 4 ∷ 1 ∷ []) ∷
    (0 ∷ 1 ∷ []) ∷
    (0 ∷ 5 ∷ 1 ∷ []) ∷
    (0 ∷ 1 ∷ []) ∷
    (0 ∷ 1 ∷ []) ∷
    (0 ∷ 0 ∷ []) ∷
    (0 ∷ 1 ∷ []) ∷
    -- pass 1 on the block, with a finalize
    (0 ∷ 3 ∷ 1 ∷ 5 ∷ 4 ∷ []) ∷
    (0 ∷ 1 ∷ []) ∷
    (0 ∷ 1 ∷ []) ∷
    (0 ∷ 1 ∷ []) ∷
    -- output 1; the log has one entry
    (0 ∷ 2 ∷ 1 ∷ []) ∷
    (0 ∷ 16 ∷ []) ∷
    -- idle while height 2 has no block; the same block with another mask is known
    (0 ∷ 1 ∷ []) ∷
    (0 ∷ 0 ∷ 0 ∷ []) ∷
    (0 ∷ 1 ∷ []) ∷
    (0 ∷ 0 ∷ []) ∷
    -- output 2, pass 2, idle after the last height
    (0 ∷ 2 ∷ 2 ∷ []) ∷
    (0 ∷ 3 ∷ 2 ∷ 5 ∷ 4 ∷ []) ∷
    (0 ∷ 0 ∷ 0 ∷ []) ∷
    -- a buffer of 47 bytes is too short; the log, oldest block first; its entries are refused, others not
    [] ∷
    (entry 1 ++ (entry 2 ++ entry 3)) ∷
    (13 ∷ []) ∷
    (0 ∷ []) ∷ []
unfolding tools entry first second two_heights
two_heights_lem = refl

-- ---- the order of the moves, and the errors that document 01 lists
-- where the timer fired and height 1 is notarized and finalized: moves 1, 2 and 3, the last without a finalize
all_apply : answers (zeros 1456)
    (opening (one_each 4) 4 0 1 (0 ∷ []) ∷
    delivery (proposal 0 1 first) ∷
    delivery (block_certificate 1 7 first) ∷
    delivery (finalize_certificate 1 7) ∷
    signalling 1 ∷
    moving (zeros 448) ∷
    moving (zeros 448) ∷
    moving (zeros 448) ∷
    moving (zeros 448) ∷ []) ≡
    (0 ∷ []) ∷
    (0 ∷ 1 ∷ []) ∷
    (0 ∷ 1 ∷ []) ∷
    (0 ∷ 1 ∷ []) ∷
    (0 ∷ []) ∷
    (0 ∷ 1 ∷ 1 ∷ []) ∷
    (0 ∷ 2 ∷ 1 ∷ []) ∷
    (0 ∷ 3 ∷ 1 ∷ 5 ∷ 0 ∷ []) ∷
    (0 ∷ 0 ∷ 0 ∷ []) ∷ []
unfolding tools entry first
all_apply = refl

-- the leader holds a proposal: move 4, then 5; the timer then fires after the vote, and its flag stays after the dummy
-- vote
vote_and_dummy : answers (zeros 1456)
    (opening (one_each 4) 4 0 1 (0 ∷ []) ∷
    delivery (proposal 0 1 first) ∷
    moving (zeros 448) ∷
    moving (zeros 448) ∷
    signalling 1 ∷
    moving (zeros 448) ∷
    signalling 1 ∷
    moving (zeros 448) ∷ []) ≡
    (0 ∷ []) ∷
    (0 ∷ 1 ∷ []) ∷
    (0 ∷ 4 ∷ 1 ∷ []) ∷
    (0 ∷ 5 ∷ 1 ∷ []) ∷
    (0 ∷ []) ∷
    (0 ∷ 1 ∷ 1 ∷ []) ∷
    (14 ∷ []) ∷
    (0 ∷ 0 ∷ 0 ∷ []) ∷ []
unfolding tools entry first
vote_and_dummy = refl

-- a block vote after a dummy vote; one signer's dummy votes count once
dummy_and_vote : answers (zeros 1456)
    (opening (one_each 4) 4 1 1 (0 ∷ []) ∷
    signalling 1 ∷
    moving (zeros 448) ∷
    delivery (proposal 0 1 first) ∷
    moving (zeros 448) ∷
    delivery (dummy_vote 1 1) ∷
    delivery (dummy_vote 1 1) ∷
    delivery (dummy_vote 2 1) ∷
    moving (zeros 448) ∷ []) ≡
    (0 ∷ []) ∷
    (0 ∷ []) ∷
    (0 ∷ 1 ∷ 1 ∷ []) ∷
    (0 ∷ 1 ∷ []) ∷
    (0 ∷ 5 ∷ 1 ∷ []) ∷
    (0 ∷ 1 ∷ []) ∷
    (0 ∷ 0 ∷ []) ∷
    (0 ∷ 1 ∷ []) ∷
    (0 ∷ 0 ∷ 0 ∷ []) ∷ []
unfolding tools entry first
dummy_and_vote = refl
