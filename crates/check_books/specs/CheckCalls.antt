-- Calls with their answers as numbers, and a digest that computes: what the checks of the definitions run.
use Rattle.std.specs.Prelude.{ℕ, zero, suc, ◌+◌, ◌*◌, ◌%◌, Bool, ◌&&◌, cond, List, [], ◌∷◌, ◌++◌, map, length, replicate, take, drop}
use Rattle.protocol.specs.Bytes.{Bytes, byte_at, le16, zeros, join, same}
use Rattle.protocol.specs.Answer.{Answer, refused, accepted, Done, Delivery, known, fresh, Counts, Move, idle}
use Rattle.protocol.specs.Answer.{vote_dummy, output, pass, propose, vote_block, certificate_kind, finalize_kind}
use Rattle.protocol.specs.Answer.{move_number, move_height}
use Rattle.protocol.specs.Open.{Opening, weighed, long, open_call}
use Rattle.protocol.specs.Deliver.{deliver_call}
use Rattle.protocol.specs.Packet.{packet_call}
use Rattle.protocol.specs.Move.{move_call}
use Rattle.protocol.specs.Signal.{signal_call}
use Rattle.protocol.specs.Submit.{submit_call}
use Rattle.protocol.specs.Read.{size_call, read_part, read_buffer}
use Rattle.protocol.specs.Fetch.{fetch_call}
use Rattle.protocol.specs.Call.{Call, opening, delivery, packet_delivery, moving, signalling, submitting, sizing}
use Rattle.protocol.specs.Call.{reading, fetching, book_after, book_after_all}
use Rattle.protocol.specs.Computing.{everything}

-- ---- a stand-in for SHA-256: byte i is the sum of each byte times its place counted from 1, plus i, modulo 251
unfoldable pub place_sum : ℕ → Bytes → ℕ
place_sum place [] = 0
place_sum place (x ∷ xs) = place * x + place_sum (suc place) xs

unfoldable pub count_up : ℕ → ℕ → Bytes
count_up from zero = []
count_up from (suc count) = from % 251 ∷ count_up (suc from) count

unfoldable pub stand_in : Bytes → Bytes
stand_in bytes = count_up (place_sum 1 bytes) 32

-- ---- weights
-- the bytes of weights, two a replica, the low one first
unfoldable pub two_bytes : List ℕ → Bytes
two_bytes weights = join (map le16 weights)

-- the way to open with these weights
unfoldable pub weighing : List ℕ → Opening
weighing weights = weighed (two_bytes weights)

-- the bytes of n weights of 1, and the way to open with them
unfoldable pub one_bytes : ℕ → Bytes
one_bytes n = join (replicate n (1 ∷ 0 ∷ []))

unfoldable pub one_each : ℕ → Opening
one_each n = weighed (one_bytes n)

-- the same for a book of edition 3
unfoldable pub long_each : ℕ → Opening
long_each n = long (one_bytes n)

-- ---- answers as numbers
-- a refusal's number alone, or 0 and what the answer says; of a reading the part that it returns
unfoldable pub numbers_of : {A : Type 0} → (A → List ℕ) → Answer A → List ℕ
numbers_of told (refused number) = number ∷ []
numbers_of told (accepted x) = 0 ∷ told x

unfoldable pub done_numbers : Done → List ℕ
done_numbers x = []

unfoldable pub delivery_numbers : Delivery → List ℕ
delivery_numbers known = 0 ∷ []
delivery_numbers fresh = 1 ∷ []

unfoldable pub count_numbers : Counts → List ℕ
count_numbers c = c.fresh_frames ∷ c.known_frames ∷ c.refused_frames ∷ []

-- what a pass says besides its height
unfoldable pub pass_numbers : Move → List ℕ
pass_numbers idle = []
pass_numbers (vote_dummy h) = []
pass_numbers (output g) = []
pass_numbers (pass h certificate finalized) = certificate_kind certificate ∷ finalize_kind finalized ∷ []
pass_numbers (propose h) = []
pass_numbers (vote_block h) = []

unfoldable pub move_numbers : Move → List ℕ
move_numbers move = move_number move ∷ move_height move ∷ pass_numbers move

-- a call's answer on a book, with the stand-in digest
unfoldable pub answer_of : Bytes → Call → List ℕ
answer_of book (opening way n own heights leaders) =
    numbers_of done_numbers (open_call way book n own heights leaders).answer
answer_of book (delivery frame) = numbers_of delivery_numbers (deliver_call stand_in book frame).answer
answer_of book (packet_delivery packet) = numbers_of count_numbers (packet_call stand_in book packet).answer
answer_of book (moving reply) = numbers_of move_numbers (move_call stand_in book reply).answer
answer_of book (signalling h) = numbers_of done_numbers (signal_call stand_in book h).answer
answer_of book (submitting entry) = numbers_of done_numbers (submit_call stand_in book entry).answer
answer_of book sizing = numbers_of (λ size. size ∷ []) (size_call stand_in book)
answer_of book (reading buffer) = read_part stand_in book buffer
answer_of book (fetching k h reply) = numbers_of done_numbers (fetch_call stand_in book k h reply).answer

-- ---- the bytes that a call is lent, and these bytes after it
unfoldable pub lent : Call → Bytes
lent (opening way n own heights leaders) = []
lent (delivery frame) = []
lent (packet_delivery packet) = []
lent (moving reply) = reply
lent (signalling h) = []
lent (submitting entry) = []
lent sizing = []
lent (reading buffer) = buffer
lent (fetching k h reply) = reply

unfoldable pub lent_after : Bytes → Call → Bytes
lent_after book (opening way n own heights leaders) = []
lent_after book (delivery frame) = []
lent_after book (packet_delivery packet) = []
lent_after book (moving reply) = (move_call stand_in book reply).reply
lent_after book (signalling h) = []
lent_after book (submitting entry) = []
lent_after book sizing = []
lent_after book (reading buffer) = read_buffer stand_in book buffer
lent_after book (fetching k h reply) = (fetch_call stand_in book k h reply).reply

-- ---- a call on a book
-- its answer as numbers, the book afterwards, and the lent buffer afterwards where there is one
pub record Result : Type 0 where
  pub numbers : List ℕ
  pub book : Bytes
  pub buffer : Bytes

unfoldable pub perform : Bytes → Call → Result
perform book call =
    record { numbers = answer_of book call; book = book_after stand_in book call; buffer = lent_after book call }

-- the book after a list of calls
abbrev pub after : Bytes → List Call → Bytes
after book calls = book_after_all stand_in book calls

-- the answers of a list of calls
unfoldable pub answers : Bytes → List Call → List (List ℕ)
answers book [] = []
answers book (call ∷ calls) =
    let r : Result = perform book call in
    r.numbers ∷ answers r.book calls

-- a call is refused by this number, and leaves the book and what it was lent as they were
unfoldable pub refuses : ℕ → Bytes → Call → Bool
refuses number book call =
    let r : Result = perform book call in
    same r.numbers (number ∷ []) && (same r.book book && same r.buffer (lent call))

-- a byte string with other bytes from a place on
unfoldable pub splice : ℕ → Bytes → Bytes → Bytes
splice place new bytes = take place bytes ++ (new ++ drop (place + length new) bytes)

-- the book of edition 1 with the same in it, where each replica weighs 1
unfoldable pub first_edition : Bytes → Bytes
first_edition book = splice 7 (1 ∷ zeros 56) book

-- the book of edition 3 with the same in it, of one of edition 2: H, the current and the finalized height stand further
-- back, in two bytes each
unfoldable pub third_edition : Bytes → Bytes
third_edition book =
    splice 40 (byte_at book 2 ∷ 0 ∷ byte_at book 4 ∷ 0 ∷ byte_at book 5 ∷ 0 ∷ [])
    (splice 2 (0 ∷ []) (splice 4 (0 ∷ 0 ∷ []) (splice 7 (3 ∷ []) book)))

-- ---- calls with what is expected of them
pub record Expected : Type 0 where
  pub call : Call
  pub numbers : List ℕ
  -- the parts of the book that the call changed, by their places
  pub changes : List (ℕ × Bytes)
  pub buffer : Bytes

unfoldable pub expect : Call → List ℕ → List (ℕ × Bytes) → Bytes → Expected
expect call numbers changes buffer = record { call = call; numbers = numbers; changes = changes; buffer = buffer }

unfoldable pub changed : List (ℕ × Bytes) → Bytes → Bytes
changed [] book = book
changed (x ∷ xs) book = changed xs (splice x.0 x.1 book)

unfoldable pub agrees : Bytes → Result → Expected → Bool
agrees book r x =
    same r.numbers x.numbers && (same r.book (changed x.changes book) && same r.buffer x.buffer)

-- the number of the first call whose result is not the expected one, counted from `i`, and 0 if there is none
unfoldable pub disagreement : ℕ → Bytes → List Expected → ℕ
disagreement i book [] = 0
disagreement i book (x ∷ xs) =
    let r : Result = perform book x.call in
    let rest : ℕ = disagreement (suc i) r.book xs in
    cond (agrees book r x) rest i

-- opens every definition and these tools
unfoldable pub tools : Unit {0}
unfolding everything stand_in place_sum count_up two_bytes weighing one_bytes one_each long_each numbers_of done_numbers
    delivery_numbers count_numbers pass_numbers move_numbers answer_of lent lent_after perform answers refuses splice
    first_edition third_edition expect changed agrees disagreement
tools = tt
