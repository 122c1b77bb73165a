-- The nine calls of a replica as data, and what each one does: the book that it leaves, whether it is refused, the book
-- that it opens, the frames that it delivers and writes, and the part that it reads.
use Rattle.std.specs.Prelude.{ℕ, Bool, true, cond, List, [], ◌∷◌}
use Rattle.std.proofs.Math.Option.{Option, some, none}
use Rattle.protocol.specs.Bytes.{Bytes}
use Rattle.protocol.specs.Answer.{Done, Delivery, Counts, Outcome, is_accepted}
use Rattle.protocol.specs.Open.{Opening, opened_weights, open_call}
use Rattle.protocol.specs.Deliver.{deliver_call}
use Rattle.protocol.specs.Packet.{packet_frames, accepted_of, packet_call}
use Rattle.protocol.specs.Move.{MoveOutcome, move_call}
use Rattle.protocol.specs.Signal.{signal_call}
use Rattle.protocol.specs.Submit.{submit_call}
use Rattle.protocol.specs.Read.{size_call, read_part}
use Rattle.protocol.specs.Fetch.{FetchOutcome, fetch_call}

-- a call with its arguments; `reply` and `buffer` are lent to it and hold any bytes
pub data Call : Type 0 where
  opening : (way : Opening) (n own heights : ℕ) (leaders : Bytes) → Call
  delivery : (frame : Bytes) → Call
  packet_delivery : (packet : Bytes) → Call
  moving : (reply : Bytes) → Call
  signalling : (h : ℕ) → Call
  submitting : (entry : Bytes) → Call
  sizing : Call
  reading : (buffer : Bytes) → Call
  fetching : (k h : ℕ) (reply : Bytes) → Call

-- an opened book: of replicas of these weights, and under which own number
pub record Opened : Type 0 where
  pub weights : List ℕ
  pub own : ℕ

-- what a call does on a book
pub record Effect : Type 0 where
  -- the book afterwards
  pub book : Bytes
  -- not refused; Read refuses nothing, it returns the empty part
  pub accepted : Bool
  -- of an opening that is not refused, what it opens
  pub opens : Option Opened
  -- the frames that it delivers: that of a delivery that is not refused; of a packet those that are not refused at
  -- their turn, and of a refused packet none
  pub delivers : List Bytes
  -- the frames that it writes, by its answer: what lay in the lent reply was not written
  pub writes : List Bytes
  -- of a reading the part that it returns, an empty one too
  pub reads : Option Bytes

-- ---- what a call's outcome comes to
-- nothing but the book that is left
abbrev pub leaves : Bytes → Bool → Effect
leaves book unrefused =
    record { book = book; accepted = unrefused; opens = none; delivers = []; writes = []; reads = none }

abbrev pub of_outcome : {A : Type 0} → Outcome A → Effect
of_outcome o = leaves o.book (is_accepted o.answer)

abbrev pub of_opening : Opened → Outcome Done → Effect
of_opening opened o =
    let unrefused : Bool = is_accepted o.answer in
    let opens : Option Opened = cond unrefused (some opened) none in
    record { book = o.book; accepted = unrefused; opens = opens; delivers = []; writes = []; reads = none }

abbrev pub of_delivery : Bytes → Outcome Delivery → Effect
of_delivery frame o =
    let unrefused : Bool = is_accepted o.answer in
    let delivers : List Bytes = cond unrefused (frame ∷ []) [] in
    record { book = o.book; accepted = unrefused; opens = none; delivers = delivers; writes = []; reads = none }

abbrev pub of_packet : List Bytes → Outcome Counts → Effect
of_packet frames o =
    let unrefused : Bool = is_accepted o.answer in
    let delivers : List Bytes = cond unrefused frames [] in
    record { book = o.book; accepted = unrefused; opens = none; delivers = delivers; writes = []; reads = none }

abbrev pub of_move : MoveOutcome → Effect
of_move o =
    let unrefused : Bool = is_accepted o.answer in
    record { book = o.book; accepted = unrefused; opens = none; delivers = []; writes = o.frames; reads = none }

abbrev pub of_reading : Bytes → Bytes → Effect
of_reading book part =
    record { book = book; accepted = true; opens = none; delivers = []; writes = []; reads = some part }

abbrev pub of_fetch : Bytes → FetchOutcome → Effect
of_fetch book o =
    let unrefused : Bool = is_accepted o.answer in
    record { book = book; accepted = unrefused; opens = none; delivers = []; writes = o.frames; reads = none }

module _ (digest : Bytes → Bytes) where
  -- ---- the calls
  unfoldable pub effect : Bytes → Call → Effect
  effect book (opening way n own heights leaders) =
      of_opening (record { weights = opened_weights n way; own = own }) (open_call way book n own heights leaders)
  effect book (delivery frame) = of_delivery frame (deliver_call digest book frame)
  effect book (packet_delivery packet) =
      of_packet (accepted_of digest book (packet_frames packet)) (packet_call digest book packet)
  effect book (moving reply) = of_move (move_call digest book reply)
  effect book (signalling h) = of_outcome (signal_call digest book h)
  effect book (submitting entry) = of_outcome (submit_call digest book entry)
  effect book sizing = leaves book (is_accepted (size_call digest book))
  effect book (reading buffer) = of_reading book (read_part digest book buffer)
  effect book (fetching k h reply) = of_fetch book (fetch_call digest book k h reply)

  -- the book after a call, refused or not
  abbrev pub book_after : Bytes → Call → Bytes
  book_after book call = (effect book call).book

  -- the book after a list of calls, the first one first
  unfoldable pub book_after_all : Bytes → List Call → Bytes
  book_after_all book [] = book
  book_after_all book (call ∷ calls) = book_after_all (book_after book call) calls
