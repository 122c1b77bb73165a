-- The second claim of request 2.3: a replica and an observer, both new with one n and H and the same weights, that are
-- given the same certificates in the same order read the same log after each has moved until idle; and on the way the
-- next certificate gets the same answer from both. The old bytes of both books, their editions, the own number and the
-- leaders are any. In between each may be called as it likes, if another opening is refused, and a frame that is no
-- certificate: moves of either may come anywhere, and signals. No one need be honest, and the digest is any function.
use Rattle.std.specs.Prelude.{ℕ, ◌%◌, ◌≤◌, ◌≡◌, true, cond, List, [], ◌∷◌, ◌++◌, length, replicate, eqb}
use Rattle.std.proofs.Math.Option.{none}
use Rattle.protocol.specs.Bytes.{Bytes}
use Rattle.protocol.specs.Every.{Every}
use Rattle.protocol.specs.Frame.{kind, frame_size, is_certificate}
use Rattle.protocol.specs.Answer.{Outcome, Done, Move, accepted, done, idle}
use Rattle.protocol.specs.Open.{Opening, opened_weights, open_call}
use Rattle.protocol.specs.Deliver.{deliver_call}
use Rattle.protocol.specs.Packet.{packet_frames}
use Rattle.protocol.specs.State.{decode}
use Rattle.protocol.specs.Move.{step, after_moves, move_call}
use Rattle.protocol.specs.Read.{size_call, read_part, read_buffer}
use Rattle.protocol.specs.Call.{Call, opening, delivery, packet_delivery, moving, signalling, submitting, sizing}
use Rattle.protocol.specs.Call.{reading, fetching, Effect, effect, book_after, book_after_all}
use Rattle.protocol.specs.ObserverCalls.{observer_open_call, observer_deliver_call, observer_move_call, observer_size_call}
use Rattle.protocol.specs.ObserverCalls.{observer_read_part, observer_read_buffer}
use Rattle.protocol.specs.ObserverCall.{ObserverCall, observer_opening, observer_delivery, observer_moving, observer_sizing}
use Rattle.protocol.specs.ObserverCall.{observer_reading, Observation, observation, observer_book_after_all}

-- ---- the frames that a call gives to its book, refused or not, in order
-- a packet whose length is no multiple of 224 is refused as a whole and gives none
unfoldable pub given : Call → List Bytes
given (opening way n own heights leaders) = []
given (delivery frame) = frame ∷ []
given (packet_delivery packet) = cond (eqb (length packet % frame_size) 0) (packet_frames packet) []
given (moving reply) = []
given (signalling h) = []
given (submitting entry) = []
given sizing = []
given (reading buffer) = []
given (fetching k h reply) = []

unfoldable pub all_given : List Call → List Bytes
all_given [] = []
all_given (call ∷ calls) = given call ++ all_given calls

unfoldable pub given_to_observer : ObserverCall → List Bytes
given_to_observer (observer_opening way n heights) = []
given_to_observer (observer_delivery frame) = frame ∷ []
given_to_observer observer_moving = []
given_to_observer observer_sizing = []
given_to_observer (observer_reading buffer) = []

unfoldable pub all_given_to_observer : List ObserverCall → List Bytes
all_given_to_observer [] = []
all_given_to_observer (call ∷ calls) = given_to_observer call ++ all_given_to_observer calls

-- ---- certificates
-- a frame whose kind byte is 5, 6 or 7, well formed or not
abbrev pub IsCertificate : Bytes → Type 0
IsCertificate frame = is_certificate (kind frame) ≡ true

-- those among some frames, in order
unfoldable pub certificates_of : List Bytes → List Bytes
certificates_of [] = []
certificates_of (frame ∷ frames) = cond (is_certificate (kind frame)) (frame ∷ []) [] ++ certificates_of frames

-- ---- a replica's and an observer's calls
-- the openings, with one n and H and over any old bytes, and the calls after them
pub record Histories : Type 0 where
  pub way : Opening
  pub observer_way : Opening
  pub n : ℕ
  pub heights : ℕ
  pub own : ℕ
  pub leaders : Bytes
  pub old : Bytes
  pub calls : List Call
  pub observer_old : Bytes
  pub observer_calls : List ObserverCall

abbrev pub opens : Histories → Outcome Done
opens both = open_call both.way both.old both.n both.own both.heights both.leaders

abbrev pub observer_opens : Histories → Outcome Done
observer_opens both = observer_open_call both.observer_way both.observer_old both.n both.heights

module _ (digest : Bytes → Bytes) where
  -- what calls do, each on the book that those before it left
  unfoldable pub effects : Bytes → List Call → List Effect
  effects book [] = []
  effects book (call ∷ calls) = effect digest book call ∷ effects (book_after digest book call) calls

  unfoldable pub observations : Bytes → List ObserverCall → List Observation
  observations book [] = []
  observations book (call ∷ calls) =
      observation digest book call ∷ observations (observation digest book call).book calls

  -- both openings give the replicas the same weights, in whichever editions, and are not refused, and both books are
  -- given the same certificates, refused or not
  pub record SameCertificates (both : Histories) : Type 0 where
    pub same_weights : opened_weights both.n both.observer_way ≡ opened_weights both.n both.way
    pub opened : (opens both).answer ≡ accepted done
    pub observer_opened : (observer_opens both).answer ≡ accepted done
    -- an opening that follows is refused
    pub opened_once : Every (λ (e : Effect). e.opens ≡ none) (effects (opens both).book both.calls)
    pub observer_opened_once : Every (λ (o : Observation). o.opens ≡ none)
        (observations (observer_opens both).book both.observer_calls)
    -- the replica refuses each other frame that it is given; an observer always does
    pub certificates : Every (λ (e : Effect). Every IsCertificate e.delivers)
        (effects (opens both).book both.calls)
    pub same : certificates_of (all_given_to_observer both.observer_calls) ≡ certificates_of (all_given both.calls)

  -- the books after all calls
  abbrev pub book_of : Histories → Bytes
  book_of both = book_after_all digest (opens both).book both.calls

  abbrev pub observer_book_of : Histories → Bytes
  observer_book_of both = observer_book_after_all digest (observer_opens both).book both.observer_calls

  -- ---- two books, a replica's and an observer's
  -- each certificate gets the same answer from both: fresh, known, or refused with the same number
  unfoldable pub SameAnswers : (book observer_book : Bytes) → Type 0
  SameAnswers book observer_book = (frame : Bytes) → IsCertificate frame →
      (observer_deliver_call digest observer_book frame).answer ≡ (deliver_call digest book frame).answer

  -- the same log: its size, the part that is read with any buffer, and the buffer afterwards
  pub record SameLog (book observer_book : Bytes) : Type 0 where
    pub same_size : observer_size_call digest observer_book ≡ size_call digest book
    pub same_part : (buffer : Bytes) → observer_read_part digest observer_book buffer ≡ read_part digest book buffer
    pub same_buffer : (buffer : Bytes) → observer_read_buffer digest observer_book buffer ≡ read_buffer digest book buffer

  -- where both are idle
  unfoldable pub SameLogWhenIdle : (book observer_book : Bytes) → Type 0
  SameLogWhenIdle book observer_book = (reply : Bytes) → (move_call digest book reply).answer ≡ accepted idle →
      (observer_move_call digest observer_book).answer ≡ accepted idle → SameLog book observer_book

  -- ---- the claim
  unfoldable pub Twins : Type 0
  Twins = (both : Histories) → SameCertificates both →
      SameAnswers (book_of both) (observer_book_of both) × SameLogWhenIdle (book_of both) (observer_book_of both)

  -- the same with the moves told: the replica makes `k`, after which none applies (that there is such a number, at most
  -- H + 3, is `paper Idle.MovesEnd`), and the observer makes one
  unfoldable pub TwinsMoved : Type 0
  TwinsMoved = (both : Histories) → SameCertificates both → (reply : Bytes) → 448 ≤ length reply → (k : ℕ) →
      (step digest (after_moves digest k (decode (book_of both)))).move ≡ idle →
      SameLog (book_after_all digest (book_of both) (replicate k (moving reply)))
      (observer_move_call digest (observer_book_of both)).book

  -- an observer is idle after one move: a second one right after it answers idle
  unfoldable pub ObserverIdles : Type 0
  ObserverIdles = (book : Bytes) (move : Move) → (observer_move_call digest book).answer ≡ accepted move →
      (observer_move_call digest (observer_move_call digest book).book).answer ≡ accepted idle
