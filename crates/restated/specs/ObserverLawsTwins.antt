-- Written by tests/restated --write: what docs/statements has of
-- crates/observer_laws/specs/Twins.antt.
use Rattle.std.specs.Prelude.{ℕ, ◌%◌, ◌≤◌, ◌≡◌, true, cond, List, [], ◌∷◌, ◌++◌, length, replicate, eqb}
use Rattle.std.proofs.Math.Option.{none}
use package.Rattle.protocol.specs.Bytes.{Bytes}
use package.Rattle.protocol.specs.Every.{Every}
use package.Rattle.protocol.specs.Frame.{kind, frame_size, is_certificate}
use package.Rattle.protocol.specs.Answer.{Outcome, Done, Move, accepted, done, idle}
use package.Rattle.protocol.specs.Open.{Opening, opened_weights, open_call}
use package.Rattle.protocol.specs.Deliver.{deliver_call}
use package.Rattle.protocol.specs.Packet.{packet_frames}
use package.Rattle.protocol.specs.State.{decode}
use package.Rattle.protocol.specs.Move.{step, after_moves, move_call}
use package.Rattle.protocol.specs.Read.{size_call, read_part, read_buffer}
use package.Rattle.protocol.specs.Call.{Call, opening, delivery, packet_delivery, moving, signalling, submitting, sizing}
use package.Rattle.protocol.specs.Call.{reading, fetching, Effect, effect, book_after, book_after_all}
use package.Rattle.protocol.specs.ObserverCalls.{observer_open_call, observer_deliver_call, observer_move_call, observer_size_call}
use package.Rattle.protocol.specs.ObserverCalls.{observer_read_part, observer_read_buffer}
use package.Rattle.protocol.specs.ObserverCall.{ObserverCall, observer_opening, observer_delivery, observer_moving, observer_sizing}
use package.Rattle.protocol.specs.ObserverCall.{observer_reading, Observation, observation, observer_book_after_all}
use package.Rattle.observer_laws.specs.Twins.{given, given_to_observer, Histories, all_given, all_given_to_observer, IsCertificate, certificates_of, opens, observer_opens}
use mathlib.Core.Path.{◌≡◌ as ◌is-kept◌, refl as by-text}
use package.Rattle.observer_laws.specs.Twins as page

given-kept : Call → List Bytes
given-kept (opening way n own heights leaders) = []
given-kept (delivery frame) = frame ∷ []
given-kept (packet_delivery packet) = cond (eqb (length packet % frame_size) 0) (packet_frames packet) []
given-kept (moving reply) = []
given-kept (signalling h) = []
given-kept (submitting entry) = []
given-kept sizing = []
given-kept (reading buffer) = []
given-kept (fetching k h reply) = []

same-given : given-kept is-kept page.given
unfolding given-kept page.given
same-given = by-text

all_given-kept : List Call → List Bytes
all_given-kept [] = []
all_given-kept (call ∷ calls) = given call ++ all_given-kept calls

same-all_given : all_given-kept is-kept page.all_given
unfolding all_given-kept page.all_given
same-all_given = by-text

given_to_observer-kept : ObserverCall → List Bytes
given_to_observer-kept (observer_opening way n heights) = []
given_to_observer-kept (observer_delivery frame) = frame ∷ []
given_to_observer-kept observer_moving = []
given_to_observer-kept observer_sizing = []
given_to_observer-kept (observer_reading buffer) = []

same-given_to_observer : given_to_observer-kept is-kept page.given_to_observer
unfolding given_to_observer-kept page.given_to_observer
same-given_to_observer = by-text

all_given_to_observer-kept : List ObserverCall → List Bytes
all_given_to_observer-kept [] = []
all_given_to_observer-kept (call ∷ calls) = given_to_observer call ++ all_given_to_observer-kept calls

same-all_given_to_observer : all_given_to_observer-kept is-kept page.all_given_to_observer
unfolding all_given_to_observer-kept page.all_given_to_observer
same-all_given_to_observer = by-text

abbrev IsCertificate-kept : Bytes → Type 0
IsCertificate-kept frame = is_certificate (kind frame) ≡ true

same-IsCertificate : IsCertificate-kept is-kept page.IsCertificate
same-IsCertificate = by-text

certificates_of-kept : List Bytes → List Bytes
certificates_of-kept [] = []
certificates_of-kept (frame ∷ frames) = cond (is_certificate (kind frame)) (frame ∷ []) [] ++ certificates_of-kept frames

same-certificates_of : certificates_of-kept is-kept page.certificates_of
unfolding certificates_of-kept page.certificates_of
same-certificates_of = by-text

Histories-kept : (way : Opening) (observer_way : Opening) (n : ℕ) (heights : ℕ) (own : ℕ) (leaders : Bytes) (old : Bytes) (calls : List Call) (observer_old : Bytes) (observer_calls : List ObserverCall) →
    Histories
Histories-kept x0 x1 x2 x3 x4 x5 x6 x7 x8 x9 = record { way = x0; observer_way = x1; n = x2; heights = x3; own = x4; leaders = x5; old = x6; calls = x7; observer_old = x8; observer_calls = x9 }

abbrev opens-kept : Histories → Outcome Done
opens-kept both = open_call both.way both.old both.n both.own both.heights both.leaders

same-opens : opens-kept is-kept page.opens
same-opens = by-text

abbrev observer_opens-kept : Histories → Outcome Done
observer_opens-kept both = observer_open_call both.observer_way both.observer_old both.n both.heights

same-observer_opens : observer_opens-kept is-kept page.observer_opens
same-observer_opens = by-text

module _ (digest : Bytes → Bytes) where
  abbrev effects : Bytes → List Call → List Effect
  effects = page.effects digest

  abbrev observations : Bytes → List ObserverCall → List Observation
  observations = page.observations digest

  abbrev SameCertificates : (both : Histories) → Type 0
  SameCertificates = page.SameCertificates digest

  abbrev book_of : Histories → Bytes
  book_of = page.book_of digest

  abbrev observer_book_of : Histories → Bytes
  observer_book_of = page.observer_book_of digest

  abbrev SameAnswers : (book observer_book : Bytes) → Type 0
  SameAnswers = page.SameAnswers digest

  abbrev SameLog : (book observer_book : Bytes) → Type 0
  SameLog = page.SameLog digest

  abbrev SameLogWhenIdle : (book observer_book : Bytes) → Type 0
  SameLogWhenIdle = page.SameLogWhenIdle digest

  effects-kept : Bytes → List Call → List Effect
  effects-kept book [] = []
  effects-kept book (call ∷ calls) = effect digest book call ∷ effects-kept (book_after digest book call) calls

  same-effects : effects-kept is-kept page.effects digest
  unfolding effects-kept page.effects
  same-effects = by-text

  observations-kept : Bytes → List ObserverCall → List Observation
  observations-kept book [] = []
  observations-kept book (call ∷ calls) =
      observation digest book call ∷ observations-kept (observation digest book call).book calls

  same-observations : observations-kept is-kept page.observations digest
  unfolding observations-kept page.observations
  same-observations = by-text

  SameCertificates-kept : (both : Histories) (same_weights : opened_weights both.n both.observer_way ≡ opened_weights both.n both.way) (opened : (opens both).answer ≡ accepted done) (observer_opened : (observer_opens both).answer ≡ accepted done) (opened_once : Every (λ (e : Effect). e.opens ≡ none) (effects (opens both).book both.calls)) (observer_opened_once : Every (λ (o : Observation). o.opens ≡ none) (observations (observer_opens both).book both.observer_calls)) (certificates : Every (λ (e : Effect). Every IsCertificate e.delivers) (effects (opens both).book both.calls)) (same : certificates_of (all_given_to_observer both.observer_calls) ≡ certificates_of (all_given both.calls)) →
      SameCertificates both
  SameCertificates-kept both x0 x1 x2 x3 x4 x5 x6 = record { same_weights = x0; opened = x1; observer_opened = x2; opened_once = x3; observer_opened_once = x4; certificates = x5; same = x6 }

  abbrev book_of-kept : Histories → Bytes
  book_of-kept both = book_after_all digest (opens both).book both.calls

  same-book_of : book_of-kept is-kept page.book_of digest
  same-book_of = by-text

  abbrev observer_book_of-kept : Histories → Bytes
  observer_book_of-kept both = observer_book_after_all digest (observer_opens both).book both.observer_calls

  same-observer_book_of : observer_book_of-kept is-kept page.observer_book_of digest
  same-observer_book_of = by-text

  SameAnswers-kept : (book observer_book : Bytes) → Type 0
  SameAnswers-kept book observer_book = (frame : Bytes) → IsCertificate frame →
      (observer_deliver_call digest observer_book frame).answer ≡ (deliver_call digest book frame).answer

  same-SameAnswers : SameAnswers-kept is-kept page.SameAnswers digest
  unfolding SameAnswers-kept page.SameAnswers
  same-SameAnswers = by-text

  SameLog-kept : (book observer_book : Bytes) (same_size : observer_size_call digest observer_book ≡ size_call digest book) (same_part : (buffer : Bytes) → observer_read_part digest observer_book buffer ≡ read_part digest book buffer) (same_buffer : (buffer : Bytes) → observer_read_buffer digest observer_book buffer ≡ read_buffer digest book buffer) →
      SameLog book observer_book
  SameLog-kept book observer_book x0 x1 x2 = record { same_size = x0; same_part = x1; same_buffer = x2 }

  SameLogWhenIdle-kept : (book observer_book : Bytes) → Type 0
  SameLogWhenIdle-kept book observer_book = (reply : Bytes) → (move_call digest book reply).answer ≡ accepted idle →
      (observer_move_call digest observer_book).answer ≡ accepted idle → SameLog book observer_book

  same-SameLogWhenIdle : SameLogWhenIdle-kept is-kept page.SameLogWhenIdle digest
  unfolding SameLogWhenIdle-kept page.SameLogWhenIdle
  same-SameLogWhenIdle = by-text

  Twins-kept : Type 0
  Twins-kept = (both : Histories) → SameCertificates both →
      SameAnswers (book_of both) (observer_book_of both) × SameLogWhenIdle (book_of both) (observer_book_of both)

  same-Twins : Twins-kept is-kept page.Twins digest
  unfolding Twins-kept page.Twins
  same-Twins = by-text

  TwinsMoved-kept : Type 0
  TwinsMoved-kept = (both : Histories) → SameCertificates both → (reply : Bytes) → 448 ≤ length reply → (k : ℕ) →
      (step digest (after_moves digest k (decode (book_of both)))).move ≡ idle →
      SameLog (book_after_all digest (book_of both) (replicate k (moving reply)))
      (observer_move_call digest (observer_book_of both)).book

  same-TwinsMoved : TwinsMoved-kept is-kept page.TwinsMoved digest
  unfolding TwinsMoved-kept page.TwinsMoved
  same-TwinsMoved = by-text

  ObserverIdles-kept : Type 0
  ObserverIdles-kept = (book : Bytes) (move : Move) → (observer_move_call digest book).answer ≡ accepted move →
      (observer_move_call digest (observer_move_call digest book).book).answer ≡ accepted idle

  same-ObserverIdles : ObserverIdles-kept is-kept page.ObserverIdles digest
  unfolding ObserverIdles-kept page.ObserverIdles
  same-ObserverIdles = by-text
