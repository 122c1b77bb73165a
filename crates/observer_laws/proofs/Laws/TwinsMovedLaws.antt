-- Proof of `Twins.TwinsMoved`: moves change nothing that is shown, and they lead to idle books.
use Prim.Native.Nat.{ℕ, zero, suc, ◌≤◌}
use Rattle.std.specs.Prelude.{◌≡◌, true, length, replicate}
use Rattle.std.proofs.Math.Path.{refl, ap}
use Rattle.std.proofs.Common.{sym, subst, ◌∙◌, true≢false}
use borrow.Author.Tests.{le-leb}
use Rattle.protocol.specs.Bytes.{Bytes}
use Rattle.protocol.specs.Tests.{first_refusal}
use Rattle.protocol.specs.State.{State, decode}
use Rattle.protocol.specs.Sound.{sound}
use Rattle.protocol.specs.Answer.{Move, Outcome, accepted, idle}
use Rattle.protocol.specs.Move.{MoveOutcome, step, after_moves, moved, unless_move_refused, move_rows, move_call}
use Rattle.protocol.specs.Call.{moving, effect, book_after_all}
use Rattle.protocol.specs.ObserverSound.{observer_sound}
use Rattle.protocol.specs.ObserverCalls.{observer_move_call}
use Rattle.protocol.proofs.Laws.StateLaws.{decode_encode}
use Rattle.protocol.proofs.Laws.SoundLaws.{sound_decode}
use Rattle.protocol.proofs.Laws.MoveLaws.{moves_body}
use Rattle.protocol.proofs.Laws.ObserverDeliverLaws.{observer_move_cases}
use Rattle.call_laws.proofs.Laws.MoveSoundLaws.{step_sound}
use Rattle.call_laws.proofs.Laws.SoundStays.{sound_stays, sound_stays_all}
use Rattle.observer_laws.specs.Twins.{book_of, observer_book_of, SameLogWhenIdle, TwinsMoved, ObserverIdles}
use Rattle.observer_laws.proofs.Laws.AlikeLaws.{Alike}
use Rattle.observer_laws.proofs.Laws.HearLaws.{alike_over, alike_back}
use Rattle.observer_laws.proofs.Laws.TwinCallLaws.{body_alike, observer_move_same}
use Rattle.observer_laws.proofs.Laws.TwinsLaws.{book_sound, observer_book_sound, alike, idle_same}
use Rattle.observer_laws.proofs.Laws.TwinsLaws.{observer_idles}
use Rattle.observer_laws.proofs.Laws.ObserverSoundStaysLaws.{observer_move_stays}

module _ (digest : Bytes → Bytes) (reply : Bytes) (room : 448 ≤ length reply) where
  -- ---- the replica's moves, as books and as states
  made : (book : Bytes) → sound digest book ≡ true →
      move_call digest book reply ≡ moved reply (step digest (decode book))
  unfolding move_call move_rows first_refusal unless_move_refused
  made book is = rw (is, le-leb 448 (length reply) room)

  after_one : (book : Bytes) → sound digest book ≡ true →
      decode (move_call digest book reply).book ≡ (step digest (decode book)).after
  unfolding moved
  after_one book is =
      ap (λ (o : MoveOutcome). decode o.book) (made book is) ∙
      decode_encode (step digest (decode book)).after
      (step_sound digest (decode book) (sound_decode digest book is)).shaped

  after_many : (k : ℕ) (book : Bytes) → sound digest book ≡ true →
      decode (book_after_all digest book (replicate k (moving reply))) ≡ after_moves digest k (decode book)
  unfolding book_after_all effect after_moves
  after_many zero book is = refl
  after_many (suc k) book is =
      after_many k (move_call digest book reply).book (sound_stays digest book (moving reply) is) ∙
      ap (after_moves digest k) (after_one book is)

  idle_after : (k : ℕ) (book : Bytes) → sound digest book ≡ true →
      (step digest (after_moves digest k (decode book))).move ≡ idle →
      (move_call digest (book_after_all digest book (replicate k (moving reply))) reply).answer ≡ accepted idle
  unfolding moved
  idle_after k book is rests =
      let after : Bytes = book_after_all digest book (replicate k (moving reply)) in
      ap (λ (o : MoveOutcome). o.answer) (made after (sound_stays_all digest book (replicate k (moving reply)) is)) ∙
      ap (λ (s : State). accepted (step digest s).move) (after_many k book is) ∙ ap accepted rests

  same_after : (k : ℕ) (book : Bytes) → sound digest book ≡ true →
      Alike (decode book) (decode (book_after_all digest book (replicate k (moving reply))))
  same_after k book is =
      subst (Alike (decode book)) (sym (after_many k book is)) (body_alike (moves_body digest k (decode book)))

-- ---- the observer's move
move_accepted : (digest : Bytes → Bytes) (book : Bytes) → observer_sound digest book ≡ true →
    (move : Move) × ((observer_move_call digest book).answer ≡ accepted move)
move_accepted digest book is = observer_move_cases digest book
    (λ (o : Outcome Move). (move : Move) × (o.answer ≡ accepted move))
    (λ unsound. absurd (true≢false (sym is ∙ unsound))) (λ _ _. (_, refl)) (λ _ _. (_, refl))

-- ---- both
pub twins_moved : (digest : Bytes → Bytes) → TwinsMoved digest
unfolding TwinsMoved SameLogWhenIdle ObserverIdles
twins_moved digest both is reply room k rests =
    let book : Bytes = book_of digest both in
    let observer_book : Bytes = observer_book_of digest both in
    let first : sound digest book ≡ true = book_sound digest both is in
    let second : observer_sound digest observer_book ≡ true = observer_book_sound digest both is in
    let (move, answer) = move_accepted digest observer_book second in
    idle_same digest (book_after_all digest book (replicate k (moving reply)))
    (observer_move_call digest observer_book).book
    (sound_stays_all digest book (replicate k (moving reply)) first) (observer_move_stays digest observer_book second)
    (alike_over (alike_back (same_after digest reply room k book first))
    (alike_over (alike digest both is) (observer_move_same digest observer_book second))) reply
    (idle_after digest reply room k book first rests) (observer_idles digest observer_book move answer)
