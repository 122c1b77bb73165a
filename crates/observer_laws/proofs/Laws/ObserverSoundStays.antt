-- Soundness is kept: each call on a sound observer's book leaves a sound book, and Open makes one of any bytes. This
-- holds for every digest function, and the numbers in a book need not be below 256.
use Rattle.std.specs.Prelude.{ℕ, ◌≡◌, true}
use mathlib.Core.List.{List, [], ◌∷◌}
use Rattle.protocol.specs.Open.{Opening}
use Rattle.protocol.specs.Bytes.{Bytes}
use Rattle.protocol.specs.Answer.{accepted, done}
use Rattle.protocol.specs.ObserverSound.{observer_sound}
use Rattle.protocol.specs.ObserverCalls.{observer_open_call}
use Rattle.protocol.specs.ObserverCall.{ObserverCall, observer_opening, observer_delivery, observer_moving, observer_sizing}
use Rattle.protocol.specs.ObserverCall.{observer_reading, observation, observer_book_after_all}
use Rattle.observer_laws.proofs.Laws.ObserverSoundStaysLaws.{observer_deliver_stays, observer_move_stays}
use Rattle.observer_laws.proofs.Laws.ObserverOpenLaws.{observer_open_stays, observer_open_made}

module _ (digest : Bytes → Bytes) where
  -- each call on a sound book leaves a sound book
  pub observer_sound_stays : (book : Bytes) (call : ObserverCall) → observer_sound digest book ≡ true →
      observer_sound digest (observation digest book call).book ≡ true
  unfolding observation
  observer_sound_stays book (observer_opening way n heights) was = observer_open_stays digest way book n heights was
  observer_sound_stays book (observer_delivery frame) was = observer_deliver_stays digest book was frame
  observer_sound_stays book observer_moving was = observer_move_stays digest book was
  observer_sound_stays book observer_sizing was = was
  observer_sound_stays book (observer_reading buffer) was = was

  -- and so does each list of calls
  pub observer_sound_stays_all : (book : Bytes) (calls : List ObserverCall) → observer_sound digest book ≡ true →
      observer_sound digest (observer_book_after_all digest book calls) ≡ true
  unfolding observer_book_after_all
  observer_sound_stays_all book [] was = was
  observer_sound_stays_all book (call ∷ calls) was =
      observer_sound_stays_all (observation digest book call).book calls (observer_sound_stays book call was)

  -- Open that is not refused leaves a sound book, whatever bytes were there
  pub observer_sound_opened : (way : Opening) (book : Bytes) (n heights : ℕ) →
      (observer_open_call way book n heights).answer ≡ accepted done →
      observer_sound digest (observer_open_call way book n heights).book ≡ true
  observer_sound_opened way book n heights opened = observer_open_made way book n heights digest opened
