-- Soundness is kept: each call on a sound book leaves a sound book, and Open makes one of any bytes.
-- This holds for every digest function: nothing is asked of its results, nor that the numbers in a book are below 256.
use Rattle.std.specs.Prelude.{ℕ, ◌≡◌, true}
use mathlib.Core.List.{List, [], ◌∷◌}
use Rattle.protocol.specs.Bytes.{Bytes}
use Rattle.protocol.specs.Sound.{sound}
use Rattle.protocol.specs.Answer.{accepted, done}
use Rattle.protocol.specs.Open.{Opening, open_call}
use Rattle.protocol.specs.Call.{Call, opening, delivery, packet_delivery, moving, signalling, submitting, sizing}
use Rattle.protocol.specs.Call.{reading, fetching, effect, book_after, book_after_all}
use Rattle.call_laws.proofs.Laws.SoundStaysLaws.{open_stays, open_made, deliver_stays, move_stays, signal_stays}
use Rattle.call_laws.proofs.Laws.SoundStaysLaws.{submit_stays, packet_stays}

module _ (digest : Bytes → Bytes) where
  -- each call on a sound book leaves a sound book
  pub sound_stays : (book : Bytes) (call : Call) → sound digest book ≡ true →
      sound digest (book_after digest book call) ≡ true
  unfolding effect
  sound_stays book (opening way n own heights leaders) was = open_stays digest way book n own heights leaders was
  sound_stays book (delivery frame) was = deliver_stays digest book was frame
  sound_stays book (packet_delivery packet) was = packet_stays digest book was packet
  sound_stays book (moving reply) was = move_stays digest book was reply
  sound_stays book (signalling h) was = signal_stays digest book was h
  sound_stays book (submitting entry) was = submit_stays digest book was entry
  sound_stays book sizing was = was
  sound_stays book (reading buffer) was = was
  sound_stays book (fetching k h reply) was = was

  -- and so does each list of calls
  pub sound_stays_all : (book : Bytes) (calls : List Call) → sound digest book ≡ true →
      sound digest (book_after_all digest book calls) ≡ true
  unfolding book_after_all
  sound_stays_all book [] was = was
  sound_stays_all book (call ∷ calls) was =
      sound_stays_all (book_after digest book call) calls (sound_stays book call was)

  -- Open that is not refused leaves a sound book, whatever bytes were there
  pub sound_opened : (way : Opening) (book : Bytes) (n own heights : ℕ) (leaders : Bytes) →
      (open_call way book n own heights leaders).answer ≡ accepted done →
      sound digest (open_call way book n own heights leaders).book ≡ true
  sound_opened way book n own heights leaders opened = open_made digest way book n own heights leaders opened
