-- No quorum of votes is overlooked: on every book that calls make from an opened one, a height that holds a proposal
-- with a quorum of kept votes for it has a notarized block.
use Rattle.std.specs.Prelude.{ℕ, ◌≡◌, true}
use mathlib.Core.List.{List, [], ◌∷◌}
use Rattle.protocol.specs.Bytes.{Bytes}
use Rattle.protocol.specs.Sound.{sound}
use Rattle.protocol.specs.State.{decode}
use Rattle.protocol.specs.Answer.{accepted, done}
use Rattle.protocol.specs.Open.{Opening, open_call}
use Rattle.protocol.specs.Call.{Call, opening, delivery, packet_delivery, moving, signalling, submitting, sizing}
use Rattle.protocol.specs.Call.{reading, fetching, effect, book_after, book_after_all}
use Rattle.call_laws.specs.Keeping.{AllTallied}
use Rattle.call_laws.proofs.Laws.SoundStays.{sound_stays}
use Rattle.call_laws.proofs.Laws.TallyingLaws.{open_tallied, open_keeps, deliver_keeps_tallies, move_keeps}
use Rattle.call_laws.proofs.Laws.TallyingLaws.{signal_keeps, submit_keeps, packet_keeps_tallies}

module _ (digest : Bytes → Bytes) where
  -- each call on a sound book keeps that all its heights are tallied
  pub tallied_stays : (book : Bytes) (call : Call) → sound digest book ≡ true → AllTallied digest (decode book) →
      AllTallied digest (decode (book_after digest book call))
  unfolding effect
  tallied_stays book (opening way n own heights leaders) was all = open_keeps digest way book n own heights leaders all
  tallied_stays book (delivery frame) was all = deliver_keeps_tallies digest book was all frame
  tallied_stays book (packet_delivery packet) was all = packet_keeps_tallies digest book was all packet
  tallied_stays book (moving reply) was all = move_keeps digest book was all reply
  tallied_stays book (signalling h) was all = signal_keeps digest book was all h
  tallied_stays book (submitting entry) was all = submit_keeps digest book was all entry
  tallied_stays book sizing was all = all
  tallied_stays book (reading buffer) was all = all
  tallied_stays book (fetching k h reply) was all = all

  -- and so does each list of calls
  pub tallied_stays_all : (book : Bytes) (calls : List Call) → sound digest book ≡ true →
      AllTallied digest (decode book) → AllTallied digest (decode (book_after_all digest book calls))
  unfolding book_after_all
  tallied_stays_all book [] was all = all
  tallied_stays_all book (call ∷ calls) was all =
      tallied_stays_all (book_after digest book call) calls (sound_stays digest book call was)
      (tallied_stays book call was all)

  -- Open that is not refused leaves such a book, whatever bytes were there
  pub tallied_opened : (way : Opening) (book : Bytes) (n own heights : ℕ) (leaders : Bytes) →
      (open_call way book n own heights leaders).answer ≡ accepted done →
      AllTallied digest (decode (open_call way book n own heights leaders).book)
  tallied_opened way book n own heights leaders opened = open_tallied digest way book n own heights leaders opened
