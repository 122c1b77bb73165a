-- Packets: one call delivers frames that stand one after the other, in order, and counts what became of them.
use Rattle.std.specs.Prelude.{ℕ, ◌+◌, ◌/◌, ◌%◌, cond, List, [], ◌∷◌, ◌++◌, length, eqb}
use Rattle.protocol.specs.Bytes.{Bytes, pieces}
use Rattle.protocol.specs.Tests.{Row, first_refusal}
use Rattle.protocol.specs.Frame.{frame_size}
use Rattle.protocol.specs.Sound.{sound}
use Rattle.protocol.specs.Answer.{Answer, Outcome, Counts, Delivery, refused, accepted, known, fresh, is_accepted}
use Rattle.protocol.specs.Answer.{unless_refused}
use Rattle.protocol.specs.Deliver.{deliver_call, deliver_all}

-- the frames of a packet, 224 bytes each, in order; bytes past the last whole one are in none
unfoldable pub packet_frames : Bytes → List Bytes
packet_frames packet = pieces frame_size (length packet / frame_size) packet

-- ---- counts
unfoldable pub no_frames : Counts
no_frames = record { fresh_frames = 0; known_frames = 0; refused_frames = 0 }

-- all frames that are counted
abbrev pub counted : Counts → ℕ
counted counts = counts.fresh_frames + counts.known_frames + counts.refused_frames

-- one frame more, by what its own delivery answers
unfoldable pub counted_in : Answer Delivery → Counts → Counts
counted_in (accepted fresh) counts = record {
  fresh_frames = counts.fresh_frames + 1;
  known_frames = counts.known_frames;
  refused_frames = counts.refused_frames;
}
counted_in (accepted known) counts = record {
  fresh_frames = counts.fresh_frames;
  known_frames = counts.known_frames + 1;
  refused_frames = counts.refused_frames;
}
counted_in (refused number) counts = record {
  fresh_frames = counts.fresh_frames;
  known_frames = counts.known_frames;
  refused_frames = counts.refused_frames + 1;
}

module _ (digest : Bytes → Bytes) where
  -- how many of these frames are fresh, known and refused, each over the book that those before it left
  unfoldable pub count_all : Bytes → List Bytes → Counts
  count_all book [] = no_frames
  count_all book (frame ∷ frames) =
      let o : Outcome Delivery = deliver_call digest book frame in counted_in o.answer (count_all o.book frames)

  -- those of them that are not refused at their turn
  unfoldable pub accepted_of : Bytes → List Bytes → List Bytes
  accepted_of book [] = []
  accepted_of book (frame ∷ frames) =
      let o : Outcome Delivery = deliver_call digest book frame in
      cond (is_accepted o.answer) (frame ∷ []) [] ++ accepted_of o.book frames

  -- ---- the call
  unfoldable pub packet_rows : Bytes → Bytes → List Row
  packet_rows book packet = (1, sound digest book) ∷ (15, eqb (length packet % frame_size) 0) ∷ []

  -- the book afterwards is that of delivering each frame by itself
  unfoldable pub packet_call : Bytes → Bytes → Outcome Counts
  packet_call book packet =
      let frames : List Bytes = packet_frames packet in
      unless_refused (first_refusal (packet_rows book packet)) book
      (record { answer = accepted (count_all book frames); book = deliver_all digest book frames })
