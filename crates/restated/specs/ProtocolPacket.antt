-- Written by tests/restated --write: what docs/statements has of
-- crates/protocol/specs/Packet.antt.
use Rattle.std.specs.Prelude.{ℕ, ◌+◌, ◌/◌, ◌%◌, cond, List, [], ◌∷◌, ◌++◌, length, eqb}
use package.Rattle.protocol.specs.Bytes.{Bytes, pieces}
use package.Rattle.protocol.specs.Tests.{Row, first_refusal}
use package.Rattle.protocol.specs.Frame.{frame_size}
use package.Rattle.protocol.specs.Sound.{sound}
use package.Rattle.protocol.specs.Answer.{Answer, Outcome, Counts, Delivery, refused, accepted, known, fresh, is_accepted}
use package.Rattle.protocol.specs.Answer.{unless_refused}
use package.Rattle.protocol.specs.Deliver.{deliver_call, deliver_all}
use package.Rattle.protocol.specs.Packet.{packet_frames, no_frames, counted_in}
use mathlib.Core.Path.{◌≡◌ as ◌is-kept◌, refl as by-text}
use package.Rattle.protocol.specs.Packet as page

packet_frames-kept : Bytes → List Bytes
packet_frames-kept packet = pieces frame_size (length packet / frame_size) packet

same-packet_frames : packet_frames-kept is-kept page.packet_frames
unfolding packet_frames-kept page.packet_frames
same-packet_frames = by-text

no_frames-kept : Counts
no_frames-kept = record { fresh_frames = 0; known_frames = 0; refused_frames = 0 }

same-no_frames : no_frames-kept is-kept page.no_frames
unfolding no_frames-kept page.no_frames
same-no_frames = by-text

abbrev counted-kept : Counts → ℕ
counted-kept counts = counts.fresh_frames + counts.known_frames + counts.refused_frames

same-counted : counted-kept is-kept page.counted
same-counted = by-text

counted_in-kept : Answer Delivery → Counts → Counts
counted_in-kept (accepted fresh) counts = record {
  fresh_frames = counts.fresh_frames + 1;
  known_frames = counts.known_frames;
  refused_frames = counts.refused_frames;
}
counted_in-kept (accepted known) counts = record {
  fresh_frames = counts.fresh_frames;
  known_frames = counts.known_frames + 1;
  refused_frames = counts.refused_frames;
}
counted_in-kept (refused number) counts = record {
  fresh_frames = counts.fresh_frames;
  known_frames = counts.known_frames;
  refused_frames = counts.refused_frames + 1;
}

same-counted_in : counted_in-kept is-kept page.counted_in
unfolding counted_in-kept page.counted_in
same-counted_in = by-text

module _ (digest : Bytes → Bytes) where
  abbrev count_all : Bytes → List Bytes → Counts
  count_all = page.count_all digest

  abbrev packet_rows : Bytes → Bytes → List Row
  packet_rows = page.packet_rows digest

  count_all-kept : Bytes → List Bytes → Counts
  count_all-kept book [] = no_frames
  count_all-kept book (frame ∷ frames) =
      let o : Outcome Delivery = deliver_call digest book frame in counted_in o.answer (count_all-kept o.book frames)

  same-count_all : count_all-kept is-kept page.count_all digest
  unfolding count_all-kept page.count_all
  same-count_all = by-text

  accepted_of-kept : Bytes → List Bytes → List Bytes
  accepted_of-kept book [] = []
  accepted_of-kept book (frame ∷ frames) =
      let o : Outcome Delivery = deliver_call digest book frame in
      cond (is_accepted o.answer) (frame ∷ []) [] ++ accepted_of-kept o.book frames

  same-accepted_of : accepted_of-kept is-kept page.accepted_of digest
  unfolding accepted_of-kept page.accepted_of
  same-accepted_of = by-text

  packet_rows-kept : Bytes → Bytes → List Row
  packet_rows-kept book packet = (1, sound digest book) ∷ (15, eqb (length packet % frame_size) 0) ∷ []

  same-packet_rows : packet_rows-kept is-kept page.packet_rows digest
  unfolding packet_rows-kept page.packet_rows
  same-packet_rows = by-text

  packet_call-kept : Bytes → Bytes → Outcome Counts
  packet_call-kept book packet =
      let frames : List Bytes = packet_frames packet in
      unless_refused (first_refusal (packet_rows book packet)) book
      (record { answer = accepted (count_all book frames); book = deliver_all digest book frames })

  same-packet_call : packet_call-kept is-kept page.packet_call digest
  unfolding packet_call-kept page.packet_call
  same-packet_call = by-text
