-- A packet leaves what `PacketKeeping` says.
use Rattle.std.specs.Prelude.{ℕ, ◌≡◌}
use Rattle.std.proofs.Math.Path.{refl}
use Rattle.std.proofs.Common.{sym, ◌∙◌}
use mathlib.Core.List.{List, [], ◌∷◌}
use Rattle.std.proofs.Math.Option.{Option, some, none}
use Rattle.protocol.specs.Bytes.{Bytes}
use Rattle.protocol.specs.Tests.{Row, first_refusal}
use Rattle.protocol.specs.Answer.{Answer, Counts, Delivery, Outcome, refused, accepted, unless_refused}
use Rattle.protocol.specs.Deliver.{deliver_rows, deliver_call, deliver_all}
use Rattle.protocol.specs.Packet.{packet_frames, count_all, packet_rows, packet_call}
use Rattle.call_laws.specs.Refusals.{Refuses}
use Rattle.call_laws.specs.PacketKeeping.{Delivers, KeepsAll}
use Rattle.call_laws.proofs.Laws.KeepingLaws.{deliver_keeps}
use Rattle.call_laws.proofs.Laws.RefusalsLaws.{deliver_refuses, refused≢accepted}

module _ (digest : Bytes → Bytes) where
  frame_delivers : (book frame : Bytes) →
      Delivers digest book frame (deliver_call digest book frame).answer (deliver_call digest book frame).book
  frame_delivers book frame = go (deliver_call digest book frame).answer refl
    where
      rows : List Row
      rows = deliver_rows digest book frame

      refuses : Refuses Delivery rows (deliver_call digest book frame).answer (book ∷ [])
          ((deliver_call digest book frame).book ∷ [])
      refuses = deliver_refuses digest book frame

      passes : (news : Delivery) → (deliver_call digest book frame).answer ≡ accepted news →
          (r : Option ℕ) → first_refusal rows ≡ r → r ≡ none
      passes news e none at = refl
      passes news e (some number) at =
          absurd (refused≢accepted number news (sym ((refuses.by_number number).1 at) ∙ e))

      go : (a : Answer Delivery) → (deliver_call digest book frame).answer ≡ a →
          Delivers digest book frame a (deliver_call digest book frame).book
      go (refused number) e = unfold Delivers in
          let same : (deliver_call digest book frame).book ∷ [] ≡ book ∷ [] = refuses.unchanged number e in
          ((refuses.by_number number).0 e, cc)
      go (accepted news) e = unfold Delivers in
          (passes news e (first_refusal rows) refl, deliver_keeps digest book frame news e)

  pub frames_keep : (book : Bytes) (frames : List Bytes) →
      KeepsAll digest book frames (count_all digest book frames) (deliver_all digest book frames)
  unfolding KeepsAll count_all deliver_all
  frames_keep book [] = (refl, refl)
  frames_keep book (frame ∷ frames) =
      let o : Outcome Delivery = deliver_call digest book frame in
      let later : Counts = count_all digest o.book frames in
      (o.answer, o.book, later, frame_delivers book frame, frames_keep o.book frames, refl)

  pub packet_keeps : (book packet : Bytes) (counts : Counts) → (packet_call digest book packet).answer ≡ accepted counts →
      KeepsAll digest book (packet_frames packet) counts (packet_call digest book packet).book
  unfolding packet_call
  packet_keeps book packet counts = go (first_refusal (packet_rows digest book packet))
    where
      outcome : Outcome Counts
      outcome = record {
        answer = accepted (count_all digest book (packet_frames packet));
        book = deliver_all digest book (packet_frames packet);
      }

      go : (r : Option ℕ) → (unless_refused r book outcome).answer ≡ accepted counts →
          KeepsAll digest book (packet_frames packet) counts (unless_refused r book outcome).book
      go none e = unfold unless_refused in
          let same : count_all digest book (packet_frames packet) ≡ counts = cc in
          rw (← same) (frames_keep book (packet_frames packet))
      go (some number) e = unfold unless_refused in absurd (refused≢accepted number counts e)
