-- A packet is delivered as far as no frame, then one frame more at a time.
use Rattle.std.specs.Prelude.{ℕ, ◌+◌, ◌/◌, ◌<◌, ◌≤◌, ◌≡◌, refl, true, List, [], ◌∷◌, ◌++◌, length}
use Rattle.std.proofs.Common.{arith, sym, ap, ◌∙◌, add-one}
use Rattle.sha256.specs.Digest.{sha256}
use Rattle.protocol.specs.Bytes.{Bytes, pieces}
use Rattle.protocol.specs.Frame.{frame_size}
use Rattle.protocol.specs.Sound.{sound}
use Rattle.protocol.specs.Answer.{Answer, Delivery}
use Rattle.protocol.specs.Deliver.{deliver_call, deliver_all}
use Rattle.protocol.specs.Packet.{no_frames, counted, counted_in, count_all, packet_frames}
use Rattle.protocol.proofs.Laws.PacketLaws.{counts_sum, deliver_more, count_more}
use Rattle.protocol.proofs.Laws.PiecesLaws.{length_pieces, pieces_more}
use Rattle.call_laws.proofs.Laws.SoundStaysLaws.{deliver_stays}
use Rattle.answers.specs.Answers.{counts_of}
use Rattle.answers.specs.declared.answer.Counts.{Counts}
use Rattle.packets.specs.Frames.{frame_at}
use Rattle.packets.specs.Reached.{Reached}

module _ (before : Bytes) where
  -- before the first frame
  pub reached_none : sound sha256 before ≡ true → (counts : Counts) → counts_of counts ≡ no_frames →
      Reached before before [] counts
  unfolding deliver_all count_all
  reached_none ok counts none = record { is_sound_lem = ok; left = refl; counted = none }

  module _ (book : Bytes) (frames : List Bytes) (counts : Counts) (so_far : Reached before book frames counts) where
    -- the counts sum to the frames
    pub reached_sum : counts.fresh + counts.known + counts.refused ≡ length frames
    reached_sum = ap counted so_far.counted ∙ counts_sum sha256 before frames

    -- one frame more
    pub reached_more : (frame : Bytes) → (answer : Answer Delivery) → answer ≡ (deliver_call sha256 book frame).answer →
        (after : Bytes) → after ≡ (deliver_call sha256 book frame).book →
        (more : Counts) → counts_of more ≡ counted_in answer (counts_of counts) →
        Reached before after (frames ++ (frame ∷ [])) more
    reached_more frame answer told after left more counted =
        record {
          is_sound_lem = rw left (deliver_stays sha256 book so_far.is_sound_lem frame);
          left = left ∙ rw (deliver_more sha256 before frames frame, ← so_far.left);
          counted =
              counted
              ∙ rw (count_more sha256 before frames frame, ← so_far.left, ← so_far.counted, told);
        }

    -- the last frame
    pub reached_all : (packet : Bytes) → frames ≡ packet_frames packet →
        (counts_of counts ≡ count_all sha256 before (packet_frames packet)) ×
        (book ≡ deliver_all sha256 before (packet_frames packet))
    reached_all packet all = (so_far.counted ∙ rw all, so_far.left ∙ rw all)

  -- ---- the same where the frames are those of a packet before a number
  -- before the first frame
  pub numbered_none : (packet : Bytes) → sound sha256 before ≡ true → (counts : Counts) → counts_of counts ≡ no_frames →
      (0 ≤ length packet / frame_size) × Reached before before (pieces frame_size 0 packet) counts
  unfolding pieces
  numbered_none packet ok counts none = (omega arith, reached_none ok counts none)

  module _ (packet book : Bytes) (number : ℕ) (counts : Counts)
      (so_far : Reached before book (pieces frame_size number packet) counts) where
    pub numbered_sum : counts.fresh + counts.known + counts.refused ≡ number
    numbered_sum = reached_sum book _ counts so_far ∙ length_pieces frame_size number packet

    pub numbered_more : (frame : Bytes) → frame ≡ frame_at packet number →
        (answer : Answer Delivery) → answer ≡ (deliver_call sha256 book frame).answer →
        (after : Bytes) → after ≡ (deliver_call sha256 book frame).book →
        (next : ℕ) → next ≡ number + 1 → (more : Counts) → counts_of more ≡ counted_in answer (counts_of counts) →
        Reached before after (pieces frame_size next packet) more
    numbered_more frame is answer told after left next on more counted =
        let grown : pieces frame_size next packet ≡ pieces frame_size number packet ++ (frame ∷ []) =
        ap (λ (k : ℕ). pieces frame_size k packet) (on ∙ add-one number) ∙ pieces_more frame_size number packet
        ∙ ap (λ (f : Bytes). pieces frame_size number packet ++ (f ∷ [])) (sym is) in
        rw grown (reached_more book _ counts so_far frame answer told after left more counted)

    pub numbered_all : number ≤ length packet / frame_size → length packet / frame_size ≤ number →
        (counts_of counts ≡ count_all sha256 before (packet_frames packet)) ×
        (book ≡ deliver_all sha256 before (packet_frames packet))
    unfolding packet_frames
    numbered_all inside end =
        let all : number ≡ length packet / frame_size = omega (arith, inside, end) in
        (so_far.counted ∙ rw all, so_far.left ∙ rw all)

-- the number behind that of a frame of a packet is at most how many frames the packet has
pub numbered_within : (packet : Bytes) (number next : ℕ) → number < length packet / frame_size → next ≡ number + 1 →
    next ≤ length packet / frame_size
numbered_within packet number next more on = rw on (omega arith)
