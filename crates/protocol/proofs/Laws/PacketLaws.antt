-- Packets: the counts sum to the frames, the book is that of the deliveries, and what one frame more changes.
use Prim.Native.Nat.{ℕ, suc, ◌+◌, ◌*◌, ◌/◌, ◌%◌}
use native.Mathlib.Omega.{arith}
use Rattle.std.specs.Prelude.{◌≡◌, Bool, cond, eqb}
use Rattle.std.proofs.Math.Path.{refl, ap}
use Rattle.std.proofs.Common.{sym, ◌∙◌, true≢false}
use Rattle.std.proofs.Math.Bool.{true, false}
use mathlib.Core.List.{List, [], ◌∷◌, ◌++◌, map}
use Rattle.std.proofs.Math.Option.{Option, some, none}
use Rattle.std.proofs.Math.ListN.{length}
use borrow.Author.Tests.{eqb-true}
use Rattle.protocol.specs.Bytes.{Bytes}
use Rattle.protocol.specs.Tests.{first_refusal}
use Rattle.protocol.specs.Frame.{frame_size}
use Rattle.protocol.specs.Sound.{sound}
use Rattle.protocol.specs.Answer.{Answer, Counts, Delivery, Outcome, refused, accepted, known, fresh}
use Rattle.protocol.specs.Answer.{is_accepted, unless_refused}
use Rattle.protocol.specs.Deliver.{deliver_call, deliver_all}
use Rattle.protocol.specs.Packet.{packet_frames, no_frames, counted, counted_in, count_all, accepted_of}
use Rattle.protocol.specs.Packet.{packet_rows, packet_call}
use Rattle.protocol.specs.Call.{delivery, effect, book_after_all}
use Rattle.protocol.proofs.Laws.PiecesLaws.{length_pieces}
use Rattle.protocol.proofs.Laws.RowLaws.{by_tested}

-- ---- counts
one_more : (a : Answer Delivery) (c : Counts) → counted (counted_in a c) ≡ suc (counted c)
unfolding counted_in
one_more (accepted fresh) c = omega arith
one_more (accepted known) c = omega arith
one_more (refused number) c = omega arith

-- in whichever order two frames are counted
swapped : (a b : Answer Delivery) (c : Counts) → counted_in a (counted_in b c) ≡ counted_in b (counted_in a c)
unfolding counted_in
swapped (accepted fresh) (accepted fresh) c = refl
swapped (accepted fresh) (accepted known) c = refl
swapped (accepted fresh) (refused number) c = refl
swapped (accepted known) (accepted fresh) c = refl
swapped (accepted known) (accepted known) c = refl
swapped (accepted known) (refused number) c = refl
swapped (refused number) (accepted fresh) c = refl
swapped (refused number) (accepted known) c = refl
swapped (refused number) (refused other) c = refl

module _ (digest : Bytes → Bytes) where
  -- the three counts sum to the frames
  pub counts_sum : (book : Bytes) (frames : List Bytes) → counted (count_all digest book frames) ≡ length frames
  unfolding count_all no_frames
  counts_sum book [] = refl
  counts_sum book (frame ∷ frames) =
      let o : Outcome Delivery = deliver_call digest book frame in
      one_more o.answer (count_all digest o.book frames) ∙ ap suc (counts_sum o.book frames)

  -- those that are not refused at their turn are the fresh and the known ones
  told : Answer Delivery → Bytes → List Bytes
  told a frame = cond (is_accepted a) (frame ∷ []) []

  one_told : (a : Answer Delivery) (frame : Bytes) (later : List Bytes) (c : Counts) →
      length later ≡ c.fresh_frames + c.known_frames →
      length (told a frame ++ later) ≡ (counted_in a c).fresh_frames + (counted_in a c).known_frames
  unfolding counted_in told is_accepted
  one_told (accepted fresh) frame later c e = omega arith
  one_told (accepted known) frame later c e = omega arith
  one_told (refused number) frame later c e = omega arith

  pub accepted_counted : (book : Bytes) (frames : List Bytes) →
      length (accepted_of digest book frames) ≡
      (count_all digest book frames).fresh_frames + (count_all digest book frames).known_frames
  unfolding accepted_of count_all no_frames told
  accepted_counted book [] = refl
  accepted_counted book (frame ∷ frames) =
      let o : Outcome Delivery = deliver_call digest book frame in
      one_told o.answer frame (accepted_of digest o.book frames) (count_all digest o.book frames)
      (accepted_counted o.book frames)

  -- ---- one frame more, at the end
  pub deliver_more : (book : Bytes) (frames : List Bytes) (frame : Bytes) →
      deliver_all digest book (frames ++ (frame ∷ [])) ≡ (deliver_call digest (deliver_all digest book frames) frame).book
  unfolding deliver_all
  deliver_more book [] frame = refl
  deliver_more book (f ∷ frames) frame = deliver_more (deliver_call digest book f).book frames frame

  pub count_more : (book : Bytes) (frames : List Bytes) (frame : Bytes) →
      count_all digest book (frames ++ (frame ∷ [])) ≡
      counted_in (deliver_call digest (deliver_all digest book frames) frame).answer (count_all digest book frames)
  unfolding count_all deliver_all
  count_more book [] frame = refl
  count_more book (f ∷ frames) frame =
      let o : Outcome Delivery = deliver_call digest book f in
      ap (counted_in o.answer) (count_more o.book frames frame)
      ∙ swapped o.answer _ (count_all digest o.book frames)

  -- ---- the book is that of delivering each frame by itself
  pub deliver_calls : (book : Bytes) (frames : List Bytes) →
      deliver_all digest book frames ≡ book_after_all digest book (map delivery frames)
  unfolding deliver_all book_after_all effect
  deliver_calls book [] = refl
  deliver_calls book (frame ∷ frames) = deliver_calls (deliver_call digest book frame).book frames

  -- ---- the call, by its rows
  module _ (book packet : Bytes) where
    -- what it answers and leaves where it is not refused
    abbrev pub delivered : Outcome Counts
    delivered = record {
      answer = accepted (count_all digest book (packet_frames packet));
      book = deliver_all digest book (packet_frames packet);
    }

    pub packet_unsound : sound digest book ≡ false →
        packet_call digest book packet ≡ record { answer = refused 1; book = book }
    unfolding packet_call packet_rows first_refusal unless_refused
    packet_unsound damaged = rw damaged

    pub packet_uneven : sound digest book ≡ true → eqb (length packet % frame_size) 0 ≡ false →
        packet_call digest book packet ≡ record { answer = refused 15; book = book }
    unfolding packet_call packet_rows first_refusal unless_refused
    packet_uneven ok odd = rw (ok, odd)

    pub packet_delivers : sound digest book ≡ true → eqb (length packet % frame_size) 0 ≡ true →
        packet_call digest book packet ≡ delivered
    unfolding packet_call packet_rows first_refusal unless_refused
    packet_delivers ok whole = rw (ok, whole)

    -- a packet is refused and leaves the book, or is not and delivers its frames
    pub packet_cases : (P : Bool → Bytes → Type 0) → P false book →
        P true (deliver_all digest book (packet_frames packet)) →
        P (is_accepted (packet_call digest book packet).answer) (packet_call digest book packet).book
    unfolding packet_call unless_refused is_accepted
    packet_cases P refuses delivers = go (first_refusal (packet_rows digest book packet))
      where
        go : (r : Option ℕ) →
            P (is_accepted (unless_refused r book delivered).answer) (unless_refused r book delivered).book
        go none = delivers
        go (some number) = refuses

    -- ---- a packet that is not refused
    module _ (counts : Counts) (unrefused : (packet_call digest book packet).answer ≡ accepted counts) where
      passes : first_refusal (packet_rows digest book packet) ≡ none
      unfolding packet_call unless_refused
      passes = go (first_refusal (packet_rows digest book packet)) unrefused
        where
          go : (r : Option ℕ) → (unless_refused r book delivered).answer ≡ accepted counts → r ≡ none
          go none e = refl
          go (some number) e = absurd (true≢false (let impossible : true ≡ false = cc in impossible))

      is_delivered : packet_call digest book packet ≡ delivered
      unfolding packet_rows
      is_delivered = by_tested _ passes λ is_sound_lem whole. packet_delivers is_sound_lem whole

      whole_frames : length packet % frame_size ≡ 0
      unfolding packet_rows
      whole_frames = by_tested _ passes λ is_sound_lem whole. eqb-true _ _ whole

      same_counts : counts ≡ count_all digest book (packet_frames packet)
      same_counts =
          let same : accepted counts ≡ delivered.answer =
          sym unrefused ∙ ap (λ (o : Outcome Counts). o.answer) is_delivered in
          cc

      -- the counts sum to its frames
      pub packet_sums : frame_size * counted counts ≡ length packet
      unfolding packet_frames
      packet_sums =
          let frames = length_pieces frame_size (length packet / frame_size) packet in
          let sum : counted counts ≡ length packet / frame_size = ap counted same_counts ∙ counts_sum book _ ∙ frames in
          let whole = whole_frames in
          omega arith

      -- the book is that of delivering each frame by itself
      pub packet_delivered : (packet_call digest book packet).book ≡
          book_after_all digest book (map delivery (packet_frames packet))
      packet_delivered = ap (λ (o : Outcome Counts). o.book) is_delivered ∙ deliver_calls book (packet_frames packet)
