-- Blocks and frames that are built in place: an entry more, and a block put into a frame.
use Rattle.std.specs.Prelude.{ℕ, ◌+◌, ◌-◌, ◌*◌, ◌≤◌, ◌<◌, ◌≡◌, refl, drop}
use native.Mathlib.Omega.{arith}
use Rattle.std.proofs.Common.{sym, ap, ◌∙◌, drop_at}
use mathlib.Core.List.{List, [], ◌∷◌, ◌++◌, append_assoc}
use Rattle.std.proofs.Math.ListN.{length, length-append}
use Rattle.protocol.specs.Every.{Every, none, one}
use Rattle.protocol.specs.Bytes.{Bytes, word16, le16, zeros, join, over_front, put, Sized}
use Rattle.protocol.proofs.Laws.BytesLaws.{put_at, length_zeros, zeros_add, word16_le16}
use Rattle.protocol.proofs.Laws.EveryLaws.{every_append}
use Rattle.protocol.proofs.Laws.PiecesLaws.{length_join, join_more}
use Rattle.protocol.specs.Block.{new_block}
use Rattle.protocol.proofs.Laws.BlockLaws.{new_block_size}
use Rattle.protocol.specs.Frame.{frame_height, frame_of}

-- ---- one more entry of a new block
-- the first bytes of a block
abbrev block_front : (h parent count : ℕ) → Bytes → Bytes
block_front h parent count tail = le16 h ++ (le16 parent ++ (count ∷ tail))

put_count : (h parent count next : ℕ) (tail : Bytes) →
    put (block_front h parent count tail) 4 (next ∷ []) ≡ block_front h parent next tail
unfolding put le16
put_count h parent count next tail = refl

block_bytes : (h parent count next k : ℕ) (digest old gap more entry rest : Bytes) → length digest ≡ 32 →
    length old ≡ k → length gap ≡ length entry →
    put (put ((block_front h parent count (zeros 11) ++ (digest ++ (old ++ (gap ++ more)))) ++ rest) (48 + k) entry) 4
    (next ∷ []) ≡
    (block_front h parent next (zeros 11) ++ (digest ++ ((old ++ entry) ++ more))) ++ rest
unfolding le16
block_bytes h parent count next k digest old gap more entry rest d o g =
    let head : Bytes = block_front h parent count (zeros 11) in
    let front : Bytes = head ++ (digest ++ old) in
    let size : length front ≡ 48 + k = simp (length-append, length_zeros) (omega arith) in
    let group : (head ++ (digest ++ (old ++ (gap ++ more)))) ++ rest ≡ front ++ (gap ++ (more ++ rest)) =
    simp append_assoc in
    let first : put (front ++ (gap ++ (more ++ rest))) (48 + k) entry ≡ front ++ (entry ++ (more ++ rest)) =
    put_at front (gap ++ (more ++ rest)) entry (48 + k) size ∙ rw (drop_at gap (more ++ rest) (length entry) g) in
    let tail : Bytes = (zeros 11 ++ (digest ++ old)) ++ (entry ++ (more ++ rest)) in
    let last : tail ≡ (zeros 11 ++ (digest ++ ((old ++ entry) ++ more))) ++ rest = simp append_assoc in
    ap (λ (l : Bytes). put (put l (48 + k) entry) 4 (next ∷ [])) group ∙
    ap (λ (l : Bytes). put l 4 (next ∷ [])) first ∙
    put_count h parent count next tail ∙
    ap (λ (l : Bytes). block_front h parent next l) last

module _ (h parent : ℕ) (digest : Bytes) (digest_size_lem : length digest ≡ 32) (buffer : Bytes) where
  over_block : (es : List Bytes) → Every (Sized 16) es → length es ≤ 8 →
      over_front (new_block h parent digest es) buffer ≡ new_block h parent digest es ++ drop 176 buffer
  unfolding over_front
  over_block es sized few = rw (new_block_size h parent digest es digest_size_lem sized few)

  gap_block : (es : List Bytes) → length es < 8 →
      new_block h parent digest es ≡ block_front h parent (length es)
      (zeros 11) ++ (digest ++ (join es ++ (zeros 16 ++ zeros (128 - 16 * (length es + 1)))))
  unfolding new_block
  gap_block es room =
      let sum : 128 - 16 * length es ≡ 16 + (128 - 16 * (length es + 1)) = omega arith in
      rw (sum, zeros_add 16 (128 - 16 * (length es + 1)))

  next_block_lem : (es : List Bytes) (entry : Bytes) →
      new_block h parent digest (es ++ (entry ∷ [])) ≡ block_front h parent (length es + 1)
      (zeros 11) ++ (digest ++ ((join es ++ entry) ++ zeros (128 - 16 * (length es + 1))))
  unfolding new_block
  next_block_lem es entry = rw (join_more es entry, length-append es (entry ∷ []))

  pub block_more : (count : ℕ) (es : List Bytes) (entry : Bytes) → Every (Sized 16) es → length es ≡ count → count < 8 →
      length entry ≡ 16 →
      put (put (over_front (new_block h parent digest es) buffer) (48 + 16 * count) entry) 4
      ((count + 1) ∷ []) ≡ over_front (new_block h parent digest (es ++ (entry ∷ []))) buffer
  block_more count es entry sized few room e =
      let room' : length es < 8 = omega arith in
      let rest : Bytes = drop 176 buffer in
      let more : Bytes = zeros (128 - 16 * (length es + 1)) in
      let before = over_block es sized (omega arith) ∙ ap (λ (l : Bytes). l ++ rest) (gap_block es room') in
      let fits : length (es ++ (entry ∷ [])) ≤ 8 = rw length-append (omega arith) in
      let after = over_block (es ++ (entry ∷ [])) (every_append sized (one e none)) fits
      ∙ ap (λ (l : Bytes). l ++ rest) (next_block_lem es entry) in
      rw (← few)
      (ap (λ (l : Bytes). put (put l (48 + 16 * length es) entry) 4 ((length es + 1) ∷ [])) before ∙
      block_bytes h parent (length es) (length es + 1) (16 * length es) digest (join es) (zeros 16) more entry rest
      digest_size_lem (length_join 16 es sized) (length_zeros 16 ∙ sym e) ∙
      sym after)

-- ---- the block in a frame
pub frame_size_lem : (k s h mask : ℕ) (digest block : Bytes) →
    length (frame_of k s h mask digest block) ≡ 16 + (length digest + length block)
unfolding frame_of le16 zeros
frame_size_lem k s h mask digest block = omega (arith, length-append digest block)

-- the height that a frame was made of is its height
pub frame_height_lem : (k s h mask : ℕ) (digest block : Bytes) → frame_height (frame_of k s h mask digest block) ≡ h
unfolding frame_height frame_of word16 le16
frame_height_lem k s h mask digest block = word16_le16 h

module _ (k s h mask : ℕ) (digest old new : Bytes) (digest_size_lem : length digest ≡ 32)
    (same_size : length old ≡ length new) where
  -- another block in the place of the frame's
  frame_block_lem : (rest : Bytes) → put (frame_of k s h mask digest old ++ rest) 48 new ≡ frame_of k s h mask digest
      new ++ rest
  unfolding frame_of le16 zeros
  frame_block_lem rest =
      let front : Bytes = (k ∷ s ∷ le16 h) ++ (le16 mask ++ (zeros 10 ++ digest)) in
      rw (append_assoc digest old rest, append_assoc digest new rest)
      (put_at front (old ++ rest) new 48 (rw digest_size_lem) ∙ rw (drop_at old rest (length new) same_size))

  -- the same in the frame at a buffer's front
  pub front_frame_block : (out : Bytes) → put (over_front (frame_of k s h mask digest old) out) 48 new ≡ over_front
      (frame_of k s h mask digest new) out
  unfolding over_front
  front_frame_block out =
      let size : length (frame_of k s h mask digest old) ≡ length (frame_of k s h mask digest new) =
      frame_size_lem k s h mask digest old ∙ rw same_size (sym (frame_size_lem k s h mask digest new)) in
      frame_block_lem (drop (length (frame_of k s h mask digest old)) out) ∙ rw size
