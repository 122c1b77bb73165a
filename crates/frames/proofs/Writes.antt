-- Pieces written one after the other make a frame.
use Rattle.std.specs.Prelude.{ℕ, ◌≡◌, refl, [], ◌∷◌, ◌++◌, length}
use Rattle.std.proofs.Common.{length-append}
use Rattle.protocol.specs.Bytes.{Bytes, le16, zeros, over_front, put}
use Rattle.protocol.proofs.Laws.BytesLaws.{length_zeros}
use Rattle.protocol.proofs.Laws.FrontLaws.{starts, goes_on}
use Rattle.protocol.specs.Frame.{frame_of}
use Rattle.frames.specs.Parts.{frame_head}

-- the five pieces of a frame's head
pub head_starts : (out a b c d e : Bytes) (k s h mask : ℕ)
    → a ≡ put out 0 (k ∷ []) → b ≡ put a 1 (s ∷ []) → c ≡ put b 2 (le16 h) → d ≡ put c 4 (le16 mask) →
    e ≡ put d 6 (zeros 10)
    → e ≡ over_front (frame_head k s h mask) out
unfolding frame_head le16
head_starts out a b c d e k s h mask p q r t u =
    let w : b ≡ over_front (k ∷ s ∷ []) out = goes_on (k ∷ []) out a (s ∷ []) b 1 (starts out (k ∷ []) a p) refl q in
    let x : c ≡ over_front (k ∷ s ∷ le16 h) out = goes_on (k ∷ s ∷ []) out b (le16 h) c 2 w refl r in
    let y : d ≡ over_front ((k ∷ s ∷ le16 h) ++ le16 mask) out =
    goes_on (k ∷ s ∷ le16 h) out c (le16 mask) d 4 x refl t in
    goes_on ((k ∷ s ∷ le16 h) ++ le16 mask) out d (zeros 10) e 6 y refl u

head_size : (k s h mask : ℕ) → length (frame_head k s h mask) ≡ 16
unfolding frame_head le16 zeros
head_size k s h mask = refl

-- a head, a digest and a block
pub frame_follows : (out a b c digest block : Bytes) (k s h mask : ℕ) → length digest ≡ 32
    → a ≡ over_front (frame_head k s h mask) out → b ≡ put a 16 digest → c ≡ put b 48 block
    → c ≡ over_front (frame_of k s h mask digest block) out
unfolding frame_of frame_head le16 zeros
frame_follows out a b c digest block k s h mask size p q r =
    let head = frame_head k s h mask in
    let t : b ≡ over_front (head ++ digest) out = goes_on head out a digest b 16 p (head_size k s h mask) q in
    goes_on (head ++ digest) out b block c 48 t (rw (length-append, head_size, size)) r

-- a head and zeros
pub plain_follows : (out a b : Bytes) (k s h mask : ℕ) → a ≡ over_front (frame_head k s h mask) out →
    b ≡ put a 16 (zeros 208)
    → b ≡ over_front (frame_of k s h mask (zeros 32) (zeros 176)) out
unfolding frame_of frame_head le16 zeros
plain_follows out a b k s h mask p q = goes_on (frame_head k s h mask) out a (zeros 208) b 16 p (head_size k s h mask) q

-- a head, no digest and a block
pub block_follows : (out a b c block : Bytes) (k s h mask : ℕ) → a ≡ over_front (frame_head k s h mask) out →
    b ≡ put a 16 (zeros 32) → c ≡ put b 48 block → c ≡ over_front (frame_of k s h mask (zeros 32) block) out
block_follows out a b c block k s h mask p q r =
    frame_follows out a b c (zeros 32) block k s h mask (length_zeros 32) p q r

-- a head, a digest and no block
pub digest_follows : (out a b c digest : Bytes) (k s h mask : ℕ) → length digest ≡ 32 →
    a ≡ over_front (frame_head k s h mask) out → b ≡ put a 16 digest → c ≡ put b 48 (zeros 176) →
    c ≡ over_front (frame_of k s h mask digest (zeros 176)) out
digest_follows out a b c digest k s h mask size p q r =
    frame_follows out a b c digest (zeros 176) k s h mask size p q r
