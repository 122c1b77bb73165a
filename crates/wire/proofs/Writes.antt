-- What is written to a part of a slice, and pieces written one after the other that make a block.
use Rattle.std.specs.Prelude.{ℕ, ◌≡◌, ◌+◌, ◌-◌, [], ◌++◌, length}
use Rattle.std.proofs.Common.{arith, refl, length-append, drop-drop}
use borrow.Rule.Slice.PartMut.{put_mid}
use Rattle.protocol.specs.Bytes.{Bytes, le16, zeros, join, over_front, put}
use Rattle.protocol.proofs.Laws.FrontLaws.{starts, goes_on}
use Rattle.protocol.specs.Block.{new_block}

-- the bytes from `i` on, as many as are written
pub part_put : (bytes new : Bytes) (i count : ℕ) {part : Bytes} → part ≡ new → length new ≡ count →
    put_mid i (i + count - i) bytes part ≡ put bytes i new
unfolding put
part_put bytes new i count e size =
    let k : i + count - i ≡ length new = omega arith in
    rw (e, k, drop-drop)

-- the five pieces of a block with no entries
pub block_starts : (block digest a b c d e : Bytes) (h parent : ℕ) → length digest ≡ 32
    → a ≡ put block 0 (le16 h) → b ≡ put a 2 (le16 parent) → c ≡ put b 4 (zeros 12) → d ≡ put c 16 digest →
    e ≡ put d 48 (zeros 128)
    → e ≡ over_front (new_block h parent digest []) block
unfolding new_block le16 zeros join
block_starts block digest a b c d e h parent size p q r s t =
    let start = le16 h ++ le16 parent in
    let v : b ≡ over_front start block = goes_on (le16 h) block a (le16 parent) b 2 (starts block (le16 h) a p) refl q in
    let w : c ≡ over_front (start ++ zeros 12) block = goes_on start block b (zeros 12) c 4 v refl r in
    let x : d ≡ over_front ((start ++ zeros 12) ++ digest) block =
    goes_on (start ++ zeros 12) block c digest d 16 w refl s in
    goes_on ((start ++ zeros 12) ++ digest) block d (zeros 128) e 48 x (simp length-append (omega arith)) t
