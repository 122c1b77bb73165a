-- Writing from the front of a buffer on: each piece stands behind those that were written before.
use Rattle.std.specs.Prelude.{ℕ, ◌+◌, ◌≤◌, ◌≡◌, refl, [], ◌++◌, length, take, drop}
use Rattle.std.proofs.Common.{arith, zero-add, add-zero, sym, ◌∙◌, append_assoc, length-append, length-drop, take-append-drop, drop-drop, length-take-le}
use Rattle.std.proofs.Math.Seq.{take-append_seam, drop-append-add, drop-append_seam}
use Rattle.protocol.specs.Bytes.{Bytes, over_front, put}
use Rattle.protocol.proofs.Laws.BytesLaws.{middle_put}

-- the first piece
pub put_start : (bytes new : Bytes) → put bytes 0 new ≡ over_front new bytes
unfolding put over_front
put_start bytes new = rw zero-add

-- one more piece
pub put_next : (front bytes new : Bytes) (k : ℕ) → length front ≡ k →
    put (over_front front bytes) k new ≡ over_front (front ++ new) bytes
unfolding put over_front
put_next front bytes new k size =
    rw (← size, take-append_seam, drop-append-add, drop-drop, length-append)
    (sym (append_assoc front new (drop (length front + length new) bytes)))

-- the same as steps from one content to the next
pub starts : (bytes new after : Bytes) → after ≡ put bytes 0 new → after ≡ over_front new bytes
starts bytes new after e = e ∙ put_start bytes new

pub goes_on : (front bytes before new after : Bytes) (k : ℕ) → before ≡ over_front front bytes → length front ≡ k →
    after ≡ put before k new → after ≡ over_front (front ++ new) bytes
goes_on front bytes before new after k e size f = f ∙ rw e (put_next front bytes new k size)

-- writing over what is written
pub front_again : (new old buffer : Bytes) → length new ≡ length old →
    over_front new (over_front old buffer) ≡ over_front new buffer
unfolding over_front
front_again new old buffer e = rw (e, drop-append_seam)

-- nothing to write
pub front_none : (buffer : Bytes) → over_front [] buffer ≡ buffer
unfolding over_front
front_none buffer = refl

-- ---- a part of a buffer that was lent and comes back
-- what was put into the part stands in the whole
pub put_in_part : (bytes new : Bytes) (start count i : ℕ) → start + count ≤ length bytes → i + length new ≤ count
    → take start bytes ++ (put (take count (drop start bytes)) i new ++ drop count (drop start bytes)) ≡ put bytes
    (start + i) new
put_in_part bytes new start count i fits inside =
    let lent = take count (drop start bytes) in
    let after = drop count (drop start bytes) in
    let size : length lent ≡ count = length-take-le count (drop start bytes) (rw length-drop (omega arith)) in
    let whole : take start bytes ++ (lent ++ after) ≡ bytes =
    rw (take-append-drop count (drop start bytes)) (take-append-drop start bytes) in
    sym (rw whole at (middle_put (take start bytes) lent after start (length-take-le start bytes (omega arith)) i new
    (rw size inside)))

-- what was written to the part's front
pub front_in_part : (bytes new : Bytes) (start count : ℕ) → start + count ≤ length bytes → length new ≤ count
    → take start bytes ++ (over_front new (take count (drop start bytes)) ++ drop count (drop start bytes)) ≡ put bytes
    start new
front_in_part bytes new start count fits inside =
    let e : start + 0 ≡ start = add-zero start in
    rw (← put_start (take count (drop start bytes)) new)
    (rw e at (put_in_part bytes new start count 0 fits (omega arith)))
