-- The bytes of a new book: all zero but for the head, and then one leader more with each turn.
use Rattle.std.specs.Prelude.{ℕ, ◌+◌, ◌*◌, ◌<◌, ◌≤◌, ◌≡◌, length, set}
use Rattle.std.proofs.Common.{arith, zero-add, add-one, sym, ap, ◌∙◌}
use Rattle.std.proofs.Math.Seq.{paste}
use Rattle.std.proofs.Math.Seq.{paste-suc}
use Rattle.std.proofs.Math.Seq.{paste-zero}
use Rattle.std.proofs.Math.Seq.{length-paste}
use Rattle.protocol.specs.Bytes.{Bytes, byte_at, le16, zeros, put, AreBytes}
use Rattle.protocol.specs.State.{encode}
use Rattle.protocol.specs.Open.{Opening, long, new_state}
use Rattle.protocol.proofs.Laws.BytesLaws.{put_all, put_paste, length_zeros}
use Rattle.protocol.proofs.Laws.NewStateLaws.{new_from_zeros, new_leader}

pub head_made : (n own heights : ℕ) (weights book cleared : Bytes) → length book ≡ 576 + 880 * heights →
    AreBytes weights → length weights ≡ 2 * n → n ≤ 16 →
    cleared ≡ zeros (length book) →
    put (put (put (set (set (set cleared 0 n) 1 own) 7 3) 8 weights) 40 (le16 heights)) 42 (le16 1) ≡
    encode (new_state (long weights) n own (zeros heights))
head_made n own heights weights book cleared size small given high clear =
    rw (clear ∙ ap zeros size)
    (new_from_zeros n own heights weights small given high)

-- the leaders after `i` turns, and zeros after them
abbrev pub led : Bytes → ℕ → Bytes
led leaders i = paste (zeros (length leaders)) 0 leaders i

pub led_none : (leaders : Bytes) → zeros (length leaders) ≡ led leaders 0
led_none leaders = paste-zero (zeros (length leaders)) 0 leaders

pub led_all : (leaders : Bytes) (i : ℕ) → i ≡ length leaders → led leaders i ≡ leaders
led_all leaders i e =
    ap (λ (k : ℕ). led leaders k) e ∙ put_paste (zeros (length leaders)) leaders 0
    ∙ put_all (zeros (length leaders)) leaders (length_zeros (length leaders))

pub led_more : (way : Opening) (n own : ℕ) (leaders : Bytes) (i : ℕ) (book : Bytes) →
    book ≡ encode (new_state way n own (led leaders i)) → i < length leaders →
    set book (576 + 16 * i) (byte_at leaders i) ≡ encode (new_state way n own (led leaders (i + 1)))
led_more way n own leaders i book so_far h =
    let size : length (zeros (length leaders)) ≡ length leaders = length_zeros (length leaders) in
    ap (λ (b : Bytes). set b (576 + 16 * i) (byte_at leaders i)) so_far ∙
    new_leader way n own (led leaders i) i (byte_at leaders i)
    (rw (length-paste (zeros (length leaders)) 0 leaders i (omega arith) (omega arith)) (omega arith)) ∙
    ap (λ (l : Bytes). encode (new_state way n own l))
    (ap (λ (k : ℕ). set (led leaders i) k (byte_at leaders i)) (sym (zero-add i)) ∙
    paste-suc (zeros (length leaders)) 0 leaders i 0 (omega arith) h ∙ ap (λ (k : ℕ). led leaders k) (sym (add-one i)))
