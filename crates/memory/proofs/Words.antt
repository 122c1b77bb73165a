-- Parts and 16-bit numbers by their bytes: two that have the same are the same, and one that is stored is read back.
use Prim.Native.Nat.{ℕ, ◌+◌, ◌/◌, ◌%◌, ◌≤◌, ◌<◌}
use native.Mathlib.Omega.{arith}
use mathlib.Core.Path.{◌≡◌, refl, sym, ap, ◌∙◌}
use lib.ListN.{length, set, length-set}
use lib.Seq.{get_or-set_same, get_or-set_other, ext_get_or}
use Rattle.protocol.specs.Bytes.{Bytes, byte_at, word16, le16, part, put}
use Rattle.protocol.proofs.Laws.BytesLaws.{length_part, byte_part, put_word}
use Rattle.protocol.proofs.Laws.BytesLaws.{word16_le16}

-- two parts have the same bytes
pub parts_same : (a b : Bytes) (i j k : ℕ) → i + k ≤ length a → j + k ≤ length b →
    ((m : ℕ) → m < k → byte_at a (i + m) ≡ byte_at b (j + m)) → part a i k ≡ part b j k
parts_same a b i j k p q each =
    ext_get_or 0 (part a i k) (part b j k) (length_part a i k p ∙ sym (length_part b j k q))
    (λ m l. let inside : m < k = rw (length_part a i k p) at l in
    byte_part a i k m inside ∙ each m inside ∙ sym (byte_part b j k m inside))

-- two numbers have the same bytes
pub words_same : (a b : Bytes) (i : ℕ) → byte_at a i ≡ byte_at b i → byte_at a (i + 1) ≡ byte_at b (i + 1) →
    word16 a i ≡ word16 b i
unfolding word16
words_same a b i low high = rw (low, high)

pub word_of : (b : Bytes) (i value : ℕ) → byte_at b i ≡ value % 256 → byte_at b (i + 1) ≡ value / 256 → word16 b i ≡ value
unfolding word16
word_of b i value low high = rw (low, high) (word16_le16 value)

pub word_size : (value : ℕ) → length (le16 value) ≡ 2
unfolding le16
word_size value = refl

-- a number that is stored is read back
pub word_put : (known : Bytes) (i value : ℕ) → i + 1 < length known → word16 (put known i (le16 value)) i ≡ value
word_put known i value fits =
    let once = set known i (value % 256) in
    let size = length-set known i (value % 256) in
    let low : byte_at (set once (i + 1) (value / 256)) i ≡ value % 256 =
    get_or-set_other once (i + 1) i (value / 256) 0 (λ e. omega arith)
    ∙ get_or-set_same known i (value % 256) 0 (omega arith) in
    let high : byte_at (set once (i + 1) (value / 256)) (i + 1) ≡ value / 256 =
    get_or-set_same once (i + 1) (value / 256) 0 (omega arith) in
    ap (λ (b : Bytes). word16 b i) (put_word known i value fits)
    ∙ word_of (set once (i + 1) (value / 256)) i value low high
