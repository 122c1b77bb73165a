-- Laws of the padding and of the blocks. Assumes nothing.
use Rattle.std.specs.Prelude.{ℕ, zero, suc, ◌+◌, ◌*◌, ◌/◌, ◌%◌, ◌^◌, ◌<◌, ◌≤◌, ◌≡◌, refl, [], ◌∷◌, ◌++◌, length, drop}
use Rattle.std.proofs.Common.{sym, ap, ◌∙◌, arith, mul_assoc, pow-suc, length-append, length-drop, drop-drop}
use Rattle.std.proofs.Math.Nat.{mod-add-div, add-mul-div_left, add-mul-mod_self_left, one-le-pow}
use Rattle.std.proofs.lemmas.List.{length-replicate, replicate-append-replicate, take-append-le, drop-append-le}
use Rattle.sha256_functions.specs.Bytes.{Bytes}
use Rattle.sha256_padding.specs.Padding.{big_endian, zeros, zero_count, padding, padded, block}

pub big_endian-length : (count number : ℕ) → length (big_endian count number) ≡ count
unfolding big_endian
big_endian-length zero number = refl
big_endian-length (suc count) number = ap suc (big_endian-length count number)

-- a byte of a number is a byte of what is left of it modulo a multiple of the bytes up to there
byte_low : (number place other : ℕ) → 0 < place → number % (place * (256 * other)) / place % 256 ≡ number / place % 256
byte_low number place other positive =
    let left = number % (place * (256 * other)) in
    let above = other * (number / (place * (256 * other))) in
    let parts : left + place * (256 * above) ≡ number
    = rw (← mul_assoc 256 other, ← mul_assoc place (256 * other)) (mod-add-div number (place * (256 * other))) in
    let moved : number / place ≡ left / place + 256 * above
    = ap (λ (n : ℕ). n / place) (sym parts) ∙ add-mul-div_left left (256 * above) positive in
    rw (moved, add-mul-mod_self_left)

-- the lowest bytes of a number are those of what is left of it modulo a multiple of their range
pub big_endian-low : (count other number : ℕ) → big_endian count (number % (256 ^ count * other)) ≡ big_endian count number
unfolding big_endian
big_endian-low zero other number = refl
big_endian-low (suc count) other number =
    rw (
      pow-suc 256 count,
      mul_assoc (256 ^ count) 256 other,
      byte_low number (256 ^ count) other (one-le-pow count 256 (omega arith)),
      big_endian-low count (256 * other) number,
    )

pub zeros_length : (count : ℕ) → length (zeros count) ≡ count
unfolding zeros
zeros_length count = length-replicate count 0

pub zeros_add : (first more : ℕ) → zeros first ++ zeros more ≡ zeros (first + more)
unfolding zeros
zeros_add first more = replicate-append-replicate first more 0

-- the zero bytes do what they are for, and no fewer would
pub zero_count-fills : (size : ℕ) → (size + 1 + zero_count size) % 64 ≡ 56
unfolding zero_count
zero_count-fills size = omega arith

pub zero_count-least : (size other : ℕ) → (size + 1 + other) % 64 ≡ 56 → zero_count size ≤ other
unfolding zero_count
zero_count-least size other fills = omega arith

pub padding_length : (size : ℕ) → length (padding size) ≡ 9 + zero_count size
unfolding padding
padding_length size = simp (length-append, zeros_length, big_endian-length) (omega arith)

pub padded_whole : (message : Bytes) → length (padded message) % 64 ≡ 0
unfolding padded
padded_whole message =
    simp (length-append, padding_length) (omega (arith, zero_count-fills (length message)))

-- the example of section 5.1.1: `abc`, the byte 0x80, 52 zeros, and 24 bits in 8 bytes
pub padded_abc : padded (0x61 ∷ 0x62 ∷ 0x63 ∷ []) ≡ 0x61 ∷ 0x62 ∷ 0x63 ∷ 0x80 ∷
    (zeros 52 ++ (0 ∷ 0 ∷ 0 ∷ 0 ∷ 0 ∷ 0 ∷ 0 ∷ 24 ∷ []))
unfolding padded padding zero_count big_endian
padded_abc = refl

-- a whole block of the front is a block of the whole
pub block_front_lem : (bytes more : Bytes) (index : ℕ) → 64 * index + 64 ≤ length bytes →
    block (bytes ++ more) index ≡ block bytes index
unfolding block
block_front_lem bytes more index fits =
    rw (
      drop-append-le (64 * index) bytes more (omega arith),
      take-append-le 64 (drop (64 * index) bytes) more (simp length-drop (omega arith)),
    )

-- a block of what is left after some blocks is a later block of the whole
pub block_drop : (bytes : Bytes) (first index : ℕ) → block (drop (64 * first) bytes) index ≡ block bytes (first + index)
unfolding block
block_drop bytes first index =
    let place : 64 * (first + index) ≡ 64 * first + 64 * index = omega arith in
    rw (drop-drop, place)
