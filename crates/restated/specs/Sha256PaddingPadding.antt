-- Written by tests/restated --write: what docs/statements has of
-- crates/sha256_padding/specs/Padding.antt.
use Rattle.std.specs.Prelude.{ℕ, zero, suc, ◌-◌, ◌*◌, ◌/◌, ◌%◌, ◌^◌, [], ◌∷◌, ◌++◌, length, take, drop, replicate}
use package.Rattle.sha256_functions.specs.Bytes.{Bytes}
use package.Rattle.sha256_padding.specs.Padding.{big_endian, zeros, zero_count, padding}
use mathlib.Core.Path.{◌≡◌ as ◌is-kept◌, refl as by-text}
use package.Rattle.sha256_padding.specs.Padding as page

big_endian-kept : ℕ → ℕ → Bytes
big_endian-kept zero number = []
big_endian-kept (suc count) number = number / 256 ^ count % 256 ∷ big_endian-kept count number

same-big_endian : big_endian-kept is-kept page.big_endian
unfolding big_endian-kept page.big_endian
same-big_endian = by-text

zeros-kept : ℕ → Bytes
zeros-kept count = replicate count 0

same-zeros : zeros-kept is-kept page.zeros
unfolding zeros-kept page.zeros
same-zeros = by-text

zero_count-kept : ℕ → ℕ
zero_count-kept size = (119 - size % 64) % 64

same-zero_count : zero_count-kept is-kept page.zero_count
unfolding zero_count-kept page.zero_count
same-zero_count = by-text

padding-kept : ℕ → Bytes
padding-kept size = 0x80 ∷ (zeros (zero_count size) ++ big_endian 8 (8 * size))

same-padding : padding-kept is-kept page.padding
unfolding padding-kept page.padding
same-padding = by-text

padded-kept : Bytes → Bytes
padded-kept message = message ++ padding (length message)

same-padded : padded-kept is-kept page.padded
unfolding padded-kept page.padded
same-padded = by-text

block-kept : Bytes → ℕ → Bytes
block-kept bytes index = take 64 (drop (64 * index) bytes)

same-block : block-kept is-kept page.block
unfolding block-kept page.block
same-block = by-text
