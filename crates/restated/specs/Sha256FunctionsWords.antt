-- Written by tests/restated --write: what docs/statements has of
-- crates/sha256_functions/specs/Words.antt.
use Rattle.std.specs.Prelude.{ℕ, ◌+◌, ◌-◌, ◌*◌, ◌/◌, ◌%◌, ◌^◌}
use Rattle.std.specs.Int.Bits.{bit_and, bit_or, bit_xor}
use package.Rattle.sha256_functions.specs.Words.{◌&◌, ◌⊕◌, shl, shr}
use mathlib.Core.Path.{◌≡◌ as ◌is-kept◌, refl as by-text}
use package.Rattle.sha256_functions.specs.Words as page

infixl 70 ◌&-kept◌
◌&-kept◌ : ℕ → ℕ → ℕ
x &-kept y = bit_and x y

same-& : ◌&-kept◌ is-kept page.◌&◌
unfolding ◌&-kept◌ page.◌&◌
same-& = by-text

infixl 60 ◌⊕-kept◌
◌⊕-kept◌ : ℕ → ℕ → ℕ
x ⊕-kept y = bit_xor x y

same-⊕ : ◌⊕-kept◌ is-kept page.◌⊕◌
unfolding ◌⊕-kept◌ page.◌⊕◌
same-⊕ = by-text

complement-kept : ℕ → ℕ
complement-kept x = x ⊕ (2 ^ 32 - 1)

same-complement : complement-kept is-kept page.complement
unfolding complement-kept page.complement
same-complement = by-text

add-kept : ℕ → ℕ → ℕ
add-kept x y = (x + y) % 2 ^ 32

same-add : add-kept is-kept page.add
unfolding add-kept page.add
same-add = by-text

shl-kept : ℕ → ℕ → ℕ
shl-kept n x = (x * 2 ^ n) % 2 ^ 32

same-shl : shl-kept is-kept page.shl
unfolding shl-kept page.shl
same-shl = by-text

shr-kept : ℕ → ℕ → ℕ
shr-kept n x = x / 2 ^ n

same-shr : shr-kept is-kept page.shr
unfolding shr-kept page.shr
same-shr = by-text

rotr-kept : ℕ → ℕ → ℕ
rotr-kept n x = bit_or (shr n x) (shl (32 - n) x)

same-rotr : rotr-kept is-kept page.rotr
unfolding rotr-kept page.rotr
same-rotr = by-text
