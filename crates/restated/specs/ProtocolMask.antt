-- Written by tests/restated --write: what docs/statements has of
-- crates/protocol/specs/Mask.antt.
use Rattle.std.specs.Prelude.{ℕ, zero, suc, ◌+◌, ◌/◌, ◌%◌, ◌^◌, Bool, ◌&&◌, ◌||◌, cond, List, [], ◌∷◌, eqb, ltb}
use package.Rattle.protocol.specs.Mask.{in_mask, mask_of}
use mathlib.Core.Path.{◌≡◌ as ◌is-kept◌, refl as by-text}
use package.Rattle.protocol.specs.Mask as page

in_mask-kept : ℕ → ℕ → Bool
in_mask-kept mask s = eqb (mask / 2 ^ s % 2) 1

same-in_mask : in_mask-kept is-kept page.in_mask
unfolding in_mask-kept page.in_mask
same-in_mask = by-text

mask_of-kept : (ℕ → Bool) → ℕ → ℕ
mask_of-kept test zero = 0
mask_of-kept test (suc s) = mask_of-kept test s + cond (test s) (2 ^ s) 0

same-mask_of : mask_of-kept is-kept page.mask_of
unfolding mask_of-kept page.mask_of
same-mask_of = by-text

ones-kept : ℕ → ℕ → ℕ
ones-kept mask zero = 0
ones-kept mask (suc s) = ones-kept mask s + mask / 2 ^ s % 2

same-ones : ones-kept is-kept page.ones
unfolding ones-kept page.ones
same-ones = by-text

union-kept : ℕ → ℕ → ℕ → ℕ
union-kept n mask other = mask_of (λ s. in_mask mask s || in_mask other s) n

same-union : union-kept is-kept page.union
unfolding union-kept page.union
same-union = by-text

intersection-kept : ℕ → ℕ → ℕ → ℕ
intersection-kept n mask other = mask_of (λ s. in_mask mask s && in_mask other s) n

same-intersection : intersection-kept is-kept page.intersection
unfolding intersection-kept page.intersection
same-intersection = by-text

below_bit-kept : ℕ → ℕ → Bool
below_bit-kept n mask = ltb mask (2 ^ n)

same-below_bit : below_bit-kept is-kept page.below_bit
unfolding below_bit-kept page.below_bit
same-below_bit = by-text

weigh-kept : (ℕ → Bool) → List ℕ → ℕ
weigh-kept p [] = 0
weigh-kept p (w ∷ ws) = cond (p 0) w 0 + weigh-kept (λ t. p (suc t)) ws

same-weigh : weigh-kept is-kept page.weigh
unfolding weigh-kept page.weigh
same-weigh = by-text

total-kept : List ℕ → ℕ
total-kept [] = 0
total-kept (w ∷ ws) = w + total-kept ws

same-total : total-kept is-kept page.total
unfolding total-kept page.total
same-total = by-text
