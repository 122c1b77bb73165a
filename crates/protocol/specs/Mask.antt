-- Masks: sets of replicas as the bits of a number, and how many are in one.
use Rattle.std.specs.Prelude.{◌≡◌, ℕ, zero, suc, ◌+◌, ◌/◌, ◌%◌, ◌^◌, ◌<◌, Bool, ◌&&◌, ◌||◌, cond, true, List, [], ◌∷◌, eqb, ltb}

-- a mask has two bytes, a bit for each replica
abbrev pub mask_limit : ℕ
mask_limit = 65536

-- whether replica `s` is in a mask
unfoldable pub in_mask : ℕ → ℕ → Bool
in_mask mask s = eqb (mask / 2 ^ s % 2) 1

-- the mask of the replicas below `n` that pass a test
unfoldable pub mask_of : (ℕ → Bool) → ℕ → ℕ
mask_of test zero = 0
mask_of test (suc s) = mask_of test s + cond (test s) (2 ^ s) 0

-- how many of the replicas below `n` are in a mask
unfoldable pub ones : ℕ → ℕ → ℕ
ones mask zero = 0
ones mask (suc s) = ones mask s + mask / 2 ^ s % 2

-- the replicas below `n` that are in either mask
unfoldable pub union : ℕ → ℕ → ℕ → ℕ
union n mask other = mask_of (λ s. in_mask mask s || in_mask other s) n

-- the replicas below `n` that are in both masks
unfoldable pub intersection : ℕ → ℕ → ℕ → ℕ
intersection n mask other = mask_of (λ s. in_mask mask s && in_mask other s) n

-- no bit from `n` up
unfoldable pub below_bit : ℕ → ℕ → Bool
below_bit n mask = ltb mask (2 ^ n)

-- the weight of the replicas that pass a test, for a list of the replicas' weights
unfoldable pub weigh : (ℕ → Bool) → List ℕ → ℕ
weigh p [] = 0
weigh p (w ∷ ws) = cond (p 0) w 0 + weigh (λ t. p (suc t)) ws

unfoldable pub total : List ℕ → ℕ
total [] = 0
total (w ∷ ws) = w + total ws

-- every bit of `a` below `n` is one of `b`
abbrev pub Within : ℕ → ℕ → ℕ → Type 0
Within n a b = (t : ℕ) → t < n → in_mask a t ≡ true → in_mask b t ≡ true
