-- Turns of the loop that counts the bits of a mask.
use Prim.Native.Nat.{ℕ, ◌+◌, ◌/◌, ◌%◌, ◌^◌}
use native.Mathlib.Nat.{div-div-eq-div-mul, div-one, pow-suc}
use native.Mathlib.Numerals.{add-one}
use mathlib.Core.Path.{◌≡◌, sym}
use Rattle.protocol.specs.Mask.{ones}

pub no_bits : (mask : ℕ) → mask ≡ mask / 2 ^ 0
no_bits mask = sym (div-one mask)

pub rest_more : (mask s : ℕ) → mask / 2 ^ s / 2 ≡ mask / 2 ^ (s + 1)
rest_more mask s = rw (add-one, pow-suc 2 s) (div-div-eq-div-mul mask (2 ^ s) 2)

pub ones_more : (mask s : ℕ) → ones mask (s + 1) ≡ ones mask s + mask / 2 ^ s % 2
unfolding ones
ones_more mask s = rw add-one
