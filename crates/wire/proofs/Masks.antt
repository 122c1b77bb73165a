-- The bit of a replica, and a replica's place in a mask that code has found.
use Rattle.std.specs.Prelude.{ℕ, ◌*◌, ◌/◌, ◌%◌, ◌^◌, ◌≤◌, ◌≡◌, Bool, cond}
use Rattle.std.proofs.Common.{arith, mod-eq_of_lt, mod-lt, one-mul, sym, ap₂, ◌∙◌}
use Rattle.std.proofs.Math.Nat.{pow-le-pow_right}
use Rattle.std.proofs.Math.Pow.{pow-lt}
use Rattle.protocol.specs.Mask.{in_mask}
use Rattle.protocol.proofs.Laws.QuorumLaws.{bit_weight}

-- `1 << s` of a usize
pub one_shifted : (s : ℕ) → s ≤ 16 → ((1 * 2 ^ s) % 18446744073709551616 ≡ 2 ^ s) ×
    ((1 * 2 ^ s) % 18446744073709551616 ≤ 65536)
one_shifted s h =
    let is : (1 * 2 ^ s) % 18446744073709551616 ≡ 2 ^ s = rw one-mul (mod-eq_of_lt (pow-lt {j = 64} (omega arith))) in
    (is, rw is (pow-le-pow_right {n = 2} (omega arith) {i = s} {j = 16} h))

-- the bit of a replica that is in a mask is 1
pub bit_number : (mask s : ℕ) → mask / 2 ^ s % 2 ≡ cond (in_mask mask s) 1 0
unfolding in_mask
bit_number mask s = bit_weight (mask / 2 ^ s % 2) (mod-lt (mask / 2 ^ s) {m = 2} (omega arith))

-- what code finds in the mask that is held, of the signer of a frame
module _ {held mask s signer : ℕ} (holds : held ≡ mask) (signs : s ≡ signer) where
  pub same_bit : {found : Bool} → found ≡ in_mask held s → in_mask mask signer ≡ found
  same_bit e = sym (ap₂ (λ (m k : ℕ). in_mask m k) holds signs) ∙ sym e
