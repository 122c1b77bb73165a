-- What a number says of a refusal: 0 that none stands, and any other that it does.
use Rattle.std.specs.Prelude.{ℕ, zero, suc, ◌≤◌, ◌≡◌, refl}
use Rattle.std.proofs.Common.{arith, sym}
use Rattle.std.proofs.Math.Option.{Option, some, none}
use Rattle.frame_refusals.specs.RefusalNumber.{refusal_of}

pub number_refuses : (number : ℕ) (o : Option ℕ) → refusal_of number ≡ o → (number ≡ 0 → ⊥) → o ≡ some number
unfolding refusal_of
number_refuses zero o e f = absurd (f refl)
number_refuses (suc number) o e f = sym e

pub zero_passes : (number : ℕ) (o : Option ℕ) → refusal_of number ≡ o → number ≡ 0 → o ≡ none
unfolding refusal_of
zero_passes zero o e z = sym e
zero_passes (suc number) o e z = absurd (omega arith)

pub refusal_some : (number : ℕ) → 1 ≤ number → refusal_of number ≡ some number
unfolding refusal_of
refusal_some zero l = absurd (omega arith)
refusal_some (suc number) l = refl
