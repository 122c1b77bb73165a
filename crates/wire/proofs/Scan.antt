-- The bits of bytes gathered into one number, which is 0 if and only if every byte is.
use Rattle.std.specs.Prelude.{ℕ, ◌≡◌, [], ◌∷◌, ◌&&◌, fold, eqb}
use Rattle.std.proofs.Common.{sym, bit_or}
use Rattle.std.proofs.Math.Bool.{and_assoc, and-true}
use Rattle.protocol.specs.Bytes.{Bytes, all, is_zero}
use Rattle.difference.proofs.Differences.{or_is_zero}

-- from a number on that is gathered already
pub gathered : (seen : ℕ) (bytes : Bytes) → eqb (fold bit_or seen bytes) 0 ≡ (eqb seen 0 && is_zero bytes)
unfolding is_zero all
gathered seen [] = sym (and-true (eqb seen 0))
gathered seen (x ∷ xs) = rw (gathered (bit_or seen x) xs, or_is_zero) (and_assoc (eqb seen 0) (eqb x 0) (is_zero xs))
