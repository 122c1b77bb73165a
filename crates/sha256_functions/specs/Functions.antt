-- FIPS 180-4, section 4.1.2: the six functions of SHA-256, equations (4.2) to (4.7). Assumes nothing.
use Rattle.std.specs.Prelude.{ℕ}
use Rattle.sha256_functions.specs.Words.{◌&◌, ◌⊕◌, complement, rotr, shr}

-- equation (4.2)
unfoldable pub Ch : ℕ → ℕ → ℕ → ℕ
Ch x y z = (x & y) ⊕ (complement x & z)

-- equation (4.3)
unfoldable pub Maj : ℕ → ℕ → ℕ → ℕ
Maj x y z = (x & y) ⊕ (x & z) ⊕ (y & z)

-- equation (4.4)
unfoldable pub Σ0 : ℕ → ℕ
Σ0 x = rotr 2 x ⊕ rotr 13 x ⊕ rotr 22 x

-- equation (4.5)
unfoldable pub Σ1 : ℕ → ℕ
Σ1 x = rotr 6 x ⊕ rotr 11 x ⊕ rotr 25 x

-- equation (4.6)
unfoldable pub σ0 : ℕ → ℕ
σ0 x = rotr 7 x ⊕ rotr 18 x ⊕ shr 3 x

-- equation (4.7)
unfoldable pub σ1 : ℕ → ℕ
σ1 x = rotr 17 x ⊕ rotr 19 x ⊕ shr 10 x
