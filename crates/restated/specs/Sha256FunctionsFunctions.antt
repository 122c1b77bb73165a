-- Written by tests/restated --write: what docs/statements has of
-- crates/sha256_functions/specs/Functions.antt.
use Rattle.std.specs.Prelude.{ℕ}
use package.Rattle.sha256_functions.specs.Words.{◌&◌, ◌⊕◌, complement, rotr, shr}
use mathlib.Core.Path.{◌≡◌ as ◌is-kept◌, refl as by-text}
use package.Rattle.sha256_functions.specs.Functions as page

Ch-kept : ℕ → ℕ → ℕ → ℕ
Ch-kept x y z = (x & y) ⊕ (complement x & z)

same-Ch : Ch-kept is-kept page.Ch
unfolding Ch-kept page.Ch
same-Ch = by-text

Maj-kept : ℕ → ℕ → ℕ → ℕ
Maj-kept x y z = (x & y) ⊕ (x & z) ⊕ (y & z)

same-Maj : Maj-kept is-kept page.Maj
unfolding Maj-kept page.Maj
same-Maj = by-text

Σ0-kept : ℕ → ℕ
Σ0-kept x = rotr 2 x ⊕ rotr 13 x ⊕ rotr 22 x

same-Σ0 : Σ0-kept is-kept page.Σ0
unfolding Σ0-kept page.Σ0
same-Σ0 = by-text

Σ1-kept : ℕ → ℕ
Σ1-kept x = rotr 6 x ⊕ rotr 11 x ⊕ rotr 25 x

same-Σ1 : Σ1-kept is-kept page.Σ1
unfolding Σ1-kept page.Σ1
same-Σ1 = by-text

σ0-kept : ℕ → ℕ
σ0-kept x = rotr 7 x ⊕ rotr 18 x ⊕ shr 3 x

same-σ0 : σ0-kept is-kept page.σ0
unfolding σ0-kept page.σ0
same-σ0 = by-text

σ1-kept : ℕ → ℕ
σ1-kept x = rotr 17 x ⊕ rotr 19 x ⊕ shr 10 x

same-σ1 : σ1-kept is-kept page.σ1
unfolding σ1-kept page.σ1
same-σ1 = by-text
