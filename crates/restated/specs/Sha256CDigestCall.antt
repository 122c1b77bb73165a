-- Written by tests/restated --write: what docs/statements has of
-- crates/sha256_c/specs/DigestCall.antt.
use Rattle.std.specs.Prelude.{ℕ, cond, leb, length}
use package.Rattle.sha256.specs.Bytes.{Bytes}
use mathlib.Core.Path.{◌≡◌ as ◌is-kept◌, refl as by-text}
use package.Rattle.sha256_c.specs.DigestCall as page

digest_number-kept : Bytes → ℕ
digest_number-kept out = cond (leb 32 (length out)) 0 3

same-digest_number : digest_number-kept is-kept page.digest_number
unfolding digest_number-kept page.digest_number
same-digest_number = by-text
