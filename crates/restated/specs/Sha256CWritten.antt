-- Written by tests/restated --write: what docs/statements has of
-- crates/sha256_c/specs/Written.antt.
use Rattle.std.specs.Prelude.{cond, ◌++◌, leb, length, drop}
use package.Rattle.sha256.specs.Bytes.{Bytes}
use package.Rattle.sha256.specs.Digest.{sha256}
use mathlib.Core.Path.{◌≡◌ as ◌is-kept◌, refl as by-text}
use package.Rattle.sha256_c.specs.Written as page

written-kept : Bytes → Bytes → Bytes
written-kept message out = cond (leb 32 (length out)) (sha256 message ++ drop 32 out) out

same-written : written-kept is-kept page.written
unfolding written-kept page.written
same-written = by-text
