-- Written by tests/restated --write: what docs/statements has of
-- crates/sha256_functions/specs/Bytes.antt.
use Rattle.std.specs.Prelude.{ℕ, List}
use mathlib.Core.Path.{◌≡◌ as ◌is-kept◌, refl as by-text}
use package.Rattle.sha256_functions.specs.Bytes as page

abbrev Bytes-kept : Type 0
Bytes-kept = List ℕ

same-Bytes : Bytes-kept is-kept page.Bytes
same-Bytes = by-text
