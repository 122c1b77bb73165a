-- Written by tests/restated --write: what docs/statements has of
-- crates/sha256/specs/Bytes.antt.
use package.Rattle.sha256_functions.specs.Bytes.{Bytes}
use mathlib.Core.Path.{◌≡◌ as ◌is-kept◌, refl as by-text}
use package.Rattle.sha256.specs.Bytes as page

same-Bytes : Bytes is-kept page.Bytes
same-Bytes = by-text
