-- Written by tests/restated --write: what docs/statements has of
-- crates/witnesses/specs/Laws/AllEditionsLaws.antt.
use Rattle.std.specs.Prelude.{◌≡◌, length}
use package.Rattle.protocol.specs.Bytes.{Bytes}
use package.Rattle.witnesses.specs.AllEditions.{AllEditions, block}
use mathlib.Core.Path.{◌≡◌ as ◌is-kept◌, refl as by-text}
use package.Rattle.witnesses.specs.Laws.AllEditionsLaws as page

module _ (digest : Bytes → Bytes) where
  module _ (size : length (digest block) ≡ 32) where
    pub all_editions-kept : AllEditions digest
    all_editions-kept = page.all_editions digest size
