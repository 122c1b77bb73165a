-- Written by tests/restated --write: what docs/statements has of
-- crates/witnesses/specs/Laws/WitnessLaws.antt.
use package.Rattle.witnesses.specs.Witness.{Witness}
use mathlib.Core.Path.{◌≡◌ as ◌is-kept◌, refl as by-text}
use package.Rattle.witnesses.specs.Laws.WitnessLaws as page

pub witness-kept : Witness
witness-kept = page.witness
