-- Written by tests/restated --write: what docs/statements has of
-- crates/protocol/specs/Every.antt.
use Rattle.std.specs.Prelude.{List, [], ◌∷◌}
use package.Rattle.protocol.specs.Every.{Every, none, one}
use mathlib.Core.Path.{◌≡◌ as ◌is-kept◌, refl as by-text}
use package.Rattle.protocol.specs.Every as page

Every-none-kept : {A : Type 0} (P : A → Type 0) → Every P []
Every-none-kept _ = page.Every.none

Every-one-kept : {A : Type 0} (P : A → Type 0) → {x : A} {xs : List A} → P x → Every P xs → Every P (x ∷ xs)
Every-one-kept _ = page.Every.one

Every-apart : {A : Type 0} (P : A → Type 0) → (i0 : List A) → Every P i0 → Unit {0}
Every-apart _ _ (page.Every.none) = tt
Every-apart _ _ (page.Every.one _ _) = tt
