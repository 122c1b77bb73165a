-- Every member of a list has a property.
use Rattle.std.specs.Prelude.{List, [], ◌∷◌}

-- every element of a list
pub data Every {A : Type 0} (P : A → Type 0) : List A → Type 0 where
  none : Every P []
  one : {x : A} {xs : List A} → P x → Every P xs → Every P (x ∷ xs)
