-- Written by tests/restated --write: what docs/statements has of
-- crates/protocol/specs/Distinct.antt.
use Rattle.std.specs.Prelude.{Bool, true, ◌&&◌, not, cond, List, [], ◌∷◌, ◌++◌}
use package.Rattle.protocol.specs.Bytes.{Bytes, holds}
use package.Rattle.protocol.specs.Distinct.{distinct_after}
use mathlib.Core.Path.{◌≡◌ as ◌is-kept◌, refl as by-text}
use package.Rattle.protocol.specs.Distinct as page

distinct_after-kept : List Bytes → List Bytes → List Bytes
distinct_after-kept earlier [] = []
distinct_after-kept earlier (e ∷ es) =
    let rest : List Bytes = distinct_after-kept (earlier ++ (e ∷ [])) es in
    cond (holds e earlier) rest (e ∷ rest)

same-distinct_after : distinct_after-kept is-kept page.distinct_after
unfolding distinct_after-kept page.distinct_after
same-distinct_after = by-text

distinct-kept : List Bytes → List Bytes
distinct-kept es = distinct_after [] es

same-distinct : distinct-kept is-kept page.distinct
unfolding distinct-kept page.distinct
same-distinct = by-text

none_twice-kept : List Bytes → Bool
none_twice-kept [] = true
none_twice-kept (e ∷ es) = not (holds e es) && none_twice-kept es

same-none_twice : none_twice-kept is-kept page.none_twice
unfolding none_twice-kept page.none_twice
same-none_twice = by-text
