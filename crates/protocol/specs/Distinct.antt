-- The distinct entries of a list, each at its first place: what a register keeps of a chain's entries, so that what is
-- filed again counts once (document 02, request 2.5).
use Rattle.std.specs.Prelude.{Bool, true, ◌&&◌, not, cond, List, [], ◌∷◌, ◌++◌}
use Rattle.protocol.specs.Bytes.{Bytes, holds}

-- the entries of the second list, in order, without those equal to one before them: in `earlier`, or in that list
unfoldable pub distinct_after : List Bytes → List Bytes → List Bytes
distinct_after earlier [] = []
distinct_after earlier (e ∷ es) =
    let rest : List Bytes = distinct_after (earlier ++ (e ∷ [])) es in
    cond (holds e earlier) rest (e ∷ rest)

-- the entries of a list, in order, without those equal to an earlier one
unfoldable pub distinct : List Bytes → List Bytes
distinct es = distinct_after [] es

-- no entry of a list equals another of it
unfoldable pub none_twice : List Bytes → Bool
none_twice [] = true
none_twice (e ∷ es) = not (holds e es) && none_twice es
