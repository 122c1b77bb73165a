-- The rows of soundness that the heads of all kinds of books share.
use Rattle.std.specs.Prelude.{ℕ, Bool, cond, List, [], ◌∷◌, eqb}
use Rattle.protocol.specs.Bytes.{Bytes, byte_at, part, is_zero}
use Rattle.protocol.specs.Tests.{all_of, in_range}
use Rattle.protocol.specs.State.{weights_in, book_heights, most_heights, maximum_replicas}
use Rattle.protocol.specs.Sound.{weights_fit}

-- the bytes that an edition after the first calls zero
unfoldable pub later_unused : ℕ → Bytes → Bytes
later_unused edition book =
    cond (eqb edition 3) (byte_at book 2 ∷ byte_at book 4 ∷ byte_at book 5 ∷ part book 46 18) (part book 40 24)

-- weights and unused bytes of a book of this n and edition
unfoldable pub weight_rows : ℕ → ℕ → Bytes → List Bool
weight_rows n edition book =
    weights_fit n (weights_in edition n (part book 8 32)) ∷
    is_zero (cond (eqb edition 1) (part book 8 56) (later_unused edition book)) ∷ []

unfoldable pub setting_rows : Bytes → List Bool
setting_rows book =
    in_range 1 maximum_replicas (byte_at book 0) ∷
    in_range 1 (most_heights (byte_at book 7)) (book_heights book) ∷
    in_range 1 3 (byte_at book 7) ∷
    all_of (weight_rows (byte_at book 0) (byte_at book 7) book) ∷ []
