-- What Open leaves of an observer's book where it is not refused.
use Rattle.std.specs.Prelude.{ℕ, ◌*◌, ◌∷◌, ◌++◌}
use Rattle.protocol.specs.Bytes.{Bytes, zeros}
use Rattle.protocol.specs.State.{weight_bytes, padded, short_number, number_bytes}
use Rattle.protocol.specs.Open.{Opening, opened_edition, opened_weights}

-- n, 0, H, flags 0, current height 0, g 0, no pending entry, the edition, the weights if it has any; and zeros
unfoldable pub opened_observer : Opening → ℕ → ℕ → Bytes
opened_observer way n heights =
    let e : ℕ = opened_edition way in
    n ∷ 0 ∷ short_number e heights ∷ 0 ∷ 0 ∷ 0 ∷ 0 ∷ e ∷
    (weight_bytes e (padded (opened_weights n way)) ++ (number_bytes e heights 0 0 ++ zeros (184 * heights)))
