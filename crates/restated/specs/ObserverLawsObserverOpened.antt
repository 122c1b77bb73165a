-- Written by tests/restated --write: what docs/statements has of
-- crates/observer_laws/specs/ObserverOpened.antt.
use Rattle.std.specs.Prelude.{ℕ, ◌*◌, ◌∷◌, ◌++◌}
use package.Rattle.protocol.specs.Bytes.{Bytes, zeros}
use package.Rattle.protocol.specs.State.{weight_bytes, padded, short_number, number_bytes}
use package.Rattle.protocol.specs.Open.{Opening, opened_edition, opened_weights}
use mathlib.Core.Path.{◌≡◌ as ◌is-kept◌, refl as by-text}
use package.Rattle.observer_laws.specs.ObserverOpened as page

opened_observer-kept : Opening → ℕ → ℕ → Bytes
opened_observer-kept way n heights =
    let e : ℕ = opened_edition way in
    n ∷ 0 ∷ short_number e heights ∷ 0 ∷ 0 ∷ 0 ∷ 0 ∷ e ∷
    (weight_bytes e (padded (opened_weights n way)) ++ (number_bytes e heights 0 0 ++ zeros (184 * heights)))

same-opened_observer : opened_observer-kept is-kept page.opened_observer
unfolding opened_observer-kept page.opened_observer
same-opened_observer = by-text
