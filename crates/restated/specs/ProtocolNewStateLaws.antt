-- Written by tests/restated --write: what docs/statements has of
-- crates/protocol/proofs/Laws/NewStateLaws.antt.
use Rattle.std.specs.Prelude.{ℕ}
use package.Rattle.protocol.specs.SoundState.{Weighed}
use package.Rattle.protocol.specs.State.{padded}
use package.Rattle.protocol.specs.Open.{Opening, opened_edition, opened_weights}
use mathlib.Core.Path.{◌≡◌ as ◌is-kept◌, refl as by-text}
use package.Rattle.protocol.proofs.Laws.NewStateLaws as page

pub opened_weighed-kept : (way : Opening) (n : ℕ) → Weighed (opened_edition way) n (padded (opened_weights n way))
opened_weighed-kept = page.opened_weighed
