-- Written by tests/restated --write: what docs/statements has of
-- crates/protocol/proofs/Laws/SettingLaws.antt.
use Rattle.std.specs.Prelude.{ℕ, ◌*◌, ◌≤◌, ◌≡◌, ◌&&◌, length, drop}
use package.Rattle.protocol.specs.Bytes.{Bytes, all, is_zero}
use package.Rattle.protocol.specs.Tests.{in_range}
use package.Rattle.protocol.specs.State.{words, maximum_weight}
use package.Rattle.protocol.specs.Sound.{weights_fit}
use mathlib.Core.Path.{◌≡◌ as ◌is-kept◌, refl as by-text}
use package.Rattle.protocol.proofs.Laws.SettingLaws as page

pub words_fit-kept : (n : ℕ) (area : Bytes) → n ≤ 16 → length area ≡ 32 →
    weights_fit n (words 16 area) ≡ (all (λ w. in_range 1 maximum_weight w) (words n area) && is_zero (drop (2 * n) area))
words_fit-kept = page.words_fit
