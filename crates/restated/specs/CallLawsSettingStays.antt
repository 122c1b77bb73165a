-- Written by tests/restated --write: what docs/statements has of
-- crates/call_laws/specs/SettingStays.antt.
use Rattle.std.specs.Prelude.{◌≡◌}
use package.Rattle.protocol.specs.State.{State, last}
use package.Rattle.call_laws.specs.SettingStays.{SettingStays}
use mathlib.Core.Path.{◌≡◌ as ◌is-kept◌, refl as by-text}
use package.Rattle.call_laws.specs.SettingStays as page

SettingStays-kept : (s t : State) (same_edition : t.edition ≡ s.edition) (same_n : t.n ≡ s.n) (same_weights : t.weights ≡ s.weights) (same_own : t.own ≡ s.own) (same_last : last t ≡ last s) →
    SettingStays s t
SettingStays-kept s t x0 x1 x2 x3 x4 = record { same_edition = x0; same_n = x1; same_weights = x2; same_own = x3; same_last = x4 }
