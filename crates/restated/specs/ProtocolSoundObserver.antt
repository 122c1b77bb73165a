-- Written by tests/restated --write: what docs/statements has of
-- crates/protocol/specs/SoundObserver.antt.
use Rattle.std.specs.Prelude.{ℕ, ◌≤◌, ◌≡◌, ◌⊎◌, true, length}
use package.Rattle.protocol.specs.Bytes.{Bytes}
use package.Rattle.protocol.specs.State.{at, maximum_replicas, most_heights}
use package.Rattle.protocol.specs.View.{is_finalized}
use package.Rattle.protocol.specs.SoundState.{Shaped, SoundHeight, SoundSetting}
use package.Rattle.protocol.specs.Observer.{Observer, as_replica, observer_view}
use package.Rattle.protocol.specs.SoundObserver.{SoundObserver}
use mathlib.Core.Path.{◌≡◌ as ◌is-kept◌, refl as by-text}
use package.Rattle.protocol.specs.SoundObserver as page

SoundObserver-kept : (digest : Bytes → Bytes) (o : Observer) (shaped : Shaped (as_replica o)) (setting : SoundSetting o.edition o.n o.weights) (n_low : 1 ≤ o.n) (n_high : o.n ≤ maximum_replicas) (last_low : 1 ≤ length o.heights) (last_most : length o.heights ≤ most_heights o.edition) (each : (h : ℕ) → 1 ≤ h → h ≤ length o.heights → SoundHeight (observer_view o) h (at (as_replica o) h)) (holds_none : (h : ℕ) → 1 ≤ h → h ≤ length o.heights → ((at (as_replica o) h).status ≡ 0) ⊎ ((at (as_replica o) h).status ≡ 2)) (final : (o.finalized ≡ 0) ⊎ (is_finalized digest (observer_view o) o.finalized ≡ true)) →
    SoundObserver digest o
SoundObserver-kept digest o x0 x1 x2 x3 x4 x5 x6 x7 x8 = record { shaped = x0; setting = x1; n_low = x2; n_high = x3; last_low = x4; last_most = x5; each = x6; holds_none = x7; final = x8 }
