-- What soundness says of an observer's state, apart from bytes: its parts have their sizes, its numbers their ranges.
use Rattle.std.specs.Prelude.{ℕ, ◌≤◌, ◌≡◌, ◌⊎◌, true, length}
use Rattle.protocol.specs.Bytes.{Bytes}
use Rattle.protocol.specs.State.{at, maximum_replicas, most_heights}
use Rattle.protocol.specs.View.{is_finalized}
use Rattle.protocol.specs.SoundState.{Shaped, SoundHeight, SoundSetting}
use Rattle.protocol.specs.Observer.{Observer, as_replica, observer_view}

pub record SoundObserver (digest : Bytes → Bytes) (o : Observer) : Type 0 where
  pub shaped : Shaped (as_replica o)
  pub setting : SoundSetting o.edition o.n o.weights
  pub n_low : 1 ≤ o.n
  pub n_high : o.n ≤ maximum_replicas
  pub last_low : 1 ≤ length o.heights
  pub last_most : length o.heights ≤ most_heights o.edition
  pub each : (h : ℕ) → 1 ≤ h → h ≤ length o.heights → SoundHeight (observer_view o) h (at (as_replica o) h)
  pub holds_none : (h : ℕ) → 1 ≤ h → h ≤ length o.heights →
      ((at (as_replica o) h).status ≡ 0) ⊎ ((at (as_replica o) h).status ≡ 2)
  pub final : (o.finalized ≡ 0) ⊎ (is_finalized digest (observer_view o) o.finalized ≡ true)
