-- A sound state stays sound when its head and its pool change within their ranges and its heights stay.
use Rattle.std.specs.Prelude.{ℕ, ◌+◌, ◌≤◌, ◌<◌, ◌≡◌, ◌⊎◌, true, length}
use Rattle.protocol.specs.SoundState.{SoundState}
use Rattle.protocol.specs.Bytes.{Bytes}
use Rattle.protocol.specs.State.{State, at, last, renewed}
use Rattle.protocol.specs.View.{is_finalized}
use Rattle.protocol.specs.Sound.{view}

module _ (digest : Bytes → Bytes) (s : State) (is : SoundState digest s) where
  pub head_sound : (flags current finalized pending_count : ℕ) (pool : Bytes) →
      flags < 16 → 1 ≤ current → current ≤ last s + 1 →
      (finalized ≡ 0) ⊎ (is_finalized digest (view s) finalized ≡ true) → pending_count ≤ 32 → length pool ≡ 512 →
      SoundState digest (renewed s flags current finalized pending_count pool s.heights)
  unfolding view at last
  head_sound flags current finalized pending_count pool small low high ended few size = record {
    shaped = record { weighed = is.shaped.weighed; pool_size_lem = size; heights = is.shaped.heights };
    setting = is.setting;
    n_low = is.n_low;
    n_high = is.n_high;
    own_below = is.own_below;
    last_low = is.last_low;
    last_most = is.last_most;
    current_low = low;
    current_high = high;
    flags_small = small;
    pending_few = few;
    each = is.each;
    final = ended;
  }
