-- What soundness grants of the numbers of one height.
use Rattle.std.specs.Prelude.{ℕ, ◌^◌, ◌≤◌, ◌<◌}
use Rattle.std.proofs.Common.{arith}
use Rattle.std.proofs.Math.Nat.{pow-le-pow_right}
use Rattle.protocol.specs.SoundState.{SoundHeight, SoundState, HeightRange}
use Rattle.protocol.specs.Bytes.{Bytes}
use Rattle.protocol.specs.Mask.{mask_limit}
use Rattle.protocol.specs.State.{State, Height, at, last}
use Rattle.protocol.specs.Sound.{view}

pub height_range : (digest : Bytes → Bytes) (s : State) → SoundState digest s → (h : ℕ) → 1 ≤ h → h ≤ last s →
    HeightRange s.n (at s h)
unfolding view
height_range digest s facts h low high =
    let x : SoundHeight (view s) h (at s h) = facts.each h low high in
    record {
      leader_below = x.leader_below;
      status_small = x.status_small;
      certificate_below = x.certificate_below;
      dummy_below = x.dummy_below;
      finalize_below = x.finalize_below;
      voter_below = x.voter_below;
      mask_bound = pow-le-pow_right {n = 2} (omega arith) {i = s.n} {j = 16} facts.n_high;
    }
