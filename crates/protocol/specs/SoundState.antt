-- What soundness says of a state, apart from bytes: its parts have their sizes, its numbers their ranges.
use Rattle.std.specs.Prelude.{ℕ, ◌+◌, ◌^◌, ◌≤◌, ◌<◌, ◌≡◌, ◌⊎◌, true, List, length, eqb}
use Rattle.protocol.specs.Bytes.{Bytes}
use Rattle.protocol.specs.Tests.{in_range}
use Rattle.protocol.specs.Every.{Every}
use Rattle.protocol.specs.Block.{maximum_heights, block_well_formed}
use Rattle.protocol.specs.Mask.{mask_limit}
use Rattle.protocol.specs.State.{State, Height, at, last, holds_proposal, is_notarized, maximum_replicas}
use Rattle.protocol.specs.State.{maximum_pending, evenly, most_heights}
use Rattle.protocol.specs.View.{View, quorum, is_finalized}
use Rattle.protocol.specs.Sound.{view, weights_fit}

pub record ShapedHeight (x : Height) : Type 0 where
  pub proposal_size : length x.proposal ≡ 176
  pub notarized_size : length x.notarized ≡ 176
  pub votes_size : length x.vote_digests ≡ 512

-- 16 weights, which edition 1 does not keep: there the n replicas weigh 1
pub record Weighed (edition n : ℕ) (weights : List ℕ) : Type 0 where
  pub sixteen : length weights ≡ maximum_replicas
  pub even : eqb edition 1 ≡ true → weights ≡ evenly n

pub record Shaped (b : State) : Type 0 where
  pub weighed : Weighed b.edition b.n b.weights
  pub pool_size_lem : length b.pool ≡ 512
  pub heights : Every ShapedHeight b.heights

-- facts about a state what stands at height `h`
pub record SoundHeight (v : View) (h : ℕ) (x : Height) : Type 0 where
  pub leader_below : x.leader < v.n
  pub status_small : x.status ≤ 3
  pub certificate_below : x.certificate_mask < 2 ^ v.n
  pub dummy_below : x.dummy_mask < 2 ^ v.n
  pub finalize_below : x.finalize_mask < 2 ^ v.n
  pub voter_below : x.voter_mask < 2 ^ v.n
  pub proposal_formed : holds_proposal x ≡ true → block_well_formed h x.proposal ≡ true
  pub notarized_formed : is_notarized x ≡ true → block_well_formed h x.notarized ≡ true
  pub certified : is_notarized x ≡ true → quorum v x.certificate_mask ≡ true

-- an edition that is known, and weights in range
pub record SoundSetting (edition n : ℕ) (weights : List ℕ) : Type 0 where
  pub edition_row_lem : in_range 1 3 edition ≡ true
  pub weights_row_lem : weights_fit n weights ≡ true

pub record SoundState (digest : Bytes → Bytes) (s : State) : Type 0 where
  pub shaped : Shaped s
  pub setting : SoundSetting s.edition s.n s.weights
  pub n_low : 1 ≤ s.n
  pub n_high : s.n ≤ maximum_replicas
  pub own_below : s.own < s.n
  pub last_low : 1 ≤ last s
  pub last_most : last s ≤ most_heights s.edition
  pub current_low : 1 ≤ s.current
  pub current_high : s.current ≤ last s + 1
  pub flags_small : s.flags < 16
  pub pending_few : s.pending_count ≤ maximum_pending
  pub each : (h : ℕ) → 1 ≤ h → h ≤ last s → SoundHeight (view s) h (at s h)
  pub final : (s.finalized ≡ 0) ⊎ (is_finalized digest (view s) s.finalized ≡ true)

-- what heights are linked, finalized and read by: of a sound replica, and of a sound observer as a replica
pub record CertifiedState (digest : Bytes → Bytes) (s : State) : Type 0 where
  pub last_high : last s ≤ maximum_heights
  pub formed : (h : ℕ) → 1 ≤ h → h ≤ last s → is_notarized (at s h) ≡ true →
      block_well_formed h (at s h).notarized ≡ true
  pub certified : (h : ℕ) → 1 ≤ h → h ≤ last s → is_notarized (at s h) ≡ true →
      quorum (view s) (at s h).certificate_mask ≡ true
  pub final : (s.finalized ≡ 0) ⊎ (is_finalized digest (view s) s.finalized ≡ true)

-- the numbers of a height, among `n` replicas
pub record HeightRange (n : ℕ) (x : Height) : Type 0 where
  pub leader_below : x.leader < n
  pub status_small : x.status ≤ 3
  pub certificate_below : x.certificate_mask < 2 ^ n
  pub dummy_below : x.dummy_mask < 2 ^ n
  pub finalize_below : x.finalize_mask < 2 ^ n
  pub voter_below : x.voter_mask < 2 ^ n
  pub mask_bound : 2 ^ n ≤ mask_limit
