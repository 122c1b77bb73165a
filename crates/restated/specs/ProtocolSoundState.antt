-- Written by tests/restated --write: what docs/statements has of
-- crates/protocol/specs/SoundState.antt.
use Rattle.std.specs.Prelude.{ℕ, ◌+◌, ◌^◌, ◌≤◌, ◌<◌, ◌≡◌, ◌⊎◌, true, List, length, eqb}
use package.Rattle.protocol.specs.Bytes.{Bytes}
use package.Rattle.protocol.specs.Tests.{in_range}
use package.Rattle.protocol.specs.Every.{Every}
use package.Rattle.protocol.specs.Block.{maximum_heights, block_well_formed}
use package.Rattle.protocol.specs.State.{State, Height, at, last, holds_proposal, is_notarized, maximum_replicas}
use package.Rattle.protocol.specs.State.{maximum_pending, evenly, most_heights}
use package.Rattle.protocol.specs.View.{View, quorum, is_finalized}
use package.Rattle.protocol.specs.Sound.{view, weights_fit}
use package.Rattle.protocol.specs.SoundState.{ShapedHeight, Weighed, Shaped, SoundHeight, SoundSetting, SoundState, CertifiedState}
use mathlib.Core.Path.{◌≡◌ as ◌is-kept◌, refl as by-text}
use package.Rattle.protocol.specs.SoundState as page

ShapedHeight-kept : (x : Height) (proposal_size : length x.proposal ≡ 176) (notarized_size : length x.notarized ≡ 176) (votes_size : length x.vote_digests ≡ 512) →
    ShapedHeight x
ShapedHeight-kept x x0 x1 x2 = record { proposal_size = x0; notarized_size = x1; votes_size = x2 }

Weighed-kept : (edition n : ℕ) (weights : List ℕ) (sixteen : length weights ≡ maximum_replicas) (even : eqb edition 1 ≡ true → weights ≡ evenly n) →
    Weighed edition n weights
Weighed-kept edition n weights x0 x1 = record { sixteen = x0; even = x1 }

Shaped-kept : (b : State) (weighed : Weighed b.edition b.n b.weights) (pool_size_lem : length b.pool ≡ 512) (heights : Every ShapedHeight b.heights) →
    Shaped b
Shaped-kept b x0 x1 x2 = record { weighed = x0; pool_size_lem = x1; heights = x2 }

SoundHeight-kept : (v : View) (h : ℕ) (x : Height) (leader_below : x.leader < v.n) (status_small : x.status ≤ 3) (certificate_below : x.certificate_mask < 2 ^ v.n) (dummy_below : x.dummy_mask < 2 ^ v.n) (finalize_below : x.finalize_mask < 2 ^ v.n) (voter_below : x.voter_mask < 2 ^ v.n) (proposal_formed : holds_proposal x ≡ true → block_well_formed h x.proposal ≡ true) (notarized_formed : is_notarized x ≡ true → block_well_formed h x.notarized ≡ true) (certified : is_notarized x ≡ true → quorum v x.certificate_mask ≡ true) →
    SoundHeight v h x
SoundHeight-kept v h x x0 x1 x2 x3 x4 x5 x6 x7 x8 = record { leader_below = x0; status_small = x1; certificate_below = x2; dummy_below = x3; finalize_below = x4; voter_below = x5; proposal_formed = x6; notarized_formed = x7; certified = x8 }

SoundSetting-kept : (edition n : ℕ) (weights : List ℕ) (edition_row_lem : in_range 1 3 edition ≡ true) (weights_row_lem : weights_fit n weights ≡ true) →
    SoundSetting edition n weights
SoundSetting-kept edition n weights x0 x1 = record { edition_row_lem = x0; weights_row_lem = x1 }

SoundState-kept : (digest : Bytes → Bytes) (s : State) (shaped : Shaped s) (setting : SoundSetting s.edition s.n s.weights) (n_low : 1 ≤ s.n) (n_high : s.n ≤ maximum_replicas) (own_below : s.own < s.n) (last_low : 1 ≤ last s) (last_most : last s ≤ most_heights s.edition) (current_low : 1 ≤ s.current) (current_high : s.current ≤ last s + 1) (flags_small : s.flags < 16) (pending_few : s.pending_count ≤ maximum_pending) (each : (h : ℕ) → 1 ≤ h → h ≤ last s → SoundHeight (view s) h (at s h)) (final : (s.finalized ≡ 0) ⊎ (is_finalized digest (view s) s.finalized ≡ true)) →
    SoundState digest s
SoundState-kept digest s x0 x1 x2 x3 x4 x5 x6 x7 x8 x9 x10 x11 x12 = record { shaped = x0; setting = x1; n_low = x2; n_high = x3; own_below = x4; last_low = x5; last_most = x6; current_low = x7; current_high = x8; flags_small = x9; pending_few = x10; each = x11; final = x12 }

CertifiedState-kept : (digest : Bytes → Bytes) (s : State) (last_high : last s ≤ maximum_heights) (formed : (h : ℕ) → 1 ≤ h → h ≤ last s → is_notarized (at s h) ≡ true → block_well_formed h (at s h).notarized ≡ true) (certified : (h : ℕ) → 1 ≤ h → h ≤ last s → is_notarized (at s h) ≡ true → quorum (view s) (at s h).certificate_mask ≡ true) (final : (s.finalized ≡ 0) ⊎ (is_finalized digest (view s) s.finalized ≡ true)) →
    CertifiedState digest s
CertifiedState-kept digest s x0 x1 x2 x3 = record { last_high = x0; formed = x1; certified = x2; final = x3 }
