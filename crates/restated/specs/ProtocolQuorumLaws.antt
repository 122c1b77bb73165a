-- Written by tests/restated --write: what docs/statements has of
-- crates/protocol/proofs/Laws/QuorumLaws.antt.
use Rattle.std.specs.Prelude.{ℕ, ◌+◌, ◌*◌, ◌≤◌, ◌<◌, ◌≡◌, Bool, true, false, ◌&&◌, List, length, replicate, leb}
use package.Rattle.protocol.specs.Mask.{in_mask, ones, weigh, total}
use package.Rattle.protocol.specs.View.{View, quorum, mask_weight, total_weight}
use mathlib.Core.Path.{◌≡◌ as ◌is-kept◌, refl as by-text}
use package.Rattle.protocol.proofs.Laws.QuorumLaws as page

pub shared-kept : (p q : ℕ → Bool) (ws : List ℕ) → weigh p ws + weigh q ws ≤ total ws + weigh (λ t. p t && q t) ws
shared-kept = page.shared

pub ones_weigh-kept : (m n : ℕ) → ones m n ≡ weigh (λ t. in_mask m t) (replicate n 1)
ones_weigh-kept = page.ones_weigh

pub quorum_even-kept : (v : View) (n mask : ℕ) → v.weights ≡ replicate n 1 → quorum v mask ≡ leb (2 * n) (3 * ones mask n)
quorum_even-kept = page.quorum_even

pub quorums_meet-kept : (v v' : View) (a b d : ℕ) → v'.weights ≡ v.weights → quorum v a ≡ true → quorum v' b ≡ true →
    3 * mask_weight v d < total_weight v →
    (t : ℕ) × (t < length v.weights) × (in_mask a t ≡ true) × (in_mask b t ≡ true) × (in_mask d t ≡ false)
quorums_meet-kept = page.quorums_meet
