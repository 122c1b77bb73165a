-- Written by tests/restated --write: what docs/statements has of
-- crates/protocol/proofs/Laws/SharedLaws.antt.
use Rattle.std.specs.Prelude.{ℕ, ◌*◌, ◌≤◌, ◌≡◌, true, length, replicate, leb}
use package.Rattle.protocol.specs.Mask.{ones, intersection}
use package.Rattle.protocol.specs.View.{View, quorum, mask_weight, total_weight}
use mathlib.Core.Path.{◌≡◌ as ◌is-kept◌, refl as by-text}
use package.Rattle.protocol.proofs.Laws.SharedLaws as page

pub quorums_third-kept : (v v' : View) (a b : ℕ) → v'.weights ≡ v.weights → quorum v a ≡ true → quorum v' b ≡ true →
    total_weight v ≤ 3 * mask_weight v (intersection (length v.weights) a b)
quorums_third-kept = page.quorums_third

pub quorum_equal-kept : (v : View) (n weight mask : ℕ) → 1 ≤ weight → v.weights ≡ replicate n weight →
    quorum v mask ≡ leb (2 * n) (3 * ones mask n)
quorum_equal-kept = page.quorum_equal

pub equal_third-kept : (v v' : View) (n weight a b : ℕ) → 1 ≤ weight → v.weights ≡ replicate n weight →
    v'.weights ≡ replicate n weight → quorum v a ≡ true → quorum v' b ≡ true → n ≤ 3 * ones (intersection n a b) n
equal_third-kept = page.equal_third
