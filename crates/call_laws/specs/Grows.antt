-- A view that has grown: what was notarized stays as it was, and masks have only gained members.
use Rattle.std.specs.Prelude.{ℕ, ◌≤◌, ◌≡◌, true, length}
use Rattle.protocol.specs.Mask.{Within}
use Rattle.protocol.specs.View.{View}

-- two views of the same replicas
pub record SameReplicas (v v' : View) : Type 0 where
  pub same_n : v'.n ≡ v.n
  pub same_weights : v'.weights ≡ v.weights

pub record Grows (v v' : View) : Type 0 where
  pub same_replicas : SameReplicas v v'
  pub weight_each : length v.weights ≡ v.n
  pub keeps_block : (h : ℕ) → 1 ≤ h → v.has_block h ≡ true → (v'.has_block h ≡ true) × (v'.block h ≡ v.block h)
  pub more_dummies : (h : ℕ) → 1 ≤ h → Within v.n (v.dummy_mask h) (v'.dummy_mask h)
  pub more_finalizes : (h : ℕ) → 1 ≤ h → Within v.n (v.finalize_mask h) (v'.finalize_mask h)
