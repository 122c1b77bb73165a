-- Written by tests/restated --write: what docs/statements has of
-- crates/protocol/proofs/Laws/ChainLaws.antt.
use Rattle.std.specs.Prelude.{ℕ, suc, ◌≡◌, true}
use mathlib.Core.List.{◌++◌}
use package.Rattle.protocol.specs.Bytes.{Bytes}
use package.Rattle.protocol.specs.Block.{parent_height, entries}
use package.Rattle.protocol.specs.View.{View, linked, log_at}
use mathlib.Core.Path.{◌≡◌ as ◌is-kept◌, refl as by-text}
use package.Rattle.protocol.proofs.Laws.ChainLaws as page

module _ (digest : Bytes → Bytes) (v : View) where
  pub log_suc-kept : (i : ℕ) → linked digest v (suc i) ≡ true →
      log_at v (suc i) ≡ log_at v (parent_height (v.block (suc i))) ++ entries (v.block (suc i))
  log_suc-kept = page.log_suc digest v
