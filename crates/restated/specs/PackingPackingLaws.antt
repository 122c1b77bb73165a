-- Written by tests/restated --write: what docs/statements has of
-- crates/packing/proofs/Laws/PackingLaws.antt.
use Rattle.std.specs.Prelude.{◌≤◌}
use package.Rattle.protocol.specs.Bytes.{Bytes}
use package.Rattle.protocol.specs.Move.{move_call}
use package.Rattle.protocol.specs.Read.{size_call}
use package.Rattle.protocol.specs.Block.{maximum_heights}
use package.Rattle.packing.specs.Packing.{answered_height, answered_size}
use mathlib.Core.Path.{◌≡◌ as ◌is-kept◌, refl as by-text}
use package.Rattle.packing.proofs.Laws.PackingLaws as page

module _ (digest : Bytes → Bytes) where
  pub move_height_low-kept : (book reply : Bytes) → answered_height (move_call digest book reply).answer ≤ maximum_heights
  move_height_low-kept = page.move_height_low digest

  pub size_low-kept : (book : Bytes) → answered_size (size_call digest book) ≤ 128000
  size_low-kept = page.size_low digest
