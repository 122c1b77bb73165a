-- Written by tests/restated --write: what docs/statements has of
-- crates/protocol/proofs/Laws/BlockLaws.antt.
use Rattle.std.specs.Prelude.{ℕ, ◌≤◌, ◌<◌, ◌≡◌, true, List}
use Rattle.std.proofs.Math.ListN.{length}
use package.Rattle.protocol.specs.Every.{Every}
use package.Rattle.protocol.specs.Bytes.{Bytes, is_zero, Sized}
use package.Rattle.protocol.specs.Block.{new_block}
use package.Rattle.protocol.specs.Block.{entries, block_well_formed}
use mathlib.Core.Path.{◌≡◌ as ◌is-kept◌, refl as by-text}
use package.Rattle.protocol.proofs.Laws.BlockLaws as page

module _ (h parent : ℕ) (digest : Bytes) (es : List Bytes)
    (below : parent < h) (digest_size_lem : length digest ≡ 32) (from_start : parent ≡ 0 → is_zero digest ≡ true)
    (few : length es ≤ 8) (sized : Every (Sized 16) es) where
  abbrev block : Bytes
  block = new_block h parent digest es

  pub entries_back-kept : entries block ≡ es
  entries_back-kept = page.entries_back h parent digest es below digest_size_lem from_start few sized

  pub new_block_good-kept : block_well_formed h block ≡ true
  new_block_good-kept = page.new_block_good h parent digest es below digest_size_lem from_start few sized
