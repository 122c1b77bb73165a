-- The groups of tests that the code makes are the rows of a block.
use Rattle.std.specs.Prelude.{ℕ, ◌≤◌, ◌≡◌, true, ◌&&◌, [], ◌∷◌, length, eqb, leb, ltb}
use Rattle.std.proofs.Common.{leb-true}
use Rattle.std.proofs.Math.Bool.{and_assoc}
use Rattle.protocol.specs.Bytes.{Bytes}
use Rattle.protocol.specs.Tests.{all_of}
use Rattle.protocol.proofs.Laws.RowLaws.{row}
use Rattle.protocol.specs.Block.{block_height, parent_height, entry_count, block_well_formed}
use Rattle.wire.specs.Parts.{block_fields, block_parent, block_rest}

module _ (h : ℕ) (block : Bytes) where
  pub block_is : block_well_formed h block ≡ (eqb (length block) 176 && (block_fields h block && block_rest block))
  unfolding block_well_formed block_fields block_rest block_parent all_of
  block_is = simp and_assoc

  pub few_entries : block_fields h block ≡ true → entry_count block ≤ 8
  unfolding block_fields
  few_entries e =
      leb-true (entry_count block) 8
      (row (eqb (block_height block) h ∷ ltb (parent_height block) h ∷ leb (entry_count block) 8 ∷ []) 2 e)
