-- What well-formed blocks and frames are, as facts: the rows of both by name.
use Rattle.std.specs.Prelude.{ℕ, ◌+◌, ◌-◌, ◌*◌, ◌≤◌, ◌<◌, ◌≡◌, ◌⊎◌, true, drop}
use Rattle.std.proofs.Common.{arith, ◌∙◌, inl, inr}
use Rattle.std.proofs.Math.Path.{ap}
use Rattle.std.proofs.Math.ListN.{length, length-drop}
use borrow.Author.Tests.{eqb-true, eq-eqb, leb-true, ltb-true}
use Rattle.protocol.specs.Bytes.{Bytes, byte_at, part, zeros}
use Rattle.protocol.specs.Block.{block_height, parent_height, entry_count, parent_digest, block_well_formed}
use Rattle.protocol.specs.Frame.{kind, frame_height, frame_block, is_statement, is_certificate, carries_block}
use Rattle.protocol.specs.Frame.{frame_well_formed}
use Rattle.protocol.proofs.Laws.TestsLaws.{or_either}
use Rattle.protocol.proofs.Laws.RowLaws.{by_rows, in_range_lem, implies_true, is_zero_zeros}
use Rattle.protocol.proofs.Laws.BytesLaws.{zero_part}

pub record Formed (h : ℕ) (block : Bytes) : Type 0 where
  pub size : length block ≡ 176
  pub height_is : block_height block ≡ h
  pub parent_below_lem : parent_height block < h
  pub few_entries : entry_count block ≤ 8
  -- the bytes called zero
  pub zero_head : part block 5 11 ≡ zeros 11
  pub zero_digest : parent_height block ≡ 0 → parent_digest block ≡ zeros 32
  pub zero_rest : drop (48 + 16 * entry_count block) block ≡ zeros (128 - 16 * entry_count block)

module _ (h : ℕ) (block : Bytes) where
  pub formed : block_well_formed h block ≡ true → Formed h block
  unfolding block_well_formed parent_digest
  formed e =
      by_rows _ e λ sized height below few head root rest.
      let size : length block ≡ 176 = eqb-true _ _ sized in
      let few_entries : entry_count block ≤ 8 = leb-true _ _ few in
      record {
        size = size;
        height_is = eqb-true _ _ height;
        parent_below_lem = ltb-true _ _ below;
        few_entries = few_entries;
        zero_head = zero_part block 5 11 (omega arith) head;
        zero_digest = λ first. zero_part block 16 32 (omega arith) (implies_true _ _ root (eq-eqb _ _ first));
        zero_rest = is_zero_zeros _ rest ∙ ap zeros (rw length-drop (omega arith));
      }

-- ---- frames
pub record FormedFrame (frame : Bytes) : Type 0 where
  pub size : length frame ≡ 224
  pub kind_low : 1 ≤ kind frame
  pub kind_high : kind frame ≤ 7
  pub block_formed : carries_block (kind frame) ≡ true → block_well_formed (frame_height frame) (frame_block frame) ≡ true

-- a kind is that of a statement or of a certificate
kind_range : (k : ℕ) → (is_statement k ≡ true) ⊎ (is_certificate k ≡ true) → (1 ≤ k) × (k ≤ 7)
unfolding is_statement is_certificate
kind_range k (inl e) = let range = in_range_lem 1 4 k e in (range.0, omega arith)
kind_range k (inr e) = let range = in_range_lem 5 7 k e in (omega arith, range.1)

pub formed_frame : (frame : Bytes) → frame_well_formed frame ≡ true → FormedFrame frame
unfolding frame_well_formed
formed_frame frame e =
    by_rows _ e λ size one-of-seven signer mask zeros digest no_block block.
    let kinds = kind_range (kind frame) (or_either _ _ one-of-seven) in
    record {
      size = eqb-true _ _ size;
      kind_low = kinds.0;
      kind_high = kinds.1;
      block_formed = implies_true _ _ block;
    }
