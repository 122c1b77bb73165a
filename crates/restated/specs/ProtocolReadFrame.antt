-- Written by tests/restated --write: what docs/statements has of
-- crates/protocol/specs/ReadFrame.antt.
use Rattle.std.specs.Prelude.{◌^◌, ◌≤◌, ◌<◌, ◌≡◌, true, length}
use package.Rattle.protocol.specs.Bytes.{Bytes}
use package.Rattle.protocol.specs.Block.{block_well_formed}
use package.Rattle.protocol.specs.Frame.{kind, signer, frame_height, signer_mask, frame_block, carries_block}
use package.Rattle.protocol.specs.State.{State, at, last}
use package.Rattle.protocol.specs.View.{quorum}
use package.Rattle.protocol.specs.Sound.{view}
use package.Rattle.protocol.specs.ReadFrame.{ReadFrame}
use mathlib.Core.Path.{◌≡◌ as ◌is-kept◌, refl as by-text}
use package.Rattle.protocol.specs.ReadFrame as page

ReadFrame-kept : (s : State) (frame : Bytes) (size : length frame ≡ 224) (kind_low : 1 ≤ kind frame) (kind_high : kind frame ≤ 7) (block_formed : carries_block (kind frame) ≡ true → block_well_formed (frame_height frame) (frame_block frame) ≡ true) (low : 1 ≤ frame_height frame) (high : frame_height frame ≤ last s) (signer_small : kind frame ≤ 4 → signer frame < s.n) (mask_small : 5 ≤ kind frame → signer_mask frame < 2 ^ s.n) (led : kind frame ≡ 1 → signer frame ≡ (at s (frame_height frame)).leader) (enough : 5 ≤ kind frame → quorum (view s) (signer_mask frame) ≡ true) →
    ReadFrame s frame
ReadFrame-kept s frame x0 x1 x2 x3 x4 x5 x6 x7 x8 x9 = record { size = x0; kind_low = x1; kind_high = x2; block_formed = x3; low = x4; high = x5; signer_small = x6; mask_small = x7; led = x8; enough = x9 }
