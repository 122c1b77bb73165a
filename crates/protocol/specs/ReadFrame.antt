-- What is granted of a frame that passes the rows of reading.
use Rattle.std.specs.Prelude.{◌^◌, ◌≤◌, ◌<◌, ◌≡◌, true, length}
use Rattle.protocol.specs.Bytes.{Bytes}
use Rattle.protocol.specs.Block.{block_well_formed}
use Rattle.protocol.specs.Frame.{kind, signer, frame_height, signer_mask, frame_block, carries_block}
use Rattle.protocol.specs.State.{State, at, last}
use Rattle.protocol.specs.View.{quorum}
use Rattle.protocol.specs.Sound.{view}

-- a frame that is read over a state: what its rows grant
pub record ReadFrame (s : State) (frame : Bytes) : Type 0 where
  pub size : length frame ≡ 224
  pub kind_low : 1 ≤ kind frame
  pub kind_high : kind frame ≤ 7
  pub block_formed : carries_block (kind frame) ≡ true → block_well_formed (frame_height frame) (frame_block frame) ≡ true
  pub low : 1 ≤ frame_height frame
  pub high : frame_height frame ≤ last s
  pub signer_small : kind frame ≤ 4 → signer frame < s.n
  pub mask_small : 5 ≤ kind frame → signer_mask frame < 2 ^ s.n
  pub led : kind frame ≡ 1 → signer frame ≡ (at s (frame_height frame)).leader
  pub enough : 5 ≤ kind frame → quorum (view s) (signer_mask frame) ≡ true
