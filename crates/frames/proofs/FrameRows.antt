-- The groups of tests that the code makes are the rows of a frame.
use Rattle.std.specs.Prelude.{◌≡◌, ◌&&◌, length, eqb}
use Rattle.std.proofs.Math.Bool.{and_assoc, and-true}
use Rattle.protocol.specs.Bytes.{Bytes}
use Rattle.protocol.specs.Tests.{all_of}
use Rattle.protocol.specs.Frame.{frame_well_formed}
use Rattle.frames.specs.Parts.{frame_fields, frame_block_part, frame_rest}

pub frame_is : (frame : Bytes) →
    frame_well_formed frame ≡ (eqb (length frame) 224 && (frame_fields frame && frame_rest frame))
unfolding frame_well_formed frame_fields frame_rest frame_block_part all_of
frame_is frame = simp (and_assoc, and-true)
