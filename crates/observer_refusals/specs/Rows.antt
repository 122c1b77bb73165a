-- The rows that a frame meets one by one where an observer is given it.
use Rattle.std.specs.Prelude.{ℕ, ◌&&◌, List, ◌∷◌, ◌++◌}
use Rattle.protocol.specs.Bytes.{Bytes, same}
use Rattle.protocol.specs.Tests.{implies, Row}
use Rattle.protocol.specs.Mask.{below_bit}
use Rattle.protocol.specs.Frame.{kind, frame_block, frame_well_formed, signer_mask, is_certificate, is_block_certificate}
use Rattle.protocol.specs.State.{State, at, is_notarized}
use Rattle.protocol.specs.View.{quorum}
use Rattle.protocol.specs.Sound.{view}
use Rattle.protocol.specs.Deliver.{read_rows, clash_rows}
use Rattle.frame_refusals.specs.Refusal.{three_rows}

-- the rows of a frame, over a sound book
unfoldable pub frame_rows : State → Bytes → List Row
frame_rows s frame =
    (4, frame_well_formed frame) ∷ (16, is_certificate (kind frame)) ∷ (read_rows s frame ++ clash_rows s frame)

-- those that a certificate of a height of the book meets
unfoldable pub certificate_rows : State → ℕ → Bytes → List Row
certificate_rows s h frame = three_rows 5 9 10 (below_bit s.n (signer_mask frame)) (quorum (view s) (signer_mask frame))
    (implies (is_block_certificate (kind frame) && is_notarized (at s h)) (same (at s h).notarized (frame_block frame)))
