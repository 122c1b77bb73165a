-- The tests of a frame in the groups in which the code makes them, the head that frames share, and a frame's signers.
use Rattle.std.specs.Prelude.{ℕ, ◌^◌, Bool, ◌||◌, cond, [], ◌∷◌, ◌++◌, eqb}
use Rattle.protocol.specs.Bytes.{Bytes, le16, part, zeros, is_zero}
use Rattle.protocol.specs.Tests.{all_of, implies}
use Rattle.protocol.specs.Block.{block_well_formed}
use Rattle.protocol.specs.Frame.{kind, signer, frame_height, signer_mask, frame_digest, frame_block, is_statement}
use Rattle.protocol.specs.Frame.{is_certificate, carries_block, carries_digest}

-- the first six bytes of a frame
unfoldable pub frame_fields : Bytes → Bool
frame_fields frame = all_of
    ((is_statement (kind frame) || is_certificate (kind frame)) ∷
    (is_statement (kind frame) || eqb (signer frame) 0) ∷
    (is_certificate (kind frame) || eqb (signer_mask frame) 0) ∷ [])

-- the block of a frame, where its kind has one
unfoldable pub frame_block_part : Bytes → Bool
frame_block_part frame = all_of
    ((carries_block (kind frame) || is_zero (frame_block frame)) ∷
    implies (carries_block (kind frame)) (block_well_formed (frame_height frame) (frame_block frame)) ∷ [])

-- the bytes of a frame from 6 on
unfoldable pub frame_rest : Bytes → Bool
frame_rest frame = all_of
    (is_zero (part frame 6 10) ∷
    (carries_digest (kind frame) || is_zero (frame_digest frame)) ∷
    frame_block_part frame ∷ [])

-- the first 16 bytes of a frame
unfoldable pub frame_head : (k s h mask : ℕ) → Bytes
frame_head k s h mask = (k ∷ s ∷ le16 h) ++ (le16 mask ++ zeros 10)

-- the mask of the signer of a statement, or of the signers of a certificate
unfoldable pub signers_of : Bytes → ℕ
signers_of frame = cond (is_statement (kind frame)) (2 ^ signer frame) (signer_mask frame)
