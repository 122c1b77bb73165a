-- Parts of a frame as code lends them, and its signers by its kind.
use Rattle.std.specs.Prelude.{◌^◌, ◌≤◌, ◌≡◌, true, false, length, take, drop}
use Rattle.std.proofs.Common.{arith, length-drop, take_all}
use Rattle.protocol.specs.Bytes.{Bytes}
use Rattle.protocol.specs.Frame.{kind, signer, signer_mask, frame_digest, frame_block, is_statement}
use Rattle.protocol.proofs.Laws.BytesLaws.{length_part}
use Rattle.protocol.proofs.Laws.RowLaws.{in_range_lem}
use Rattle.frames.specs.Parts.{signers_of}

-- ---- parts
-- the last 176 bytes of 224 are all that follow byte 48
pub block_lent : (frame : Bytes) → length frame ≡ 224 →
    (take 176 (drop 48 frame) ≡ frame_block frame) × (length (take 176 (drop 48 frame)) ≡ 176)
unfolding frame_block
block_lent frame e =
    let whole : take 176 (drop 48 frame) ≡ drop 48 frame =
    take_all 176 (drop 48 frame) (rw length-drop (omega arith)) in
    (whole, rw whole (rw length-drop (omega arith)))

pub digest_lent : (frame : Bytes) → length frame ≡ 224 → length (frame_digest frame) ≡ 32
unfolding frame_digest
digest_lent frame e = length_part frame 16 32 (omega arith)

-- ---- signers
pub statement_high : (frame : Bytes) → is_statement (kind frame) ≡ true → kind frame ≤ 4
unfolding is_statement
statement_high frame e = (in_range_lem 1 4 (kind frame) e).1

pub one_signed : (frame : Bytes) → is_statement (kind frame) ≡ true → signers_of frame ≡ 2 ^ signer frame
unfolding signers_of
one_signed frame e = rw e

pub many_signed : (frame : Bytes) → is_statement (kind frame) ≡ false → signers_of frame ≡ signer_mask frame
unfolding signers_of
many_signed frame e = rw e
