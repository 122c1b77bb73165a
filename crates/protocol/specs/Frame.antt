-- Frames: 224 bytes that carry one replica's statement, or a certificate of many.
use Rattle.std.specs.Prelude.{ℕ, Bool, ◌||◌, [], ◌∷◌, ◌++◌, length, drop, eqb}
use Rattle.protocol.specs.Bytes.{Bytes, byte_at, word16, le16, part, zeros, is_zero}
use Rattle.protocol.specs.Tests.{all_of, implies, in_range}
use Rattle.protocol.specs.Block.{block_size, digest_size, block_well_formed}

abbrev pub frame_size : ℕ
frame_size = 224

-- ---- fields
unfoldable pub kind : Bytes → ℕ
kind frame = byte_at frame 0

unfoldable pub signer : Bytes → ℕ
signer frame = byte_at frame 1

unfoldable pub frame_height : Bytes → ℕ
frame_height frame = word16 frame 2

unfoldable pub signer_mask : Bytes → ℕ
signer_mask frame = word16 frame 4

unfoldable pub frame_digest : Bytes → Bytes
frame_digest frame = part frame 16 digest_size

unfoldable pub frame_block : Bytes → Bytes
frame_block frame = drop 48 frame

-- ---- the seven kinds
abbrev pub is_proposal : ℕ → Bool
is_proposal k = eqb k 1

abbrev pub is_block_vote : ℕ → Bool
is_block_vote k = eqb k 2

abbrev pub is_dummy_vote : ℕ → Bool
is_dummy_vote k = eqb k 3

abbrev pub is_finalize : ℕ → Bool
is_finalize k = eqb k 4

abbrev pub is_block_certificate : ℕ → Bool
is_block_certificate k = eqb k 5

abbrev pub is_dummy_certificate : ℕ → Bool
is_dummy_certificate k = eqb k 6

abbrev pub is_finalize_certificate : ℕ → Bool
is_finalize_certificate k = eqb k 7

-- ---- which kind uses what
-- kinds 1 to 4 are statements of one signer
unfoldable pub is_statement : ℕ → Bool
is_statement k = in_range 1 4 k

-- kinds 5 to 7 are certificates, with a mask of signers
unfoldable pub is_certificate : ℕ → Bool
is_certificate k = in_range 5 7 k

-- proposals and block certificates carry a block
unfoldable pub carries_block : ℕ → Bool
carries_block k = is_proposal k || is_block_certificate k

-- block votes carry a digest
unfoldable pub carries_digest : ℕ → Bool
carries_digest k = is_block_vote k

-- all that refusal 4 asks of a frame: its length, its kind, unused fields zero, its block
unfoldable pub frame_well_formed : Bytes → Bool
frame_well_formed frame = all_of
    (eqb (length frame) frame_size ∷
    (is_statement (kind frame) || is_certificate (kind frame)) ∷
    (is_statement (kind frame) || eqb (signer frame) 0) ∷
    (is_certificate (kind frame) || eqb (signer_mask frame) 0) ∷
    is_zero (part frame 6 10) ∷
    (carries_digest (kind frame) || is_zero (frame_digest frame)) ∷
    (carries_block (kind frame) || is_zero (frame_block frame)) ∷
    implies (carries_block (kind frame)) (block_well_formed (frame_height frame) (frame_block frame)) ∷ [])

-- ---- the frame of each statement and certificate
unfoldable pub frame_of : (k s h mask : ℕ) (digest block : Bytes) → Bytes
frame_of k s h mask digest block = (k ∷ s ∷ le16 h) ++ (le16 mask ++ (zeros 10 ++ (digest ++ block)))

unfoldable pub proposal : ℕ → ℕ → Bytes → Bytes
proposal s h block = frame_of 1 s h 0 (zeros digest_size) block

-- a vote for a block (document 01: page vote)
unfoldable pub block_vote : ℕ → ℕ → Bytes → Bytes
block_vote s h digest = frame_of 2 s h 0 digest (zeros block_size)

-- a vote for the dummy block (document 01: blank vote)
unfoldable pub dummy_vote : ℕ → ℕ → Bytes
dummy_vote s h = frame_of 3 s h 0 (zeros digest_size) (zeros block_size)

unfoldable pub finalize : ℕ → ℕ → Bytes
finalize s h = frame_of 4 s h 0 (zeros digest_size) (zeros block_size)

-- a notarization of a block (document 01: page certificate)
unfoldable pub block_certificate : ℕ → ℕ → Bytes → Bytes
block_certificate h mask block = frame_of 5 0 h mask (zeros digest_size) block

-- a notarization of the dummy block (document 01: blank certificate)
unfoldable pub dummy_certificate : ℕ → ℕ → Bytes
dummy_certificate h mask = frame_of 6 0 h mask (zeros digest_size) (zeros block_size)

-- a finalization
unfoldable pub finalize_certificate : ℕ → ℕ → Bytes
finalize_certificate h mask = frame_of 7 0 h mask (zeros digest_size) (zeros block_size)
