-- Written by tests/restated --write: what docs/statements has of
-- crates/protocol/specs/Frame.antt.
use Rattle.std.specs.Prelude.{ℕ, Bool, ◌||◌, [], ◌∷◌, ◌++◌, length, drop, eqb}
use package.Rattle.protocol.specs.Bytes.{Bytes, byte_at, word16, le16, part, zeros, is_zero}
use package.Rattle.protocol.specs.Tests.{all_of, implies, in_range}
use package.Rattle.protocol.specs.Block.{block_size, digest_size, block_well_formed}
use package.Rattle.protocol.specs.Frame.{frame_size, kind, signer, frame_height, signer_mask, frame_digest, frame_block, is_proposal, is_block_vote, is_block_certificate, is_statement, is_certificate, carries_block, carries_digest, frame_of}
use mathlib.Core.Path.{◌≡◌ as ◌is-kept◌, refl as by-text}
use package.Rattle.protocol.specs.Frame as page

abbrev frame_size-kept : ℕ
frame_size-kept = 224

same-frame_size : frame_size-kept is-kept page.frame_size
same-frame_size = by-text

kind-kept : Bytes → ℕ
kind-kept frame = byte_at frame 0

same-kind : kind-kept is-kept page.kind
unfolding kind-kept page.kind
same-kind = by-text

signer-kept : Bytes → ℕ
signer-kept frame = byte_at frame 1

same-signer : signer-kept is-kept page.signer
unfolding signer-kept page.signer
same-signer = by-text

frame_height-kept : Bytes → ℕ
frame_height-kept frame = word16 frame 2

same-frame_height : frame_height-kept is-kept page.frame_height
unfolding frame_height-kept page.frame_height
same-frame_height = by-text

signer_mask-kept : Bytes → ℕ
signer_mask-kept frame = word16 frame 4

same-signer_mask : signer_mask-kept is-kept page.signer_mask
unfolding signer_mask-kept page.signer_mask
same-signer_mask = by-text

frame_digest-kept : Bytes → Bytes
frame_digest-kept frame = part frame 16 digest_size

same-frame_digest : frame_digest-kept is-kept page.frame_digest
unfolding frame_digest-kept page.frame_digest
same-frame_digest = by-text

frame_block-kept : Bytes → Bytes
frame_block-kept frame = drop 48 frame

same-frame_block : frame_block-kept is-kept page.frame_block
unfolding frame_block-kept page.frame_block
same-frame_block = by-text

abbrev is_proposal-kept : ℕ → Bool
is_proposal-kept k = eqb k 1

same-is_proposal : is_proposal-kept is-kept page.is_proposal
same-is_proposal = by-text

abbrev is_block_vote-kept : ℕ → Bool
is_block_vote-kept k = eqb k 2

same-is_block_vote : is_block_vote-kept is-kept page.is_block_vote
same-is_block_vote = by-text

abbrev is_dummy_vote-kept : ℕ → Bool
is_dummy_vote-kept k = eqb k 3

same-is_dummy_vote : is_dummy_vote-kept is-kept page.is_dummy_vote
same-is_dummy_vote = by-text

abbrev is_finalize-kept : ℕ → Bool
is_finalize-kept k = eqb k 4

same-is_finalize : is_finalize-kept is-kept page.is_finalize
same-is_finalize = by-text

abbrev is_block_certificate-kept : ℕ → Bool
is_block_certificate-kept k = eqb k 5

same-is_block_certificate : is_block_certificate-kept is-kept page.is_block_certificate
same-is_block_certificate = by-text

abbrev is_dummy_certificate-kept : ℕ → Bool
is_dummy_certificate-kept k = eqb k 6

same-is_dummy_certificate : is_dummy_certificate-kept is-kept page.is_dummy_certificate
same-is_dummy_certificate = by-text

abbrev is_finalize_certificate-kept : ℕ → Bool
is_finalize_certificate-kept k = eqb k 7

same-is_finalize_certificate : is_finalize_certificate-kept is-kept page.is_finalize_certificate
same-is_finalize_certificate = by-text

is_statement-kept : ℕ → Bool
is_statement-kept k = in_range 1 4 k

same-is_statement : is_statement-kept is-kept page.is_statement
unfolding is_statement-kept page.is_statement
same-is_statement = by-text

is_certificate-kept : ℕ → Bool
is_certificate-kept k = in_range 5 7 k

same-is_certificate : is_certificate-kept is-kept page.is_certificate
unfolding is_certificate-kept page.is_certificate
same-is_certificate = by-text

carries_block-kept : ℕ → Bool
carries_block-kept k = is_proposal k || is_block_certificate k

same-carries_block : carries_block-kept is-kept page.carries_block
unfolding carries_block-kept page.carries_block
same-carries_block = by-text

carries_digest-kept : ℕ → Bool
carries_digest-kept k = is_block_vote k

same-carries_digest : carries_digest-kept is-kept page.carries_digest
unfolding carries_digest-kept page.carries_digest
same-carries_digest = by-text

frame_well_formed-kept : Bytes → Bool
frame_well_formed-kept frame = all_of
    (eqb (length frame) frame_size ∷
    (is_statement (kind frame) || is_certificate (kind frame)) ∷
    (is_statement (kind frame) || eqb (signer frame) 0) ∷
    (is_certificate (kind frame) || eqb (signer_mask frame) 0) ∷
    is_zero (part frame 6 10) ∷
    (carries_digest (kind frame) || is_zero (frame_digest frame)) ∷
    (carries_block (kind frame) || is_zero (frame_block frame)) ∷
    implies (carries_block (kind frame)) (block_well_formed (frame_height frame) (frame_block frame)) ∷ [])

same-frame_well_formed : frame_well_formed-kept is-kept page.frame_well_formed
unfolding frame_well_formed-kept page.frame_well_formed
same-frame_well_formed = by-text

frame_of-kept : (k s h mask : ℕ) (digest block : Bytes) → Bytes
frame_of-kept k s h mask digest block = (k ∷ s ∷ le16 h) ++ (le16 mask ++ (zeros 10 ++ (digest ++ block)))

same-frame_of : frame_of-kept is-kept page.frame_of
unfolding frame_of-kept page.frame_of
same-frame_of = by-text

proposal-kept : ℕ → ℕ → Bytes → Bytes
proposal-kept s h block = frame_of 1 s h 0 (zeros digest_size) block

same-proposal : proposal-kept is-kept page.proposal
unfolding proposal-kept page.proposal
same-proposal = by-text

block_vote-kept : ℕ → ℕ → Bytes → Bytes
block_vote-kept s h digest = frame_of 2 s h 0 digest (zeros block_size)

same-block_vote : block_vote-kept is-kept page.block_vote
unfolding block_vote-kept page.block_vote
same-block_vote = by-text

dummy_vote-kept : ℕ → ℕ → Bytes
dummy_vote-kept s h = frame_of 3 s h 0 (zeros digest_size) (zeros block_size)

same-dummy_vote : dummy_vote-kept is-kept page.dummy_vote
unfolding dummy_vote-kept page.dummy_vote
same-dummy_vote = by-text

finalize-kept : ℕ → ℕ → Bytes
finalize-kept s h = frame_of 4 s h 0 (zeros digest_size) (zeros block_size)

same-finalize : finalize-kept is-kept page.finalize
unfolding finalize-kept page.finalize
same-finalize = by-text

block_certificate-kept : ℕ → ℕ → Bytes → Bytes
block_certificate-kept h mask block = frame_of 5 0 h mask (zeros digest_size) block

same-block_certificate : block_certificate-kept is-kept page.block_certificate
unfolding block_certificate-kept page.block_certificate
same-block_certificate = by-text

dummy_certificate-kept : ℕ → ℕ → Bytes
dummy_certificate-kept h mask = frame_of 6 0 h mask (zeros digest_size) (zeros block_size)

same-dummy_certificate : dummy_certificate-kept is-kept page.dummy_certificate
unfolding dummy_certificate-kept page.dummy_certificate
same-dummy_certificate = by-text

finalize_certificate-kept : ℕ → ℕ → Bytes
finalize_certificate-kept h mask = frame_of 7 0 h mask (zeros digest_size) (zeros block_size)

same-finalize_certificate : finalize_certificate-kept is-kept page.finalize_certificate
unfolding finalize_certificate-kept page.finalize_certificate
same-finalize_certificate = by-text
