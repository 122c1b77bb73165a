-- A height's masks and blocks by number, in the order in which they lie; and the flags of the current height.
use Rattle.std.specs.Prelude.{ℕ, zero, suc, cond, eqb}
use Rattle.protocol.specs.Bytes.{Bytes}
use Rattle.protocol.specs.State.{Height}
use Rattle.protocol.specs.Deliver.{with_masks}
use Rattle.book_fields.specs.declared.names.Flag.{Flag}
use Rattle.book_fields.specs.declared.names.MaskKind.{MaskKind}

abbrev pub place_of : MaskKind → ℕ
place_of MaskKind.Certificate = 0
place_of MaskKind.Dummy = 1
place_of MaskKind.Finalize = 2
place_of MaskKind.Voters = 3

abbrev pub bit_of : Flag → ℕ
bit_of Flag.TimerFired = 1
bit_of Flag.DummyVoted = 2
bit_of Flag.BlockVoted = 4
bit_of Flag.Proposed = 8

-- 0 the signers of its certificate, 1 its dummy votes, 2 its finalize statements, 3 its voters
abbrev pub mask_at : Height → ℕ → ℕ
mask_at x zero = x.certificate_mask
mask_at x (suc zero) = x.dummy_mask
mask_at x (suc (suc zero)) = x.finalize_mask
mask_at x (suc (suc (suc k))) = x.voter_mask

-- with mask 1 or 2 changed
abbrev pub with_mask_at : Height → ℕ → ℕ → Height
with_mask_at x k mask = cond (eqb k 1) (with_masks x mask x.finalize_mask) (with_masks x x.dummy_mask mask)

-- 0 its held proposal, 1 its notarized block
abbrev pub block_at : Height → ℕ → Bytes
block_at x zero = x.proposal
block_at x (suc k) = x.notarized
