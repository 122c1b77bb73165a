-- What a frame says, field by field, and what the frame of each kind says.
use Rattle.std.specs.Prelude.{ℕ}
use Rattle.protocol.specs.Bytes.{Bytes, zeros}
use Rattle.protocol.specs.Block.{digest_size, block_size}
use Rattle.protocol.specs.Frame.{kind, signer, frame_height, signer_mask, frame_digest, frame_block}

pub record Fields : Type 0 where
  pub kind : ℕ
  pub signer : ℕ
  pub height : ℕ
  pub mask : ℕ
  pub digest : Bytes
  pub block : Bytes

-- the fields of a frame's bytes
unfoldable pub fields : Bytes → Fields
fields frame = record {
  kind = kind frame;
  signer = signer frame;
  height = frame_height frame;
  mask = signer_mask frame;
  digest = frame_digest frame;
  block = frame_block frame;
}

-- ---- the fields of each kind of frame: those that a kind does not use are zero
unfoldable pub proposal_fields : ℕ → ℕ → Bytes → Fields
proposal_fields s h block =
    record { kind = 1; signer = s; height = h; mask = 0; digest = zeros digest_size; block = block }

unfoldable pub block_vote_fields : ℕ → ℕ → Bytes → Fields
block_vote_fields s h digest =
    record { kind = 2; signer = s; height = h; mask = 0; digest = digest; block = zeros block_size }

unfoldable pub dummy_vote_fields : ℕ → ℕ → Fields
dummy_vote_fields s h =
    record { kind = 3; signer = s; height = h; mask = 0; digest = zeros digest_size; block = zeros block_size }

unfoldable pub finalize_fields : ℕ → ℕ → Fields
finalize_fields s h =
    record { kind = 4; signer = s; height = h; mask = 0; digest = zeros digest_size; block = zeros block_size }

unfoldable pub block_certificate_fields : ℕ → ℕ → Bytes → Fields
block_certificate_fields h mask block =
    record { kind = 5; signer = 0; height = h; mask = mask; digest = zeros digest_size; block = block }

unfoldable pub dummy_certificate_fields : ℕ → ℕ → Fields
dummy_certificate_fields h mask =
    record { kind = 6; signer = 0; height = h; mask = mask; digest = zeros digest_size; block = zeros block_size }

unfoldable pub finalize_certificate_fields : ℕ → ℕ → Fields
finalize_certificate_fields h mask =
    record { kind = 7; signer = 0; height = h; mask = mask; digest = zeros digest_size; block = zeros block_size }
