-- Written by tests/restated --write: what docs/statements has of
-- crates/call_laws/specs/Fields.antt.
use Rattle.std.specs.Prelude.{ℕ}
use package.Rattle.protocol.specs.Bytes.{Bytes, zeros}
use package.Rattle.protocol.specs.Block.{digest_size, block_size}
use package.Rattle.protocol.specs.Frame.{kind, signer, frame_height, signer_mask, frame_digest, frame_block}
use package.Rattle.call_laws.specs.Fields.{Fields}
use mathlib.Core.Path.{◌≡◌ as ◌is-kept◌, refl as by-text}
use package.Rattle.call_laws.specs.Fields as page

Fields-kept : (kind : ℕ) (signer : ℕ) (height : ℕ) (mask : ℕ) (digest : Bytes) (block : Bytes) →
    Fields
Fields-kept x0 x1 x2 x3 x4 x5 = record { kind = x0; signer = x1; height = x2; mask = x3; digest = x4; block = x5 }

fields-kept : Bytes → Fields
fields-kept frame = record {
  kind = kind frame;
  signer = signer frame;
  height = frame_height frame;
  mask = signer_mask frame;
  digest = frame_digest frame;
  block = frame_block frame;
}

same-fields : fields-kept is-kept page.fields
unfolding fields-kept page.fields
same-fields = by-text

proposal_fields-kept : ℕ → ℕ → Bytes → Fields
proposal_fields-kept s h block =
    record { kind = 1; signer = s; height = h; mask = 0; digest = zeros digest_size; block = block }

same-proposal_fields : proposal_fields-kept is-kept page.proposal_fields
unfolding proposal_fields-kept page.proposal_fields
same-proposal_fields = by-text

block_vote_fields-kept : ℕ → ℕ → Bytes → Fields
block_vote_fields-kept s h digest =
    record { kind = 2; signer = s; height = h; mask = 0; digest = digest; block = zeros block_size }

same-block_vote_fields : block_vote_fields-kept is-kept page.block_vote_fields
unfolding block_vote_fields-kept page.block_vote_fields
same-block_vote_fields = by-text

dummy_vote_fields-kept : ℕ → ℕ → Fields
dummy_vote_fields-kept s h =
    record { kind = 3; signer = s; height = h; mask = 0; digest = zeros digest_size; block = zeros block_size }

same-dummy_vote_fields : dummy_vote_fields-kept is-kept page.dummy_vote_fields
unfolding dummy_vote_fields-kept page.dummy_vote_fields
same-dummy_vote_fields = by-text

finalize_fields-kept : ℕ → ℕ → Fields
finalize_fields-kept s h =
    record { kind = 4; signer = s; height = h; mask = 0; digest = zeros digest_size; block = zeros block_size }

same-finalize_fields : finalize_fields-kept is-kept page.finalize_fields
unfolding finalize_fields-kept page.finalize_fields
same-finalize_fields = by-text

block_certificate_fields-kept : ℕ → ℕ → Bytes → Fields
block_certificate_fields-kept h mask block =
    record { kind = 5; signer = 0; height = h; mask = mask; digest = zeros digest_size; block = block }

same-block_certificate_fields : block_certificate_fields-kept is-kept page.block_certificate_fields
unfolding block_certificate_fields-kept page.block_certificate_fields
same-block_certificate_fields = by-text

dummy_certificate_fields-kept : ℕ → ℕ → Fields
dummy_certificate_fields-kept h mask =
    record { kind = 6; signer = 0; height = h; mask = mask; digest = zeros digest_size; block = zeros block_size }

same-dummy_certificate_fields : dummy_certificate_fields-kept is-kept page.dummy_certificate_fields
unfolding dummy_certificate_fields-kept page.dummy_certificate_fields
same-dummy_certificate_fields = by-text

finalize_certificate_fields-kept : ℕ → ℕ → Fields
finalize_certificate_fields-kept h mask =
    record { kind = 7; signer = 0; height = h; mask = mask; digest = zeros digest_size; block = zeros block_size }

same-finalize_certificate_fields : finalize_certificate_fields-kept is-kept page.finalize_certificate_fields
unfolding finalize_certificate_fields-kept page.finalize_certificate_fields
same-finalize_certificate_fields = by-text
