-- The fields of a frame that is put together are read back, and when such a frame is well formed.
use Rattle.std.specs.Prelude.{ℕ, ◌/◌, ◌<◌, ◌≡◌, true, ◌||◌, length}
use native.Mathlib.Omega.{arith}
use Rattle.std.proofs.Math.Path.{refl}
use Rattle.std.proofs.Common.{ap, ap₂, ◌∙◌, eq-eqb}
use Rattle.std.proofs.Math.ListN.{length-append}
use Rattle.std.proofs.Math.Seq.{take_at, drop_at}
use Rattle.std.proofs.Math.Dec.{eqb}
use Rattle.protocol.specs.Every.{none, one}
use Rattle.protocol.specs.Bytes.{Bytes, word16, le16, part, zeros, is_zero, all}
use Rattle.protocol.specs.Tests.{implies}
use Rattle.protocol.specs.Block.{block_well_formed}
use Rattle.protocol.proofs.Laws.RowLaws.{all_of_lem}
use Rattle.protocol.proofs.Laws.BuildLaws.{frame_height_lem}
use Rattle.call_laws.specs.Fields.{fields}
use Rattle.protocol.specs.Frame.{kind, signer, frame_height, signer_mask, frame_digest, frame_block, is_statement}
use Rattle.protocol.specs.Frame.{is_certificate, carries_block, carries_digest, frame_well_formed, frame_of}

module _ (k s h mask : ℕ) (digest block : Bytes) (digest_size_lem : length digest ≡ 32) where
  abbrev frame : Bytes
  frame = frame_of k s h mask digest block

  digest_back : frame_digest frame ≡ digest
  unfolding frame_digest part frame_of le16 zeros
  digest_back = take_at digest block 32 digest_size_lem

  block_back : frame_block frame ≡ block
  unfolding frame_block frame_of le16 zeros
  block_back = drop_at digest block 32 digest_size_lem

  pub mask_back : signer_mask frame ≡ mask
  unfolding signer_mask word16 frame_of le16
  mask_back = omega arith

  pub height_back : frame_height frame ≡ h
  height_back = frame_height_lem k s h mask digest block

  -- the six fields are those that the frame was put together of
  pub fields_back : fields frame ≡ record {
    kind = k;
    signer = s;
    height = h;
    mask = mask;
    digest = digest;
    block =
        block;
  }
  unfolding fields kind signer frame_of
  fields_back = λ i. record {
    kind = k;
    signer = s;
    height = height_back i;
    mask = mask_back i;
    digest =
        digest_back i;
    block = block_back i;
  }

  pub frame_size_lem : length block ≡ 176 → length frame ≡ 224
  unfolding frame_of le16 zeros
  frame_size_lem e = simp length-append (omega (arith, digest_size_lem))

  -- what the kind asks of the other fields
  pub record Fitting : Type 0 where
    pub block_size_lem : length block ≡ 176
    pub a_kind : (is_statement k || is_certificate k) ≡ true
    pub a_signer : (is_statement k || eqb s 0) ≡ true
    pub a_mask : (is_certificate k || eqb mask 0) ≡ true
    pub a_digest : (carries_digest k || is_zero digest) ≡ true
    pub a_block : (carries_block k || is_zero block) ≡ true
    pub good_block : implies (carries_block k) (block_well_formed h block) ≡ true

  ten_zeros : is_zero (part frame 6 10) ≡ true
  unfolding is_zero all part frame_of le16 zeros
  ten_zeros = refl

  pub well_formed : Fitting → frame_well_formed frame ≡ true
  unfolding frame_well_formed kind signer frame_of le16
  well_formed fits =
      all_of_lem
      (one (eq-eqb (length frame) 224 (frame_size_lem fits.block_size_lem))
      (one fits.a_kind
      (one fits.a_signer
      (one (ap (λ (m : ℕ). is_certificate k || eqb m 0) mask_back ∙ fits.a_mask)
      (one ten_zeros
      (one (ap (λ (d : Bytes). carries_digest k || is_zero d) digest_back ∙ fits.a_digest)
      (one (ap (λ (b : Bytes). carries_block k || is_zero b) block_back ∙ fits.a_block)
      (one
      (ap₂ (λ (i : ℕ) (b : Bytes). implies (carries_block k) (block_well_formed i b)) height_back block_back
      ∙ fits.good_block)
      none))))))))
