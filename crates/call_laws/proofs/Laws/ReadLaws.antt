-- When the frame of each kind is read over a state, and that it says what it was made of.
use Rattle.std.specs.Prelude.{ℕ, ◌≤◌, ◌<◌, ◌≡◌, true, false, ◌||◌, List, [], ◌∷◌, length, eqb, ltb}
use Rattle.std.proofs.Math.Path.{refl}
use Rattle.std.proofs.Common.{ap, ap₂, ◌∙◌, eq-eqb, lt-ltb}
use Rattle.std.proofs.Math.Bool.{cond}
use Rattle.std.proofs.Math.Option.{none, some}
use Rattle.protocol.specs.Every.{Every, one}
use Rattle.protocol.specs.Bytes.{Bytes, zeros}
use Rattle.protocol.specs.Tests.{all_of, implies, in_range, Row, first_refusal}
use Rattle.protocol.specs.Mask.{below_bit}
use Rattle.protocol.specs.Block.{block_well_formed}
use Rattle.protocol.specs.Frame.{kind, signer, frame_height, frame_well_formed, is_statement, is_certificate, carries_block}
use Rattle.protocol.specs.Frame.{carries_digest, frame_of, proposal, block_vote, dummy_vote, finalize, block_certificate}
use Rattle.protocol.specs.Frame.{dummy_certificate, finalize_certificate}
use Rattle.protocol.specs.State.{State, at, last}
use Rattle.protocol.specs.View.{quorum}
use Rattle.protocol.specs.Sound.{view}
use Rattle.protocol.specs.Deliver.{read_rows}
use Rattle.protocol.proofs.Laws.FormedLaws.{formed}
use Rattle.protocol.proofs.Laws.RowLaws.{refuse_row, zeros_is_zero, range_in}
use Rattle.call_laws.specs.Fields.{Fields, fields, proposal_fields, block_vote_fields, dummy_vote_fields}
use Rattle.call_laws.specs.Fields.{finalize_fields, block_certificate_fields, dummy_certificate_fields}
use Rattle.call_laws.specs.Fields.{finalize_certificate_fields}
use Rattle.call_laws.specs.Readable.{IsRead, Said}
use Rattle.protocol.proofs.Laws.BytesLaws.{length_zeros}
use Rattle.call_laws.proofs.Laws.FrameLaws.{Fitting, fields_back, frame_size_lem, well_formed, mask_back, height_back}

-- rows that all pass refuse nothing
pass_rows : {rows : List Row} → Every (λ (r : Row). r.1 ≡ true) rows → first_refusal rows ≡ none
unfolding first_refusal
pass_rows Every.none = refl
pass_rows (one p ps) = rw p (pass_rows ps)

-- a frame of 224 bytes that is read over a state and says this
pub record Written (s : State) (said : Fields) (frame : Bytes) : Type 0 where
  pub size : length frame ≡ 224
  pub read : IsRead s frame
  pub says : fields frame ≡ said

pub said_none : (t : State) → Said t [] []
said_none t = record { says = refl; sized = Every.none; read = Every.none }

pub said_more : {t : State} {said : Fields} {frame : Bytes} {saids : List Fields} {frames : List Bytes} →
    Written t said frame → Said t saids frames → Said t (said ∷ saids) (frame ∷ frames)
said_more w ws = record {
  says = ap₂ ◌∷◌ w.says ws.says;
  sized = one w.size ws.sized;
  read =
      one w.read ws.read;
}

module _ (t : State) (k s h mask : ℕ) (digest block : Bytes) (digest_size_lem : length digest ≡ 32) where
  read_over : Fitting k s h mask digest block digest_size_lem → (1 ≤ h) → (h ≤ last t) →
      cond (is_statement k) (ltb s t.n) (below_bit t.n mask) ≡ true →
      implies (eqb k 1) (eqb s (at t h).leader) ≡ true →
      (is_statement k || quorum (view t) mask) ≡ true →
      Written t (record { kind = k; signer = s; height = h; mask = mask; digest = digest; block = block })
      (frame_of k s h mask digest block)
  read_over fits low high signer-row leader-row quorum-row = record {
    size = frame_size_lem k s h mask digest block digest_size_lem fits.block_size_lem;
    read = passes;
    says = fields_back k s h mask digest block digest_size_lem;
  }
    where
      passes : IsRead t (frame_of k s h mask digest block)
      passes = unfold read_rows kind signer frame_of in
          pass_rows
          (one (well_formed k s h mask digest block digest_size_lem fits)
          (one (ap (in_range 1 (last t)) (height_back k s h mask digest block digest_size_lem)
          ∙ range_in 1 (last t) h low high)
          (one (ap (λ (m : ℕ). cond (is_statement k) (ltb s t.n) (below_bit t.n m))
          (mask_back k s h mask digest block digest_size_lem) ∙ signer-row)
          (one (ap (λ (i : ℕ). implies (eqb k 1) (eqb s (at t i).leader))
          (height_back k s h mask digest block digest_size_lem) ∙ leader-row)
          (one (ap (λ (m : ℕ). is_statement k || quorum (view t) m) (mask_back k s h mask digest block digest_size_lem)
          ∙ quorum-row)
          Every.none)))))

-- ---- what a kind asks of the other fields
-- where it carries no digest and no block
bare : (k s h mask : ℕ) → (is_statement k || is_certificate k) ≡ true → (is_statement k || eqb s 0) ≡ true →
    (is_certificate k || eqb mask 0) ≡ true →
    carries_digest k ≡ false → carries_block k ≡ false → Fitting k s h mask (zeros 32) (zeros 176) (length_zeros 32)
unfolding implies
bare k s h mask a b c d e = record {
  block_size_lem = length_zeros 176;
  a_kind = a;
  a_signer = b;
  a_mask = c;
  a_digest = rw d (zeros_is_zero 32);
  a_block = rw e (zeros_is_zero 176);
  good_block = rw e;
}

-- where it carries a block
carrying : (k s h mask : ℕ) (block : Bytes) → (is_statement k || is_certificate k) ≡ true →
    (is_statement k || eqb s 0) ≡ true → (is_certificate k || eqb mask 0) ≡ true →
    carries_digest k ≡ false → carries_block k ≡ true → block_well_formed h block ≡ true →
    Fitting k s h mask (zeros 32) block (length_zeros 32)
unfolding implies
carrying k s h mask block a b c d e good = record {
  block_size_lem = (formed h block good).size;
  a_kind = a;
  a_signer = b;
  a_mask = c;
  a_digest = rw d (zeros_is_zero 32);
  a_block = rw e;
  good_block = rw e good;
}

-- ---- each kind over a state that has its height
module _ (t : State) (h : ℕ) (low : 1 ≤ h) (high : h ≤ last t) where
  module _ (s : ℕ) (small : s < t.n) where
    pub proposal_read : (block : Bytes) → block_well_formed h block ≡ true → s ≡ (at t h).leader →
        Written t (proposal_fields s h block) (proposal s h block)
    unfolding proposal proposal_fields is_statement is_certificate carries_block carries_digest in_range implies
    proposal_read block good leads =
        read_over t 1 s h 0 (zeros 32) block (length_zeros 32)
        (carrying 1 s h 0 block refl refl refl refl refl good) low high
        (lt-ltb s t.n small) (eq-eqb s (at t h).leader leads) refl

    pub block_vote_read : (digest : Bytes) → length digest ≡ 32 →
        Written t (block_vote_fields s h digest) (block_vote s h digest)
    unfolding block_vote block_vote_fields is_statement is_certificate carries_block carries_digest in_range implies
    block_vote_read digest sized =
        read_over t 2 s h 0 digest (zeros 176) sized
        (record {
          block_size_lem = length_zeros 176;
          a_kind = refl;
          a_signer = refl;
          a_mask =
              refl;
          a_digest = refl;
          a_block = zeros_is_zero 176;
          good_block = refl;
        })
        low high (lt-ltb s t.n small) refl refl

    pub dummy_vote_read : Written t (dummy_vote_fields s h) (dummy_vote s h)
    unfolding dummy_vote dummy_vote_fields is_statement is_certificate carries_block carries_digest in_range implies
    dummy_vote_read =
        read_over t 3 s h 0 (zeros 32) (zeros 176) (length_zeros 32) (bare 3 s h 0 refl refl refl refl refl) low
        high (lt-ltb s t.n small) refl refl

    pub finalize_read : Written t (finalize_fields s h) (finalize s h)
    unfolding finalize finalize_fields is_statement is_certificate carries_block carries_digest in_range implies
    finalize_read =
        read_over t 4 s h 0 (zeros 32) (zeros 176) (length_zeros 32) (bare 4 s h 0 refl refl refl refl refl) low
        high (lt-ltb s t.n small) refl refl

  module _ (mask : ℕ) (small : below_bit t.n mask ≡ true) (enough : quorum (view t) mask ≡ true) where
    pub block_certificate_read : (block : Bytes) → block_well_formed h block ≡ true →
        Written t (block_certificate_fields h mask block) (block_certificate h mask block)
    unfolding block_certificate block_certificate_fields is_statement is_certificate carries_block carries_digest in_range
        implies
    block_certificate_read block good =
        read_over t 5 0 h mask (zeros 32) block (length_zeros 32)
        (carrying 5 0 h mask block refl refl refl refl refl good) low high small refl enough

    pub dummy_certificate_read : Written t (dummy_certificate_fields h mask) (dummy_certificate h mask)
    unfolding dummy_certificate dummy_certificate_fields is_statement is_certificate carries_block carries_digest in_range
        implies
    dummy_certificate_read =
        read_over t 6 0 h mask (zeros 32) (zeros 176) (length_zeros 32) (bare 6 0 h mask refl refl refl refl refl)
        low high small refl enough

    pub finalize_certificate_read : Written t (finalize_certificate_fields h mask) (finalize_certificate h mask)
    unfolding finalize_certificate finalize_certificate_fields is_statement is_certificate carries_block carries_digest in_range
        implies
    finalize_certificate_read =
        read_over t 7 0 h mask (zeros 32) (zeros 176) (length_zeros 32) (bare 7 0 h mask refl refl refl refl refl)
        low high small refl enough

-- ---- 224 zero bytes
zeros_unformed : frame_well_formed (zeros 224) ≡ false
unfolding frame_well_formed all_of kind is_statement is_certificate in_range zeros
zeros_unformed = refl

pub zero_frame : (t : State) → first_refusal (read_rows t (zeros 224)) ≡ some 4
unfolding read_rows
zero_frame t = refuse_row (4, frame_well_formed (zeros 224)) _ zeros_unformed
