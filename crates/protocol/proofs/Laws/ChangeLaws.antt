-- The changes that calls make to a state, as writes of its bytes, and that they keep its shape.
use Rattle.std.specs.Prelude.{ℕ, suc, ◌+◌, ◌-◌, ◌*◌, ◌^◌, ◌<◌, ◌≡◌, List, ◌++◌, length, set}
use Rattle.std.proofs.Common.{arith, ap, ◌∙◌}
use Rattle.std.proofs.Math.Path.{refl}
use Rattle.protocol.specs.SoundState.{ShapedHeight, Shaped}
use Rattle.protocol.specs.Bytes.{Bytes, le16, zeros, join, put}
use Rattle.protocol.specs.State.{State, Height, at, last, with_height, encode, decode, with_pool}
use Rattle.protocol.specs.Deliver.{with_proposal, with_notarized, with_masks, with_vote}
use Rattle.protocol.specs.Submit.{with_pending}
use Rattle.protocol.proofs.Laws.BytesLaws.{length_put}
use Rattle.protocol.proofs.Laws.PlaceLaws.{with_at}
use Rattle.protocol.proofs.Laws.WriteLaws.{with_status, with_certificate_mask, with_dummy_mask, with_finalize_mask}
use Rattle.protocol.proofs.Laws.WriteLaws.{with_voter_mask, with_proposal_bytes, with_notarized_bytes, with_vote_digests}
use Rattle.protocol.proofs.Laws.WriteLaws.{write_status, write_certificate_mask, write_dummy_mask}
use Rattle.protocol.proofs.Laws.WriteLaws.{write_finalize_mask, write_voter_mask, write_proposal, write_notarized}
use Rattle.protocol.proofs.Laws.WriteLaws.{write_vote_digests}

-- ---- changes, field by field
pub with_proposal_lem : (x : Height) (block : Bytes) →
    with_proposal x block ≡ with_proposal_bytes (with_status x (x.status + 1)) block
unfolding with_proposal with_proposal_bytes with_status
with_proposal_lem x block = refl

pub with_notarized_lem : (x : Height) (mask : ℕ) (block : Bytes) →
    with_notarized x mask block ≡ with_notarized_bytes (with_certificate_mask (with_status x (x.status + 2)) mask) block
unfolding with_notarized with_notarized_bytes with_certificate_mask with_status
with_notarized_lem x mask block = refl

pub with_dummy_mask_lem : (x : Height) (mask : ℕ) → with_masks x mask x.finalize_mask ≡ with_dummy_mask x mask
unfolding with_masks with_dummy_mask
with_dummy_mask_lem x mask = refl

pub with_finalize_mask_lem : (x : Height) (mask : ℕ) → with_masks x x.dummy_mask mask ≡ with_finalize_mask x mask
unfolding with_masks with_finalize_mask
with_finalize_mask_lem x mask = refl

pub with_vote_lem : (x : Height) (r : ℕ) (digest : Bytes) → length digest ≡ 32 →
    with_vote x r digest ≡ with_vote_digests (with_voter_mask x (x.voter_mask + 2 ^ r))
    (put x.vote_digests (32 * r) digest)
unfolding with_vote with_vote_digests with_voter_mask put
with_vote_lem x r digest e = rw e

pub with_pending_lem : (s : State) (entries : List Bytes) →
    with_pending s entries ≡ with_pool s (length entries) (join entries ++ zeros (512 - 16 * length entries))
unfolding with_pending with_pool
with_pending_lem s entries = refl

-- ---- shapes
-- only the three areas of a height have sizes
pub shaped_same : (x y : Height) → y.proposal ≡ x.proposal → y.notarized ≡ x.notarized →
    y.vote_digests ≡ x.vote_digests → ShapedHeight x → ShapedHeight y
shaped_same x y p q r fits = record {
  proposal_size = ap length p ∙ fits.proposal_size;
  notarized_size = ap length q ∙ fits.notarized_size;
  votes_size = ap length r ∙ fits.votes_size;
}

pub shaped_proposal : (x : Height) (block : Bytes) → length block ≡ 176 → ShapedHeight x →
    ShapedHeight (with_proposal x block)
unfolding with_proposal
shaped_proposal x block e fits = record {
  proposal_size = e;
  notarized_size = fits.notarized_size;
  votes_size =
      fits.votes_size;
}

pub shaped_notarized : (x : Height) (mask : ℕ) (block : Bytes) → length block ≡ 176 → ShapedHeight x →
    ShapedHeight (with_notarized x mask block)
unfolding with_notarized
shaped_notarized x mask block e fits = record {
  proposal_size = fits.proposal_size;
  notarized_size = e;
  votes_size =
      fits.votes_size;
}

pub shaped_masks : (x : Height) (dummy_mask finalize_mask : ℕ) → ShapedHeight x →
    ShapedHeight (with_masks x dummy_mask finalize_mask)
unfolding with_masks
shaped_masks x dummy_mask finalize_mask fits = shaped_same x (with_masks x dummy_mask finalize_mask) refl refl refl fits

pub shaped_vote : (x : Height) (r : ℕ) (digest : Bytes) → r < 16 → length digest ≡ 32 → ShapedHeight x →
    ShapedHeight (with_vote x r digest)
unfolding with_vote_digests with_voter_mask
shaped_vote x r digest h e fits =
    rw (with_vote_lem x r digest e)
    (record {
      proposal_size = fits.proposal_size;
      notarized_size = fits.notarized_size;
      votes_size = length_put x.vote_digests (32 * r) digest (omega (arith, fits)) ∙ fits.votes_size;
    })

pub shaped_pool : (s : State) (count : ℕ) (pool : Bytes) → length pool ≡ 512 → Shaped s → Shaped (with_pool s count pool)
unfolding with_pool
shaped_pool s count pool e shaped = record { weighed = shaped.weighed; pool_size_lem = e; heights = shaped.heights }

-- ---- the bytes of a book, with one of its heights named
pub named_height : (book : Bytes) (i : ℕ) → encode (decode book) ≡ book →
    encode (with_height (decode book) (suc i) (at (decode book) (suc i))) ≡ book
named_height book i whole = ap encode (with_at (decode book) i) ∙ whole

-- ---- changes of a height, as the writes that make them
module _ (s : State) (shaped : Shaped s) (i : ℕ) (inside : i < last s) (x : Height) (fits : ShapedHeight x) where
  pub make_proposal : (block : Bytes) → length block ≡ 176 →
      put (set (encode (with_height s (suc i) x)) (576 + 16 * i + 1) (x.status + 1)) (576 + 16 * last s + 864 * i)
      block ≡
      encode (with_height s (suc i) (with_proposal x block))
  make_proposal block e =
      rw (write_status s shaped i inside x (x.status + 1), with_proposal_lem)
      (write_proposal s shaped i inside (with_status x (x.status + 1))
      (unfold with_status in shaped_same x (with_status x (x.status + 1)) refl refl refl fits) block e)

  pub make_notarized : (mask : ℕ) (block : Bytes) → length block ≡ 176 →
      put (put (set (encode (with_height s (suc i) x)) (576 + 16 * i + 1) (x.status + 2)) (576 + 16 * i + 2)
      (le16 mask)) (576 + 16 * last s + 864 * i + 176) block ≡
      encode (with_height s (suc i) (with_notarized x mask block))
  unfolding with_status with_certificate_mask
  make_notarized mask block e =
      rw (
        write_status s shaped i inside x (x.status + 2),
        write_certificate_mask s shaped i inside (with_status x (x.status + 2)) mask,
        with_notarized_lem,
      )
      (write_notarized s shaped i inside (with_certificate_mask (with_status x (x.status + 2)) mask)
      (shaped_same x (with_certificate_mask (with_status x (x.status + 2)) mask) refl refl refl fits) block e)

  pub make_dummy_mask : (mask : ℕ) →
      put (encode (with_height s (suc i) x)) (576 + 16 * i + 4) (le16 mask) ≡ encode
      (with_height s (suc i) (with_masks x mask x.finalize_mask))
  make_dummy_mask mask = rw with_dummy_mask_lem (write_dummy_mask s shaped i inside x mask)

  pub make_finalize_mask : (mask : ℕ) →
      put (encode (with_height s (suc i) x)) (576 + 16 * i + 6) (le16 mask) ≡ encode
      (with_height s (suc i) (with_masks x x.dummy_mask mask))
  make_finalize_mask mask = rw with_finalize_mask_lem (write_finalize_mask s shaped i inside x mask)

  pub make_vote : (r : ℕ) (digest : Bytes) → r < 16 → length digest ≡ 32 →
      put (put (encode (with_height s (suc i) x)) (576 + 16 * i + 8) (le16 (x.voter_mask + 2 ^ r)))
      (576 + 16 * last s + 864 * i + (352 + 32 * r)) digest ≡
      encode (with_height s (suc i) (with_vote x r digest))
  unfolding with_voter_mask
  make_vote r digest h e =
      rw (write_voter_mask s shaped i inside x (x.voter_mask + 2 ^ r), with_vote_lem x r digest e)
      (write_vote_digests s shaped i inside (with_voter_mask x (x.voter_mask + 2 ^ r))
      (shaped_same x (with_voter_mask x (x.voter_mask + 2 ^ r)) refl refl refl fits) (32 * r) digest (omega arith))
