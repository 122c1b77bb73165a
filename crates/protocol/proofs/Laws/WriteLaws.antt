-- What writing a field's bytes makes of a state: one law for each field, over the state's bytes.
use Rattle.std.specs.Prelude.{ℕ, suc, ◌+◌, ◌*◌, ◌≤◌, ◌<◌, ◌≡◌, ◌++◌, map, length, set}
use native.Mathlib.Omega.{arith}
use Rattle.std.proofs.Math.Nat.{add-zero}
use Rattle.std.proofs.Math.Path.{refl, sym}
use Rattle.std.proofs.Common.{◌∙◌}
use Rattle.protocol.specs.SoundState.{ShapedHeight, Shaped}
use Rattle.protocol.specs.Bytes.{Bytes, le16, join, put}
use Rattle.protocol.specs.State.{State, Height, at, last, with_height, with_pool, encode, head_bytes, content_bytes}
use Rattle.protocol.specs.State.{body_bytes}
use Rattle.protocol.proofs.Laws.BytesLaws.{put_front, put_after, middle_put}
use Rattle.protocol.proofs.Laws.HeadLaws.{head_size}
use Rattle.protocol.proofs.Laws.PlaceLaws.{content_set, content_put, body_put}

-- ---- the pool
pub write_pending_count : (s : State) (v : ℕ) → set (encode s) 6 v ≡ encode (with_pool s v s.pool)
unfolding encode head_bytes with_pool
write_pending_count s v = refl

pub write_pool : (s : State) → length s.pool ≡ 512 → (j : ℕ) (new : Bytes) → j + length new ≤ 512 →
    put (encode s) (64 + j) new ≡ encode (with_pool s s.pending_count (put s.pool j new))
unfolding encode head_bytes with_pool
write_pool s size j new h =
    middle_put (head_bytes s) s.pool (join (map content_bytes s.heights) ++ join (map body_bytes s.heights)) 64
    (head_size s) j new (rw size h)

-- ---- one field of a height
-- other numbers, or another body
abbrev with_numbers : Height → (leader status certificate dummy finalize voter : ℕ) → Height
with_numbers x leader status certificate dummy finalize voter = record {
  leader = leader;
  status = status;
  certificate_mask = certificate;
  dummy_mask = dummy;
  finalize_mask = finalize;
  voter_mask = voter;
  proposal = x.proposal;
  notarized = x.notarized;
  vote_digests = x.vote_digests;
}

abbrev with_body : Height → (proposal notarized digests : Bytes) → Height
with_body x proposal notarized digests = record {
  leader = x.leader;
  status = x.status;
  certificate_mask = x.certificate_mask;
  dummy_mask = x.dummy_mask;
  finalize_mask = x.finalize_mask;
  voter_mask = x.voter_mask;
  proposal = proposal;
  notarized = notarized;
  vote_digests = digests;
}

unfoldable pub with_leader : Height → ℕ → Height
with_leader x leader =
    with_numbers x leader x.status x.certificate_mask x.dummy_mask x.finalize_mask x.voter_mask

unfoldable pub with_status : Height → ℕ → Height
with_status x status =
    with_numbers x x.leader status x.certificate_mask x.dummy_mask x.finalize_mask x.voter_mask

unfoldable pub with_certificate_mask : Height → ℕ → Height
with_certificate_mask x mask =
    with_numbers x x.leader x.status mask x.dummy_mask x.finalize_mask x.voter_mask

unfoldable pub with_dummy_mask : Height → ℕ → Height
with_dummy_mask x mask =
    with_numbers x x.leader x.status x.certificate_mask mask x.finalize_mask x.voter_mask

unfoldable pub with_finalize_mask : Height → ℕ → Height
with_finalize_mask x mask =
    with_numbers x x.leader x.status x.certificate_mask x.dummy_mask mask x.voter_mask

unfoldable pub with_voter_mask : Height → ℕ → Height
with_voter_mask x mask =
    with_numbers x x.leader x.status x.certificate_mask x.dummy_mask x.finalize_mask mask

unfoldable pub with_proposal_bytes : Height → Bytes → Height
with_proposal_bytes x block = with_body x block x.notarized x.vote_digests

unfoldable pub with_notarized_bytes : Height → Bytes → Height
with_notarized_bytes x block = with_body x x.proposal block x.vote_digests

unfoldable pub with_vote_digests : Height → Bytes → Height
with_vote_digests x digests = with_body x x.proposal x.notarized digests

-- ---- a height: its bytes in place of those of `x`
module _ (s : State) (shaped : Shaped s) (i : ℕ) (inside : i < last s) (x : Height) where
  pub write_leader : (v : ℕ) →
      set (encode (with_height s (suc i) x)) (576 + 16 * i) v ≡ encode (with_height s (suc i) (with_leader x v))
  unfolding with_leader content_bytes body_bytes
  write_leader v = rw add-zero at (content_set s shaped i inside x (with_leader x v) 0 v (omega arith) refl refl)

  pub write_status : (v : ℕ) →
      set (encode (with_height s (suc i) x)) (576 + 16 * i + 1) v ≡ encode (with_height s (suc i) (with_status x v))
  unfolding with_status content_bytes body_bytes
  write_status v = content_set s shaped i inside x (with_status x v) 1 v (omega arith) refl refl

  pub write_certificate_mask : (mask : ℕ) →
      put (encode (with_height s (suc i) x)) (576 + 16 * i + 2) (le16 mask) ≡ encode
      (with_height s (suc i) (with_certificate_mask x mask))
  unfolding with_certificate_mask content_bytes body_bytes le16 put
  write_certificate_mask mask = content_put s shaped i inside x (with_certificate_mask x mask) 2 (le16 mask) (omega arith)
      refl refl

  pub write_dummy_mask : (mask : ℕ) →
      put (encode (with_height s (suc i) x)) (576 + 16 * i + 4) (le16 mask) ≡ encode
      (with_height s (suc i) (with_dummy_mask x mask))
  unfolding with_dummy_mask content_bytes body_bytes le16 put
  write_dummy_mask mask = content_put s shaped i inside x (with_dummy_mask x mask) 4 (le16 mask) (omega arith) refl refl

  pub write_finalize_mask : (mask : ℕ) →
      put (encode (with_height s (suc i) x)) (576 + 16 * i + 6) (le16 mask) ≡ encode
      (with_height s (suc i) (with_finalize_mask x mask))
  unfolding with_finalize_mask content_bytes body_bytes le16 put
  write_finalize_mask mask = content_put s shaped i inside x (with_finalize_mask x mask) 6 (le16 mask) (omega arith) refl
      refl

  pub write_voter_mask : (mask : ℕ) →
      put (encode (with_height s (suc i) x)) (576 + 16 * i + 8) (le16 mask) ≡ encode
      (with_height s (suc i) (with_voter_mask x mask))
  unfolding with_voter_mask content_bytes body_bytes le16 put
  write_voter_mask mask = content_put s shaped i inside x (with_voter_mask x mask) 8 (le16 mask) (omega arith) refl refl

  -- ---- its body, which has its size
  module _ (fits : ShapedHeight x) where
    pub write_proposal : (block : Bytes) → length block ≡ 176 →
        put (encode (with_height s (suc i) x)) (576 + 16 * last s + 864 * i) block ≡ encode
        (with_height s (suc i) (with_proposal_bytes x block))
    unfolding with_proposal_bytes content_bytes body_bytes
    write_proposal block size =
        rw add-zero at
        (body_put s shaped i inside x (with_proposal_bytes x block) fits 0 block (omega arith) refl
        (sym (put_front x.proposal (x.notarized ++ x.vote_digests) block (fits.proposal_size ∙ sym size))))

    pub write_notarized : (block : Bytes) → length block ≡ 176 →
        put (encode (with_height s (suc i) x)) (576 + 16 * last s + 864 * i + 176) block ≡ encode
        (with_height s (suc i) (with_notarized_bytes x block))
    unfolding with_notarized_bytes content_bytes body_bytes
    write_notarized block size =
        body_put s shaped i inside x (with_notarized_bytes x block) fits 176 block (omega arith) refl
        (sym (put_after x.proposal (x.notarized ++ x.vote_digests) 176 fits.proposal_size 0 block ∙
        rw (put_front x.notarized x.vote_digests block (fits.notarized_size ∙ sym size))))

    -- a part of the vote digests, as the 32 bytes of one
    pub write_vote_digests : (j : ℕ) (new : Bytes) → j + length new ≤ 512 →
        put (encode (with_height s (suc i) x)) (576 + 16 * last s + 864 * i + (352 + j)) new ≡ encode
        (with_height s (suc i) (with_vote_digests x (put x.vote_digests j new)))
    unfolding with_vote_digests content_bytes body_bytes
    write_vote_digests j new h =
        let e : 352 + j ≡ 176 + (176 + j) = omega arith in
        body_put s shaped i inside x (with_vote_digests x (put x.vote_digests j new)) fits (352 + j) new (omega arith)
        refl
        (sym (rw e (put_after x.proposal (x.notarized ++ x.vote_digests) 176 fits.proposal_size (176 + j) new ∙
        rw (put_after x.notarized x.vote_digests 176 fits.notarized_size j new))))
