-- What a frame keeps of a height is another height than before, kind by kind.
use Rattle.std.specs.Prelude.{ℕ, ◌≤◌, ◌≡◌, refl, ◌≢◌, eqb}
use Rattle.std.proofs.Common.{arith, ◌∙◌}
use Rattle.std.proofs.Math.Path.{sym, ap}
use Rattle.std.proofs.Math.Option.{Option}
use Rattle.std.proofs.Math.Pow.{pow_pos}
use borrow.Author.Tests.{eqb-false}
use Rattle.protocol.specs.Bytes.{Bytes}
use Rattle.protocol.specs.Mask.{in_mask, union}
use Rattle.protocol.specs.Frame.{signer, signer_mask, frame_digest, frame_block}
use Rattle.protocol.specs.State.{Height, holds_proposal, is_notarized}
use Rattle.protocol.specs.View.{View}
use Rattle.protocol.specs.Deliver.{with_proposal, with_notarized, with_masks, with_vote, notarize, keep_proposal}
use Rattle.protocol.specs.Deliver.{keep_block_vote, keep_dummy_vote, keep_finalize, keep_block_certificate}
use Rattle.protocol.specs.Deliver.{keep_dummy_certificate, keep_finalize_certificate}
use Rattle.protocol.proofs.Laws.TestsLaws.{cond-elim}
use Rattle.protocol.proofs.Laws.DeliverLaws.{OnSome, notarize_cases}

module _ (digest : Bytes → Bytes) (v : View) (frame : Bytes) (x : Height) where
  abbrev pub Other : Option Height → Type 0
  Other o = OnSome (λ (y : Height). y ≢ x) o

  same_voters : (z : Height) → (notarize digest v z).voter_mask ≡ z.voter_mask
  same_voters z =
      notarize_cases digest v z (λ (y : Height). y.voter_mask ≡ z.voter_mask)
      (λ _. unfold with_notarized in refl) (λ _. refl)

  more_status : (z : Height) → z.status ≤ (notarize digest v z).status
  more_status z =
      notarize_cases digest v z (λ (y : Height). z.status ≤ y.status)
      (λ _. unfold with_notarized in omega arith) (λ _. omega arith)

  pub proposal_other : Other (keep_proposal digest v x frame)
  unfolding keep_proposal with_proposal
  proposal_other = cond-elim Other (holds_proposal x) (λ _. tt) (λ _ same.
      absurd (omega (arith, more_status (with_proposal x (frame_block frame)), ap (λ (y : Height). y.status) same)))

  pub vote_other : Other (keep_block_vote digest v x frame)
  unfolding keep_block_vote with_vote
  vote_other = cond-elim Other (in_mask x.voter_mask (signer frame)) (λ _. tt) (λ _ same.
      let kept = same_voters (with_vote x (signer frame) (frame_digest frame)) in
      absurd (omega (arith, pow_pos (signer frame), sym kept ∙ ap (λ (y : Height). y.voter_mask) same)))

  pub dummy_other : Other (keep_dummy_vote x frame)
  unfolding keep_dummy_vote with_masks
  dummy_other = cond-elim Other (in_mask x.dummy_mask (signer frame)) (λ _. tt) (λ _ same.
      absurd (omega (arith, pow_pos (signer frame), ap (λ (y : Height). y.dummy_mask) same)))

  pub finalize_other : Other (keep_finalize x frame)
  unfolding keep_finalize with_masks
  finalize_other = cond-elim Other (in_mask x.finalize_mask (signer frame)) (λ _. tt) (λ _ same.
      absurd (omega (arith, pow_pos (signer frame), ap (λ (y : Height). y.finalize_mask) same)))

  pub certificate_other : Other (keep_block_certificate x frame)
  unfolding keep_block_certificate with_notarized
  certificate_other = cond-elim Other (is_notarized x) (λ _. tt)
      (λ _ same. absurd (omega (arith, ap (λ (y : Height). y.status) same)))

  pub dummy_certificate_other : (n : ℕ) → Other (keep_dummy_certificate n x frame)
  unfolding keep_dummy_certificate with_masks
  dummy_certificate_other n = cond-elim Other (eqb (union n x.dummy_mask (signer_mask frame)) x.dummy_mask)
      (λ _. tt) (λ e same.
      eqb-false _ _ e (ap (λ (y : Height). y.dummy_mask) same))

  pub finalize_certificate_other : (n : ℕ) → Other (keep_finalize_certificate n x frame)
  unfolding keep_finalize_certificate with_masks
  finalize_certificate_other n = cond-elim Other
      (eqb (union n x.finalize_mask (signer_mask frame)) x.finalize_mask) (λ _. tt) (λ e same.
      eqb-false _ _ e (ap (λ (y : Height). y.finalize_mask) same))
