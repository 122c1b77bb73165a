-- The parts of a height that a delivery leaves, the mask that grows, and the block once the votes are counted.
use Rattle.std.specs.Prelude.{ℕ, ◌<◌, ◌≡◌, true, false, ◌||◌, eqb}
use Rattle.std.proofs.Math.Path.{refl}
use Rattle.std.proofs.Common.{sym, ◌∙◌, inl, true≢false}
use Rattle.std.proofs.Math.Logic.{inr}
use Rattle.std.proofs.lemmas.Bool.{eqb-false}
use Rattle.protocol.specs.Bytes.{Bytes}
use Rattle.protocol.specs.Mask.{in_mask}
use Rattle.protocol.specs.State.{Height, holds_proposal, is_notarized, vote_of}
use Rattle.protocol.specs.View.{View, quorum}
use Rattle.protocol.specs.Deliver.{with_notarized, voters_for, notarize}
use Rattle.protocol.proofs.Laws.DeliverLaws.{notarize_cases}
use Rattle.call_laws.specs.Keeping.{says, NewlyKept, KeepsMasks, KeepsVotes, KeepsProposal, KeepsBlock, Voted}
use Rattle.call_laws.specs.Keeping.{Tallied, ByVotes, held_voters}
use Rattle.call_laws.proofs.Laws.HeightBitsLaws.{or_none, holds_notarized, is_notarized_lem}

module _ (n k : ℕ) (frame : Bytes) (x y : Height) where
  -- one of two masks says more, by what the frame states
  pub more_dummies : ((t : ℕ) → says k 4 7 frame t ≡ false) → y.finalize_mask ≡ x.finalize_mask →
      ((t : ℕ) → t < n → in_mask y.dummy_mask t ≡ (in_mask x.dummy_mask t || says k 3 6 frame t)) →
      KeepsMasks n k frame x y
  more_dummies others e bits = record { dummies = bits; finalizes = λ t l. rw (e, others t) (or_none _) }

  pub more_finalizes : ((t : ℕ) → says k 3 6 frame t ≡ false) → y.dummy_mask ≡ x.dummy_mask →
      ((t : ℕ) → t < n → in_mask y.finalize_mask t ≡ (in_mask x.finalize_mask t || says k 4 7 frame t)) →
      KeepsMasks n k frame x y
  more_finalizes other e bits = record { dummies = λ t l. rw (e, other t) (or_none _); finalizes = bits }

  pub same_masks : ((t : ℕ) → says k 3 6 frame t ≡ false) → ((t : ℕ) → says k 4 7 frame t ≡ false) →
      y.dummy_mask ≡ x.dummy_mask → y.finalize_mask ≡ x.finalize_mask → KeepsMasks n k frame x y
  same_masks other others e e' = more_dummies others e' (λ t l. rw (e, other t) (or_none _))

  pub same_votes : eqb k 2 ≡ false → y.voter_mask ≡ x.voter_mask → y.vote_digests ≡ x.vote_digests →
      KeepsVotes n k frame x y
  unfolding vote_of
  same_votes other e e' = record {
    voters = λ t l. rw (e, other) (or_none _);
    first_vote = λ t has. rw e';
    this_vote = λ is. absurd (eqb-false k 2 other is);
  }

  pub same_proposal : eqb k 1 ≡ false → holds_proposal y ≡ holds_proposal x → y.proposal ≡ x.proposal →
      KeepsProposal n k frame x y
  same_proposal other e e' = record {
    holds = rw (other, e) (or_none _);
    first_proposal = λ has. e';
    this_proposal = λ is. absurd (eqb-false k 1 other is);
  }

module _ (digest : Bytes → Bytes) (v : View) (k : ℕ) (frame : Bytes) (x : Height) where
  pub same_block : (y : Height) → eqb k 5 ≡ false → is_notarized y ≡ is_notarized x → y.notarized ≡ x.notarized →
      y.certificate_mask ≡ x.certificate_mask →
      (NewlyKept k frame x → Tallied digest v y) → (Tallied digest v x → Tallied digest v y) →
      KeepsBlock digest v k frame x y
  same_block y other e e' e'' count tally = record {
    first_block_lem = λ has. (e ∙ has, e', e'');
    this_block = λ is. absurd (eqb-false k 5 other is);
    this_certificate = λ is _. absurd (eqb-false k 5 other is);
    counted = count;
    tallied = tally;
    only_so = λ has. inl (sym e ∙ has);
  }

module _ (digest : Bytes → Bytes) (v : View) (k : ℕ) (frame : Bytes) (x : Height) (new : NewlyKept k frame x) where
  -- after a proposal or a vote was kept in `z`, its votes are counted
  module _ (z : Height) (other : eqb k 5 ≡ false) (status : is_notarized z ≡ is_notarized x)
      (block : z.notarized ≡ x.notarized) (mask : z.certificate_mask ≡ x.certificate_mask) where
    by_votes : holds_proposal z ≡ true → quorum v (held_voters digest v z) ≡ true →
        ByVotes digest v (with_notarized z (held_voters digest v z) z.proposal)
    unfolding ByVotes Voted with_notarized voters_for vote_of
    by_votes held enough = ((holds_notarized z (held_voters digest v z) z.proposal ∙ held, enough), refl, refl)

    overlooked : (holds_proposal z ≡ true → quorum v (held_voters digest v z) ≡ true → is_notarized z ≡ true) →
        Tallied digest v z
    unfolding Tallied Voted
    overlooked e (held, enough) = e held enough

    pub counted : KeepsBlock digest v k frame x (notarize digest v z)
    unfolding Tallied
    counted =
        notarize_cases digest v z (KeepsBlock digest v k frame x)
        (λ votes. record {
          first_block_lem = λ has. absurd (true≢false (sym (status ∙ has) ∙ votes.free));
          this_block = λ is. absurd (eqb-false k 5 other is);
          this_certificate = λ is _. absurd (eqb-false k 5 other is);
          counted = λ _ _. is_notarized_lem z _ _;
          tallied = λ _ _. is_notarized_lem z _ _;
          only_so = λ has. inr (inr (new, by_votes votes.held votes.enough));
        })
        (λ e. same_block digest v k frame x z other status block mask (λ _. overlooked e) (λ _. overlooked e))
