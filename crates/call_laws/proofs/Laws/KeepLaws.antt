-- Each change that Deliver makes at a height leaves one that may take its place.
use Rattle.std.specs.Prelude.{ℕ, ◌+◌, ◌%◌, ◌^◌, ◌≤◌, ◌<◌, ◌≡◌, refl, ◌≢◌, true, false, length}
use Rattle.std.proofs.Common.{arith, sym, ◌∙◌, true≢false}
use borrow.Author.Tests.{eqb-true, eqb-false, eq-eqb, leb-true, leb-false, le-leb}
use Rattle.protocol.specs.SoundState.{ShapedHeight, SoundHeight}
use Rattle.protocol.specs.Bytes.{Bytes}
use Rattle.protocol.specs.Block.{block_well_formed}
use Rattle.protocol.specs.Mask.{in_mask, Within}
use Rattle.protocol.specs.State.{Height, holds_proposal, is_notarized}
use Rattle.protocol.specs.View.{View, quorum}
use Rattle.protocol.specs.Deliver.{with_proposal, with_notarized, with_masks, with_vote, voters_for, notarize}
use Rattle.protocol.proofs.Laws.DeliverLaws.{notarize_cases}
use Rattle.protocol.proofs.Laws.MaskLaws.{add_below, mask_of-below}
use Rattle.protocol.proofs.Laws.FormedLaws.{formed}
use Rattle.protocol.proofs.Laws.ChangeLaws.{shaped_proposal, shaped_notarized, shaped_masks, shaped_vote}
use Rattle.call_laws.proofs.Laws.HeightSoundLaws.{Replaces}

-- ---- what a status says
none_held : (x : Height) → holds_proposal x ≡ false → x.status % 2 ≡ 0
unfolding holds_proposal
none_held x e = let odd : x.status % 2 ≢ 1 = eqb-false _ _ e in omega arith

none_notarized : (x : Height) → is_notarized x ≡ false → x.status < 2
unfolding is_notarized
none_notarized x e = leb-false _ _ e

module _ (v : View) (h : ℕ) (x : Height) (was : ShapedHeight x) (is : SoundHeight v h x) where
  -- a height may take its own place
  pub replaces_self : Replaces v h x x
  replaces_self = record {
    shaped = was;
    sound = is;
    grown = record { keeps_block = λ has. (has, refl); more_dummies = λ t l e. e; more_finalizes = λ t l e. e };
  }

  pub masks_replace : (dummies finalizes : ℕ) → dummies < 2 ^ v.n → finalizes < 2 ^ v.n →
      Within v.n x.dummy_mask dummies → Within v.n x.finalize_mask finalizes →
      Replaces v h x (with_masks x dummies finalizes)
  unfolding with_masks is_notarized holds_proposal
  masks_replace dummies finalizes d f more more' = record {
    shaped = shaped_masks x dummies finalizes was;
    sound = record {
      leader_below = is.leader_below;
      status_small = is.status_small;
      certificate_below = is.certificate_below;
      dummy_below = d;
      finalize_below = f;
      voter_below = is.voter_below;
      proposal_formed = is.proposal_formed;
      notarized_formed = is.notarized_formed;
      certified = is.certified;
    };
    grown = record { keeps_block = λ has. (has, refl); more_dummies = more; more_finalizes = more' };
  }

  pub proposal_replaces : (block : Bytes) → holds_proposal x ≡ false → block_well_formed h block ≡ true →
      Replaces v h x (with_proposal x block)
  unfolding with_proposal
  proposal_replaces block free good = record {
    shaped = shaped_proposal x block (formed h block good).size was;
    sound = record {
      leader_below = is.leader_below;
      status_small = omega (arith, even, is.status_small);
      certificate_below = is.certificate_below;
      dummy_below = is.dummy_below;
      finalize_below = is.finalize_below;
      voter_below = is.voter_below;
      proposal_formed = λ held. good;
      notarized_formed = λ has. is.notarized_formed (before has);
      certified = λ has. is.certified (before has);
    };
    grown = record { keeps_block = λ has. (after has, refl); more_dummies = λ t l e. e; more_finalizes = λ t l e. e };
  }
    where
      even : x.status % 2 ≡ 0
      even = none_held x free

      before : is_notarized (with_proposal x block) ≡ true → is_notarized x ≡ true
      before has = unfold is_notarized in
          let two : 2 ≤ x.status + 1 = leb-true _ _ has in
          le-leb 2 x.status (omega (arith, even))

      after : is_notarized x ≡ true → is_notarized (with_proposal x block) ≡ true
      after has = unfold is_notarized in
          let two : 2 ≤ x.status = leb-true _ _ has in
          le-leb 2 (x.status + 1) (omega arith)

  pub vote_replaces : (s : ℕ) (digest : Bytes) → s < v.n → v.n ≤ 16 → in_mask x.voter_mask s ≡ false →
      length digest ≡ 32 → Replaces v h x (with_vote x s digest)
  unfolding with_vote is_notarized holds_proposal
  vote_replaces s digest small few new sized = record {
    shaped = shaped_vote x s digest (omega arith) sized was;
    sound = record {
      leader_below = is.leader_below;
      status_small = is.status_small;
      certificate_below = is.certificate_below;
      dummy_below = is.dummy_below;
      finalize_below = is.finalize_below;
      voter_below = add_below s v.n x.voter_mask small is.voter_below new;
      proposal_formed = is.proposal_formed;
      notarized_formed = is.notarized_formed;
      certified = is.certified;
    };
    grown = record { keeps_block = λ has. (has, refl); more_dummies = λ t l e. e; more_finalizes = λ t l e. e };
  }

module _ (v : View) (h : ℕ) (x y : Height) (fits : Replaces v h x y) where
  -- a block is notarized where none was
  pub notarized_replaces : (mask : ℕ) (block : Bytes) → is_notarized y ≡ false → mask < 2 ^ v.n → quorum v mask ≡ true →
      block_well_formed h block ≡ true → Replaces v h x (with_notarized y mask block)
  unfolding with_notarized
  notarized_replaces mask block free small enough good = record {
    shaped = shaped_notarized y mask block (formed h block good).size fits.shaped;
    sound = record {
      leader_below = fits.sound.leader_below;
      status_small = omega (arith, low);
      certificate_below = small;
      dummy_below = fits.sound.dummy_below;
      finalize_below = fits.sound.finalize_below;
      voter_below = fits.sound.voter_below;
      proposal_formed = λ held. fits.sound.proposal_formed (before held);
      notarized_formed = λ has. good;
      certified = λ has. enough;
    };
    grown = record {
      keeps_block = λ has. absurd (true≢false (sym (fits.grown.keeps_block has).0 ∙ free));
      more_dummies = fits.grown.more_dummies;
      more_finalizes = fits.grown.more_finalizes;
    };
  }
    where
      low : y.status < 2
      low = none_notarized y free

      before : holds_proposal (with_notarized y mask block) ≡ true → holds_proposal y ≡ true
      before held = unfold holds_proposal in
          let odd : (y.status + 2) % 2 ≡ 1 = eqb-true _ _ held in
          eq-eqb (y.status % 2) 1 (omega arith)

  module _ (digest : Bytes → Bytes) where
    pub notarize_replaces : Replaces v h x (notarize digest v y)
    notarize_replaces =
        notarize_cases digest v y (Replaces v h x)
        (λ votes. notarized_replaces _ y.proposal votes.free voters_below votes.enough
        (fits.sound.proposal_formed votes.held))
        (λ _. fits)
      where
        voters_below : voters_for y (digest y.proposal) v.n < 2 ^ v.n
        voters_below = unfold voters_for in mask_of-below _ v.n
