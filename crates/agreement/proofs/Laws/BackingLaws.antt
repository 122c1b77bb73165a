-- What is kept of a height is backed by statements and blocks that were delivered.
use Rattle.std.specs.Prelude.{ℕ, ◌+◌, ◌%◌, ◌^◌, ◌≡◌, Bool, false, ◌&&◌}
use native.Mathlib.Omega.{arith}
use Rattle.std.proofs.Math.Bool.{true}
use Rattle.std.proofs.Math.Dec.{eqb, leb}
use borrow.Author.Tests.{eqb-false, leb-true, le-leb}
use Rattle.protocol.specs.Bytes.{Bytes, same}
use Rattle.protocol.specs.Deliver.{notarize, voters_for, with_masks, with_notarized, with_proposal, with_vote}
use Rattle.protocol.proofs.Laws.DeliverLaws.{notarize_cases}
use Rattle.protocol.specs.Mask.{in_mask}
use Rattle.protocol.proofs.Laws.MaskLaws.{in_mask-mask_of}
use Rattle.protocol.proofs.Laws.RowLaws.{same_eq}
use Rattle.protocol.specs.State.{Height, holds_proposal, is_notarized, vote_of}
use Rattle.protocol.proofs.Laws.TestsLaws.{and_both}
use Rattle.protocol.specs.View.{View}
use Rattle.agreement.specs.Lists.{Statement, finalizes, votes_block, votes_dummy}

module _ (digest : Bytes → Bytes) where
  -- `W t st`: replica `t` has stated `st`; `S p`: block `p` has been seen
  module _ (W : ℕ → Statement → Type 0) (S : Bytes → Type 0) where
    -- what a book of any kind shows of height `h`: three masks, and the notarized block, if there is one
    pub record Shown (h dummy_mask finalize_mask certificate_mask : ℕ) (has_block : Bool) (block : Bytes) : Type 0 where
      pub dummies : (t : ℕ) → in_mask dummy_mask t ≡ true → W t (votes_dummy h)
      pub finalizations : (t : ℕ) → in_mask finalize_mask t ≡ true → W t (finalizes h)
      pub certifiers : (t : ℕ) → in_mask certificate_mask t ≡ true → W t (votes_block h (digest block))
      pub notarized_seen : has_block ≡ true → S block

    -- what only a replica keeps: votes for blocks, and the held proposal
    pub record Held (h : ℕ) (x : Height) : Type 0 where
      pub ballots : (t : ℕ) → in_mask x.voter_mask t ≡ true → W t (votes_block h (vote_of x t))
      pub proposal_seen : holds_proposal x ≡ true → S x.proposal

    abbrev pub ShownOf : ℕ → Height → Type 0
    ShownOf h x = Shown h x.dummy_mask x.finalize_mask x.certificate_mask (is_notarized x) x.notarized

    pub record Backed (h : ℕ) (x : Height) : Type 0 where
      pub shown : ShownOf h x
      pub held : Held h x

  -- more is stated and seen later
  module _ {W W' : ℕ → Statement → Type 0} {S S' : Bytes → Type 0} {h : ℕ}
      (states : (t : ℕ) (st : Statement) → W t st → W' t st) (sees : (p : Bytes) → S p → S' p) where
    pub shown_later : {d f c : ℕ} {has : Bool} {block : Bytes} → Shown W S h d f c has block →
        Shown W' S' h d f c has block
    shown_later k = record {
      dummies = λ t e. states t _ (k.dummies t e);
      finalizations = λ t e. states t _ (k.finalizations t e);
      certifiers = λ t e. states t _ (k.certifiers t e);
      notarized_seen = λ e. sees _ (k.notarized_seen e);
    }

    pub later : {x : Height} → Backed W S h x → Backed W' S' h x
    later k = record {
      shown = shown_later k.shown;
      held = record {
        ballots = λ t e. states t _ (k.held.ballots t e);
        proposal_seen = λ e. sees _ (k.held.proposal_seen e);
      };
    }

  -- ---- the ways to keep something that every book shows
  module _ {W : ℕ → Statement → Type 0} {S : Bytes → Type 0} {h d f c : ℕ} {has : Bool} {block : Bytes}
      (k : Shown W S h d f c has block) where
    pub shown_dummies : (mask : ℕ) → ((t : ℕ) → in_mask mask t ≡ true → W t (votes_dummy h)) →
        Shown W S h mask f c has block
    shown_dummies mask voted = record {
      dummies = voted;
      finalizations = k.finalizations;
      certifiers = k.certifiers;
      notarized_seen = k.notarized_seen;
    }

    pub shown_finalizations : (mask : ℕ) → ((t : ℕ) → in_mask mask t ≡ true → W t (finalizes h)) →
        Shown W S h d mask c has block
    shown_finalizations mask voted = record {
      dummies = k.dummies;
      finalizations = voted;
      certifiers = k.certifiers;
      notarized_seen = k.notarized_seen;
    }

    pub shown_notarized : (mask : ℕ) (p : Bytes) →
        ((t : ℕ) → in_mask mask t ≡ true → W t (votes_block h (digest p))) → S p →
        (now : Bool) → Shown W S h d f mask now p
    shown_notarized mask p voted seen now = record {
      dummies = k.dummies;
      finalizations = k.finalizations;
      certifiers = voted;
      notarized_seen = λ e. seen;
    }

  module _ {W : ℕ → Statement → Type 0} {S : Bytes → Type 0} {h : ℕ} {x : Height} (k : Backed W S h x) where
    -- ---- the ways to keep something
    pub backed_dummies : (m : ℕ) → ((t : ℕ) → in_mask m t ≡ true → W t (votes_dummy h)) →
        Backed W S h (with_masks x m x.finalize_mask)
    unfolding with_masks holds_proposal is_notarized vote_of
    backed_dummies m f = record {
      shown = shown_dummies k.shown m f;
      held = record { ballots = k.held.ballots; proposal_seen = k.held.proposal_seen };
    }

    pub backed_finalizations : (m : ℕ) → ((t : ℕ) → in_mask m t ≡ true → W t (finalizes h)) →
        Backed W S h (with_masks x x.dummy_mask m)
    unfolding with_masks holds_proposal is_notarized vote_of
    backed_finalizations m f = record {
      shown = shown_finalizations k.shown m f;
      held = record { ballots = k.held.ballots; proposal_seen = k.held.proposal_seen };
    }

    pub backed_notarized : (m : ℕ) (p : Bytes) → ((t : ℕ) → in_mask m t ≡ true → W t (votes_block h (digest p))) → S p →
        Backed W S h (with_notarized x m p)
    unfolding with_notarized holds_proposal is_notarized vote_of
    backed_notarized m p f s = record {
      shown = shown_notarized k.shown m p f s _;
      held = record { ballots = k.held.ballots; proposal_seen = λ e. k.held.proposal_seen (parity e) };
    }
      where
        parity : eqb ((x.status + 2) % 2) 1 ≡ true → eqb (x.status % 2) 1 ≡ true
        parity e = let q : (x.status + 2) % 2 ≡ x.status % 2 = omega arith in (rw q at e)

    pub backed_proposal : (p : Bytes) → holds_proposal x ≡ false → S p → Backed W S h (with_proposal x p)
    unfolding with_proposal holds_proposal is_notarized vote_of
    backed_proposal p n s = record {
      shown = record {
        dummies = k.shown.dummies;
        finalizations = k.shown.finalizations;
        certifiers = k.shown.certifiers;
        notarized_seen = λ e. k.shown.notarized_seen (order e);
      };
      held = record { ballots = k.held.ballots; proposal_seen = λ e. s };
    }
      where
        order : leb 2 (x.status + 1) ≡ true → leb 2 x.status ≡ true
        order e = let a = eqb-false (x.status % 2) 1 n in let b = leb-true 2 (x.status + 1) e in
            le-leb 2 x.status (omega arith)

    pub backed_vote : (s : ℕ) (d : Bytes) →
        ((t : ℕ) → in_mask (x.voter_mask + 2 ^ s) t ≡ true → W t (votes_block h (vote_of (with_vote x s d) t))) →
        Backed W S h (with_vote x s d)
    unfolding with_vote holds_proposal is_notarized vote_of
    backed_vote s d f = record {
      shown = k.shown;
      held = record { ballots = f; proposal_seen = k.held.proposal_seen };
    }

    pub backed_notarize : (v : View) → Backed W S h (notarize digest v x)
    unfolding voters_for
    backed_notarize v =
        notarize_cases digest v x (Backed W S h)
        (λ counted. backed_notarized _ x.proposal (λ t z. agreed t (in_mask-mask_of _ v.n t z).1)
        (k.held.proposal_seen counted.held))
        (λ _. k)
      where
        agreed : (t : ℕ) → (in_mask x.voter_mask t && same (vote_of x t) (digest x.proposal)) ≡ true →
            W t (votes_block h (digest x.proposal))
        agreed t e =
            let q = and_both (in_mask x.voter_mask t) (same (vote_of x t) (digest x.proposal)) e in
            rw (← same_eq (vote_of x t) (digest x.proposal) q.1) (k.held.ballots t q.0)
