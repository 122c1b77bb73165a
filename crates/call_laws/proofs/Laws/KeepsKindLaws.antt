-- What each kind of frame keeps of a height, be the height new or kept as it is.
use Rattle.std.specs.Prelude.{ℕ, ◌+◌, ◌%◌, ◌<◌, ◌≡◌, ◌≢◌, Bool, cond, true, false, length, eqb}
use Rattle.std.proofs.Common.{arith, sym, ◌∙◌}
use Rattle.std.proofs.Math.Path.{refl}
use Rattle.std.proofs.Math.Logic.{inl, inr}
use Rattle.std.proofs.Math.Bool.{true≢false}
use Rattle.std.proofs.Math.Option.{Option, some, none}
use borrow.Author.Tests.{eqb-true, eqb-false, eq-eqb}
use Rattle.protocol.specs.SoundState.{ShapedHeight}
use Rattle.protocol.specs.Bytes.{Bytes}
use Rattle.protocol.specs.Mask.{in_mask}
use Rattle.protocol.specs.Frame.{signer, signer_mask, frame_digest, frame_block}
use Rattle.protocol.specs.State.{Height, holds_proposal, is_notarized, vote_of}
use Rattle.protocol.specs.View.{View}
use Rattle.protocol.specs.Deliver.{with_proposal, with_notarized, with_masks, with_vote, voters_for, notarize, keep_proposal}
use Rattle.protocol.specs.Deliver.{keep_block_vote, keep_dummy_vote, keep_finalize, keep_block_certificate}
use Rattle.protocol.specs.Deliver.{keep_dummy_certificate, keep_finalize_certificate}
use Rattle.protocol.proofs.Laws.UnionLaws.{union_bit}
use Rattle.protocol.proofs.Laws.TestsLaws.{cond-elim}
use Rattle.protocol.proofs.Laws.VoteLaws.{vote_same, vote_other}
use Rattle.protocol.proofs.Laws.DeliverLaws.{notarize_cases}
use Rattle.call_laws.proofs.Laws.DeliverSoundLaws.{shaped}
use Rattle.call_laws.specs.Keeping.{says, NewlyKept, KeepsMasks, KeepsVotes, KeepsProposal, KeepsBlock, KeepsAt}
use Rattle.call_laws.specs.Keeping.{Voted, Tallied, held_voters}
use Rattle.call_laws.proofs.Laws.HeightBitsLaws.{known_bit, known_bits, new_bit, holds_notarized, is_notarized_lem}
use Rattle.call_laws.proofs.Laws.HeightBitsLaws.{proposal_status}
use Rattle.call_laws.proofs.Laws.SamePartsLaws.{same_masks, more_dummies, more_finalizes, same_votes}
use Rattle.call_laws.proofs.Laws.SamePartsLaws.{same_proposal, same_block, counted}

-- the height after a delivery: the new one, or the old one where the frame is known
unfoldable pub left : Height → Option Height → Height
left x none = x
left x (some y) = y

module _ (digest : Bytes → Bytes) (v : View) (frame : Bytes) (x : Height) where
  abbrev pub Kept : ℕ → Option Height → Type 0
  Kept k o = KeepsAt digest v k frame x (left x o)

  -- the parts that counting the votes leaves alone
  pub record Before (k : ℕ) (y : Height) : Type 0 where
    pub leader : y.leader ≡ x.leader
    pub masks : KeepsMasks v.n k frame x y
    pub votes : KeepsVotes v.n k frame x y
    pub proposal : KeepsProposal v.n k frame x y

  notarized_too : (k : ℕ) (z : Height) (mask : ℕ) (block : Bytes) → Before k z → Before k (with_notarized z mask block)
  unfolding with_notarized vote_of
  notarized_too k z mask block is = record {
    leader = is.leader;
    masks = record { dummies = is.masks.dummies; finalizes = is.masks.finalizes };
    votes = record { voters = is.votes.voters; first_vote = is.votes.first_vote; this_vote = is.votes.this_vote };
    proposal = record {
      holds = holds_notarized z mask block ∙ is.proposal.holds;
      first_proposal = is.proposal.first_proposal;
      this_proposal = is.proposal.this_proposal;
    };
  }

  notarize_too : (k : ℕ) (z : Height) → Before k z → Before k (notarize digest v z)
  notarize_too k z is =
      notarize_cases digest v z (Before k)
      (λ _. notarized_too k z (held_voters digest v z) z.proposal is) (λ _. is)

  whole : (k : ℕ) (y : Height) → Before k y → KeepsBlock digest v k frame x y → KeepsAt digest v k frame x y
  whole k y is block = record {
    leader = is.leader;
    masks = is.masks;
    votes = is.votes;
    proposal =
        is.proposal;
    block = block;
  }

  known_block : (k : ℕ) → eqb k 5 ≡ false → (NewlyKept k frame x → ⊥) → KeepsBlock digest v k frame x x
  known_block k other known = same_block digest v k frame x x other refl refl refl (λ new. absurd (known new)) (λ t. t)

  -- a proposal where one is held, or a vote of a replica that voted, is not newly kept; nor is a frame of another kind
  not_new : (k : ℕ) → (k ≡ 1 → holds_proposal x ≡ true) → (k ≡ 2 → in_mask x.voter_mask (signer frame) ≡ true) →
      NewlyKept k frame x → ⊥
  unfolding NewlyKept
  not_new k held voted (inl (e, free)) = true≢false (sym (held e) ∙ free)
  not_new k held voted (inr (e, free)) = true≢false (sym (voted e) ∙ free)

  -- ---- kind 1
  new_proposal : holds_proposal x ≡ false → Before 1 (with_proposal x (frame_block frame))
  unfolding with_proposal holds_proposal vote_of says
  new_proposal free = record {
    leader = refl;
    masks = same_masks v.n 1 frame x (with_proposal x (frame_block frame)) (λ t. refl) (λ t. refl) refl refl;
    votes = same_votes v.n 1 frame x (with_proposal x (frame_block frame)) refl refl refl;
    proposal = record {
      holds = rw free (eq-eqb ((x.status + 1) % 2) 1 (omega (arith, odd)));
      first_proposal = λ held. absurd (true≢false (sym held ∙ free));
      this_proposal = λ _. refl;
    };
  }
    where
      odd : x.status % 2 ≢ 1
      odd = eqb-false _ _ free

  pub proposal_keeps : (holds_proposal x ≡ true → x.proposal ≡ frame_block frame) →
      Kept 1 (keep_proposal digest v x frame)
  unfolding keep_proposal left says
  proposal_keeps agrees =
      cond-elim (Kept 1) (holds_proposal x)
      (λ held. whole 1 x
      (record {
        leader = refl;
        masks = same_masks v.n 1 frame x x (λ t. refl) (λ t. refl) refl refl;
        votes = same_votes v.n 1 frame x x refl refl refl;
        proposal = record { holds = rw held; first_proposal = λ _. refl; this_proposal = λ _. agrees held };
      })
      (known_block 1 refl (not_new 1 (λ _. held) (λ e. absurd (omega arith)))))
      (λ free. whole 1 (notarize digest v (with_proposal x (frame_block frame)))
      (notarize_too 1 (with_proposal x (frame_block frame)) (new_proposal free))
      (counted digest v 1 frame x (unfold NewlyKept in inl (refl, free)) (with_proposal x (frame_block frame)) refl
      (proposal_status x (frame_block frame) free) (unfold with_proposal in refl) (unfold with_proposal in refl)))

  -- ---- kind 2
  module _ (shaped : ShapedHeight x) (few : signer frame < 16) (sized : length (frame_digest frame) ≡ 32) where
    new_vote : in_mask x.voter_mask (signer frame) ≡ false → Before 2 (with_vote x (signer frame) (frame_digest frame))
    unfolding says
    new_vote free = record {
      leader = unfold with_vote in refl;
      masks = same_masks v.n 2 frame x (with_vote x (signer frame) (frame_digest frame)) (λ t. refl) (λ t. refl)
          (unfold with_vote in refl) (unfold with_vote in refl);
      votes = record {
        voters = λ t l. unfold with_vote in new_bit x.voter_mask (signer frame) t free;
        first_vote = λ t has. vote_other x (signer frame) (frame_digest frame) shaped few sized t
            (λ e. true≢false (sym has ∙ rw e free));
        this_vote = λ _. vote_same x (signer frame) (frame_digest frame) shaped few sized;
      };
      proposal = same_proposal v.n 2 frame x (with_vote x (signer frame) (frame_digest frame)) refl
          (unfold with_vote holds_proposal in refl) (unfold with_vote in refl);
    }

    pub vote_keeps : (in_mask x.voter_mask (signer frame) ≡ true → vote_of x (signer frame) ≡ frame_digest frame) →
        Kept 2 (keep_block_vote digest v x frame)
    unfolding keep_block_vote left says
    vote_keeps agrees =
        cond-elim (Kept 2) (in_mask x.voter_mask (signer frame))
        (λ has. whole 2 x
        (record {
          leader = refl;
          masks = same_masks v.n 2 frame x x (λ t. refl) (λ t. refl) refl refl;
          votes = record {
            voters = λ t l. known_bit x.voter_mask (signer frame) t has;
            first_vote = λ t _. refl;
            this_vote = λ _. agrees has;
          };
          proposal = same_proposal v.n 2 frame x x refl refl refl;
        })
        (known_block 2 refl (not_new 2 (λ e. absurd (omega arith)) (λ _. has))))
        (λ free. whole 2 (notarize digest v (with_vote x (signer frame) (frame_digest frame)))
        (notarize_too 2 (with_vote x (signer frame) (frame_digest frame)) (new_vote free))
        (counted digest v 2 frame x (unfold NewlyKept in inr (refl, free))
        (with_vote x (signer frame) (frame_digest frame)) refl
        (unfold with_vote is_notarized in refl) (unfold with_vote in refl) (unfold with_vote in refl)))

  -- ---- kinds 3, 4, 6 and 7: one of two masks grows
  other_kind : (k : ℕ) → eqb k 1 ≡ false → eqb k 2 ≡ false → NewlyKept k frame x → ⊥
  other_kind k one two = not_new k (λ e. absurd (eqb-false k 1 one e)) (λ e. absurd (eqb-false k 2 two e))

  -- the masks are kept by a height that has them already, or by one with these two
  masks_keep : (k : ℕ) → eqb k 1 ≡ false → eqb k 2 ≡ false → eqb k 5 ≡ false → (has : Bool) (a b : ℕ) →
      (has ≡ true → KeepsMasks v.n k frame x x) → (has ≡ false → KeepsMasks v.n k frame x (with_masks x a b)) →
      Kept k (cond has none (some (with_masks x a b)))
  unfolding left
  masks_keep k one two five has a b old new = cond-elim (Kept k) has
      (λ e. record {
        leader = refl;
        masks = old e;
        votes = same_votes v.n k frame x x two refl refl;
        proposal = same_proposal v.n k frame x x one refl refl;
        block = known_block k five (other_kind k one two);
      })
      (λ e. unfold with_masks holds_proposal is_notarized vote_of voters_for Tallied Voted in record {
        leader = refl;
        masks = new e;
        votes = same_votes v.n k frame x (with_masks x a b) two refl refl;
        proposal = same_proposal v.n k frame x (with_masks x a b) one refl refl;
        block = same_block digest v k frame x (with_masks x a b) five refl refl refl
            (λ new. absurd (other_kind k one two new))
            (λ t. t);
      })

  pub dummy_keeps : Kept 3 (keep_dummy_vote x frame)
  unfolding keep_dummy_vote says with_masks
  dummy_keeps = masks_keep 3 refl refl refl _ _ _
      (λ has. more_dummies v.n 3 frame x x (λ t. refl) refl
      (λ t l. known_bit x.dummy_mask (signer frame) t has))
      (λ free. more_dummies v.n 3 frame x _ (λ t. refl) refl
      (λ t l. new_bit x.dummy_mask (signer frame) t free))

  pub finalize_keeps : Kept 4 (keep_finalize x frame)
  unfolding keep_finalize says with_masks
  finalize_keeps = masks_keep 4 refl refl refl _ _ _
      (λ has. more_finalizes v.n 4 frame x x (λ t. refl) refl
      (λ t l. known_bit x.finalize_mask (signer frame) t has))
      (λ free. more_finalizes v.n 4 frame x _ (λ t. refl) refl
      (λ t l. new_bit x.finalize_mask (signer frame) t free))

  pub dummy_certificate_keeps : Kept 6 (keep_dummy_certificate v.n x frame)
  unfolding keep_dummy_certificate says with_masks
  dummy_certificate_keeps = masks_keep 6 refl refl refl _ _ _
      (λ e. more_dummies v.n 6 frame x x (λ t. refl) refl
      (λ t l. known_bits x.dummy_mask (signer_mask frame) t l (eqb-true _ _ e)))
      (λ _. more_dummies v.n 6 frame x _ (λ t. refl) refl
      (λ t l. union_bit v.n x.dummy_mask (signer_mask frame) t l))

  pub finalize_certificate_keeps : Kept 7 (keep_finalize_certificate v.n x frame)
  unfolding keep_finalize_certificate says with_masks
  finalize_certificate_keeps = masks_keep 7 refl refl refl _ _ _
      (λ e. more_finalizes v.n 7 frame x x (λ t. refl) refl
      (λ t l. known_bits x.finalize_mask (signer_mask frame) t l (eqb-true _ _ e)))
      (λ _. more_finalizes v.n 7 frame x _ (λ t. refl) refl
      (λ t l. union_bit v.n x.finalize_mask (signer_mask frame) t l))

  -- ---- kind 5
  pub certificate_keeps : (is_notarized x ≡ true → x.notarized ≡ frame_block frame) →
      Kept 5 (keep_block_certificate x frame)
  unfolding keep_block_certificate left says Tallied
  certificate_keeps agrees =
      cond-elim (Kept 5) (is_notarized x)
      (λ has. whole 5 x same_parts
      (record {
        first_block_lem = λ is. (is, refl, refl);
        this_block = λ _. (has, agrees has);
        this_certificate = λ _ free. absurd (true≢false (sym has ∙ free));
        counted = λ new. absurd (other_kind 5 refl refl new);
        tallied = λ t. t;
        only_so = λ is. inl is;
      }))
      (λ free. whole 5 (with_notarized x (signer_mask frame) (frame_block frame))
      (notarized_too 5 x (signer_mask frame) (frame_block frame) same_parts)
      (record {
        first_block_lem = λ has. absurd (true≢false (sym has ∙ free));
        this_block = λ _. (is_notarized_lem x (signer_mask frame) (frame_block frame), unfold with_notarized in refl);
        this_certificate = λ _ _. unfold with_notarized in refl;
        counted = λ _ _. is_notarized_lem x (signer_mask frame) (frame_block frame);
        tallied = λ _ _. is_notarized_lem x (signer_mask frame) (frame_block frame);
        only_so = λ _. inr (inl refl);
      }))
    where
      same_parts : Before 5 x
      same_parts = record {
        leader = refl;
        masks = same_masks v.n 5 frame x x (λ t. refl) (λ t. refl) refl refl;
        votes = same_votes v.n 5 frame x x refl refl refl;
        proposal = same_proposal v.n 5 frame x x refl refl refl;
      }
