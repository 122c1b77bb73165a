-- What a delivery keeps is backed by the frame that it reads.
use Rattle.std.specs.Prelude.{ℕ, ◌+◌, ◌^◌, ◌≤◌, ◌<◌, ◌≡◌, ◌⊎◌, true, false, not, [], ◌∷◌, eqb}
use Rattle.std.proofs.Common.{sym, ◌∙◌, inl, inr, true≢false}
use Rattle.std.proofs.Math.Option.{some}
use Rattle.protocol.specs.ReadFrame.{ReadFrame}
use Rattle.protocol.specs.SoundState.{ShapedHeight}
use Rattle.protocol.specs.Bytes.{Bytes}
use Rattle.protocol.proofs.Laws.ChangeLaws.{shaped_masks, shaped_notarized, shaped_proposal, shaped_vote}
use Rattle.protocol.specs.Deliver.{keep, keep_block_certificate, keep_block_vote, keep_dummy_certificate, keep_dummy_vote}
use Rattle.protocol.specs.Deliver.{keep_finalize, keep_finalize_certificate, keep_proposal, notarize, voters_for, with_masks}
use Rattle.protocol.specs.Deliver.{with_notarized, with_proposal, with_vote}
use Rattle.protocol.proofs.Laws.DeliverLaws.{OnSome, unless_known, block_size_lem, digest_size_lem, signer_few, keep_cases}
use Rattle.protocol.specs.Frame.{carries_block, frame_block, frame_digest, frame_height, kind, signer, signer_mask}
use Rattle.protocol.specs.Mask.{in_mask, union}
use Rattle.protocol.proofs.Laws.MaskLaws.{in_mask-add, in_mask-mask_of}
use Rattle.protocol.specs.Sound.{view}
use Rattle.protocol.specs.State.{Height, State, at, holds_proposal, is_notarized, vote_of}
use Rattle.protocol.specs.Tests.{all_of}
use Rattle.protocol.proofs.Laws.TestsLaws.{cond-elim, eqb_self, or_either}
use Rattle.protocol.specs.View.{View, quorum}
use Rattle.protocol.proofs.Laws.VoteLaws.{vote_same, vote_other}
use Rattle.agreement.proofs.Laws.BackingLaws.{Backed, backed_dummies, backed_finalizations, backed_notarize}
use Rattle.agreement.proofs.Laws.BackingLaws.{backed_notarized, backed_proposal, backed_vote}
use Rattle.agreement.specs.Lists.{Statement, block_in, finalizes, statement_of, votes_block, votes_dummy, when}

-- ---- what holds of every replica in a mask holds where the mask grows
module _ {Q : ℕ → Type 0} (mask : ℕ) (old : (t : ℕ) → in_mask mask t ≡ true → Q t) where
  with_one_lem : (s : ℕ) → in_mask mask s ≡ false → Q s → (t : ℕ) → in_mask (mask + 2 ^ s) t ≡ true → Q t
  with_one_lem s n new t e = go (in_mask-add mask s t n e)
    where
      go : (in_mask mask t ≡ true) ⊎ (t ≡ s) → Q t
      go (inl q) = old t q
      go (inr q) = rw q new

  with_all : (n other : ℕ) → ((t : ℕ) → in_mask other t ≡ true → Q t) → (t : ℕ) → in_mask (union n mask other) t ≡ true →
      Q t
  unfolding union
  with_all n other new t e = go (or_either (in_mask mask t) (in_mask other t) (in_mask-mask_of _ n t e).1)
    where
      go : (in_mask mask t ≡ true) ⊎ (in_mask other t ≡ true) → Q t
      go (inl q) = old t q
      go (inr q) = new t q

-- ---- sizes
shaped_notarize : (x : Height) → ShapedHeight x → (digest : Bytes → Bytes) (v : View) →
    ShapedHeight (notarize digest v x)
unfolding notarize
shaped_notarize x z digest v =
    cond-elim ShapedHeight (all_of (not (is_notarized x) ∷ holds_proposal x ∷ quorum v
    (voters_for x (digest x.proposal) v.n) ∷ []))
    (λ e. shaped_notarized x (voters_for x (digest x.proposal) v.n) x.proposal z.proposal_size z) (λ e. z)

-- ---- what a frame says, by its kind
module _ (f : Bytes) where
  carried_1 : kind f ≡ 1 → block_in f ≡ some (frame_block f)
  unfolding block_in when carries_block
  carried_1 e = rw e

  carried_5 : kind f ≡ 5 → block_in f ≡ some (frame_block f)
  unfolding block_in when carries_block
  carried_5 e = rw e

module _ (digest : Bytes → Bytes) (f : Bytes) where
  says_2 : kind f ≡ 2 → statement_of digest f (signer f) ≡ some (votes_block (frame_height f) (frame_digest f))
  unfolding statement_of when
  says_2 e = rw (e, eqb_self (signer f))

  says_3 : kind f ≡ 3 → statement_of digest f (signer f) ≡ some (votes_dummy (frame_height f))
  unfolding statement_of when
  says_3 e = rw (e, eqb_self (signer f))

  says_4 : kind f ≡ 4 → statement_of digest f (signer f) ≡ some (finalizes (frame_height f))
  unfolding statement_of when
  says_4 e = rw (e, eqb_self (signer f))

  says_5 : (t : ℕ) → kind f ≡ 5 → in_mask (signer_mask f) t ≡ true →
      statement_of digest f t ≡ some (votes_block (frame_height f) (digest (frame_block f)))
  unfolding statement_of when
  says_5 t e h = rw (e, h)

  says_6 : (t : ℕ) → kind f ≡ 6 → in_mask (signer_mask f) t ≡ true →
      statement_of digest f t ≡ some (votes_dummy (frame_height f))
  unfolding statement_of when
  says_6 t e h = rw (e, h)

  says_7 : (t : ℕ) → kind f ≡ 7 → in_mask (signer_mask f) t ≡ true →
      statement_of digest f t ≡ some (finalizes (frame_height f))
  unfolding statement_of when
  says_7 t e h = rw (e, h)

module _ (digest : Bytes → Bytes) {W : ℕ → Statement → Type 0} {S : Bytes → Type 0} (b : State) (f : Bytes)
    (k : Backed digest W S (frame_height f) (at b (frame_height f))) (z : ShapedHeight (at b (frame_height f)))
    (said : (t : ℕ) (st : Statement) → statement_of digest f t ≡ some st → W t st)
    (seen : (p : Bytes) → block_in f ≡ some p → S p)
    (read : ReadFrame b f) (most : b.n ≤ 16) where
  abbrev h : ℕ
  h = frame_height f

  abbrev x : Height
  x = at b h

  abbrev Good : Height → Type 0
  Good y = Backed digest W S h y × ShapedHeight y

  few : kind f ≡ 2 → signer f < 16
  few = signer_few read most

  keep_1 : kind f ≡ 1 → holds_proposal x ≡ false → Good (notarize digest (view b) (with_proposal x (frame_block f)))
  keep_1 e n = (
    backed_notarize digest (backed_proposal digest k (frame_block f) n (seen (frame_block f) (carried_1 f e))) (view b),
    shaped_notarize (with_proposal x (frame_block f)) (shaped_proposal x (frame_block f) (block_size_lem read) z) digest
        (view b),
  )

  keep_2 : kind f ≡ 2 → in_mask x.voter_mask (signer f) ≡ false →
      Good (notarize digest (view b) (with_vote x (signer f) (frame_digest f)))
  keep_2 e n = (
    backed_notarize digest
        (backed_vote digest k (signer f) (frame_digest f) (λ t q. vote t (in_mask-add x.voter_mask (signer f) t n q)))
        (view b),
    shaped_notarize (with_vote x (signer f) (frame_digest f))
        (shaped_vote x (signer f) (frame_digest f) (few e) (digest_size_lem read) z) digest
        (view b),
  )
    where
      voted : ℕ → Bytes
      voted t = vote_of (with_vote x (signer f) (frame_digest f)) t

      vote : (t : ℕ) → (in_mask x.voter_mask t ≡ true) ⊎ (t ≡ signer f) → W t (votes_block h (voted t))
      vote t (inl q) =
          rw (vote_other x (signer f) (frame_digest f) z (few e) (digest_size_lem read) t
          (λ (r : t ≡ signer f). true≢false (sym (rw r at q) ∙ n)))
          (k.held.ballots t q)
      vote t (inr q) = rw (q, vote_same x (signer f) (frame_digest f) z (few e) (digest_size_lem read))
          (said (signer f) _ (says_2 digest f e))

  keep_3 : kind f ≡ 3 → in_mask x.dummy_mask (signer f) ≡ false →
      Good (with_masks x (x.dummy_mask + 2 ^ signer f) x.finalize_mask)
  keep_3 e n =
      let voted = with_one_lem x.dummy_mask k.shown.dummies (signer f) n (said (signer f) _ (says_3 digest f e)) in
      (backed_dummies digest k _ voted, shaped_masks x _ _ z)

  keep_4 : kind f ≡ 4 → in_mask x.finalize_mask (signer f) ≡ false →
      Good (with_masks x x.dummy_mask (x.finalize_mask + 2 ^ signer f))
  keep_4 e n =
      let voted = with_one_lem x.finalize_mask k.shown.finalizations (signer f) n
      (said (signer f) _ (says_4 digest f e)) in
      (backed_finalizations digest k _ voted, shaped_masks x _ _ z)

  keep_5 : kind f ≡ 5 → Good (with_notarized x (signer_mask f) (frame_block f))
  keep_5 e = (
    backed_notarized digest k (signer_mask f) (frame_block f) (λ t q. said t _ (says_5 digest f t e q))
        (seen (frame_block f) (carried_5 f e)),
    shaped_notarized x (signer_mask f) (frame_block f) (block_size_lem read) z,
  )

  keep_6 : kind f ≡ 6 → Good (with_masks x (union b.n x.dummy_mask (signer_mask f)) x.finalize_mask)
  keep_6 e =
      let voted = with_all x.dummy_mask k.shown.dummies b.n (signer_mask f)
      (λ t q. said t _ (says_6 digest f t e q)) in
      (backed_dummies digest k _ voted, shaped_masks x _ _ z)

  keep_7 : kind f ≡ 7 → Good (with_masks x x.dummy_mask (union b.n x.finalize_mask (signer_mask f)))
  keep_7 e =
      let voted = with_all x.finalize_mask k.shown.finalizations b.n (signer_mask f)
      (λ t q. said t _ (says_7 digest f t e q)) in
      (backed_finalizations digest k _ voted, shaped_masks x _ _ z)

  pub keep_good : OnSome (λ (y : Height). Backed digest W S (frame_height f) y × ShapedHeight y) (keep digest b f)
  unfolding keep_proposal keep_block_vote keep_dummy_vote keep_finalize keep_block_certificate keep_dummy_certificate
      keep_finalize_certificate
  keep_good = keep_cases digest b f read (λ _. OnSome Good)
      (λ e. unless_known Good (holds_proposal x) (keep_1 e))
      (λ e. unless_known Good (in_mask x.voter_mask (signer f)) (keep_2 e))
      (λ e. unless_known Good (in_mask x.dummy_mask (signer f)) (keep_3 e))
      (λ e. unless_known Good (in_mask x.finalize_mask (signer f)) (keep_4 e))
      (λ e. unless_known Good (is_notarized x) (λ _. keep_5 e))
      (λ e. unless_known Good (eqb (union b.n x.dummy_mask (signer_mask f)) x.dummy_mask) (λ _. keep_6 e))
      (λ e. unless_known Good (eqb (union b.n x.finalize_mask (signer_mask f)) x.finalize_mask) (λ _. keep_7 e))
