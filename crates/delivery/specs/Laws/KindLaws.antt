-- The kind of a frame that is read decides what it keeps: a proposal, a vote, a block, or signers that join a mask.
use Rattle.std.specs.Prelude.{ℕ, ◌+◌, ◌^◌, ◌≤◌, ◌<◌, ◌≡◌, ◌≢◌, true, false, ◌||◌, cond, eqb}
use Rattle.std.proofs.Common.{arith, sym, ap, ◌∙◌, ⊎_elim, true≢false, eqb-true}
use Rattle.std.proofs.Math.Option.{some, none}
use Rattle.protocol.specs.Bytes.{Bytes}
use Rattle.protocol.specs.Frame.{kind, signer, signer_mask}
use Rattle.protocol.specs.Mask.{in_mask, union}
use Rattle.protocol.specs.State.{State, Height, at, decode}
use Rattle.protocol.specs.Sound.{view}
use Rattle.protocol.proofs.Laws.TestsLaws.{or_either, le_or_lt}
use Rattle.protocol.specs.Deliver.{keep, keep_proposal, keep_block_vote, keep_dummy_vote, keep_finalize, keep_block_certificate}
use Rattle.protocol.specs.Deliver.{keep_dummy_certificate, keep_finalize_certificate}
use Rattle.protocol.proofs.Laws.DeliverLaws.{statement_kind, certificate_kind_lem, keep_proposal_lem, keep_block_vote_lem}
use Rattle.protocol.proofs.Laws.DeliverLaws.{keep_dummy_vote_lem, keep_finalize_lem, keep_block_certificate_lem}
use Rattle.protocol.proofs.Laws.DeliverLaws.{keep_dummy_certificate_lem, keep_finalize_certificate_lem}
use Rattle.book_fields.specs.Numbered.{mask_at, with_mask_at}
use Rattle.frames.specs.Parts.{signers_of}
use Rattle.frames.specs.Laws.PartLaws.{one_signed, many_signed}
use Rattle.delivery.specs.Kept.{join_signers}
use Rattle.frame_refusals.specs.Given.{Read}
use Rattle.delivery.specs.Laws.JoinLaws.{vote_joins, signers_join}

module _ (digest : Bytes → Bytes) (book : Bytes) (h : ℕ) (frame : Bytes) (given : Read book h frame) where
  abbrev s : State
  s = decode book

  abbrev x : Height
  x = at s h

  pub kind_one : kind frame ≡ 1 → keep digest s frame ≡ keep_proposal digest (view s) x frame
  kind_one e = rw given.height (keep_proposal_lem digest s frame e)

  pub kind_two : kind frame ≡ 2 → keep digest s frame ≡ keep_block_vote digest (view s) x frame
  kind_two e = rw given.height (keep_block_vote_lem digest s frame e)

  pub kind_five : kind frame ≡ 5 → keep digest s frame ≡ keep_block_certificate x frame
  kind_five e = rw given.height (keep_block_certificate_lem digest s frame e)

  -- the signer of a statement joins mask `k`, and so do the signers of a certificate
  module _ (k : ℕ) (fits : mask_at x k < 2 ^ s.n) where
    vote_joined : kind frame ≤ 4 → cond (in_mask (mask_at x k) (signer frame)) none
        (some (with_mask_at x k (mask_at x k + 2 ^ signer frame))) ≡ join_signers k x (signers_of frame)
    unfolding join_signers
    vote_joined l = rw (one_signed frame (statement_kind (kind frame) given.read.kind_low l))
        (vote_joins (mask_at x k) (with_mask_at x k) s.n fits (signer frame) (given.read.signer_small l))

    certificate_joined : 5 ≤ kind frame →
        (let mask : ℕ = union s.n (mask_at x k) (signer_mask frame) in
        cond (eqb mask (mask_at x k)) none (some (with_mask_at x k mask))) ≡ join_signers k x (signers_of frame)
    unfolding join_signers
    certificate_joined l = rw (many_signed frame (certificate_kind_lem (kind frame) l))
        (signers_join (mask_at x k) (with_mask_at x k) s.n fits (signer_mask frame) (given.read.mask_small l))

  pub dummy_joins : (eqb (kind frame) 3 || eqb (kind frame) 6) ≡ true →
      keep digest s frame ≡ join_signers 1 x (signers_of frame)
  dummy_joins e =
      ⊎_elim (λ a. vote (eqb-true (kind frame) 3 a)) (λ b. certificate (eqb-true (kind frame) 6 b))
      (or_either (eqb (kind frame) 3) (eqb (kind frame) 6) e)
    where
      vote : kind frame ≡ 3 → keep digest s frame ≡ join_signers 1 x (signers_of frame)
      vote k = keep_dummy_vote_lem digest s frame k ∙ unfold keep_dummy_vote in
          rw (← given.height) (vote_joined 1 given.range.dummy_below (omega arith))

      certificate : kind frame ≡ 6 → keep digest s frame ≡ join_signers 1 x (signers_of frame)
      certificate k = keep_dummy_certificate_lem digest s frame k ∙ unfold keep_dummy_certificate in
          rw (← given.height) (certificate_joined 1 given.range.dummy_below (omega arith))

  pub finalize_joins : kind frame ≢ 1 → kind frame ≢ 2 → kind frame ≢ 5 →
      (eqb (kind frame) 3 || eqb (kind frame) 6) ≡ false → keep digest s frame ≡ join_signers 2 x (signers_of frame)
  finalize_joins f1 f2 f5 e =
      let f3 : kind frame ≢ 3 = λ p. true≢false (sym (ap (λ (k : ℕ). eqb k 3 || eqb k 6) p) ∙ e) in
      let f6 : kind frame ≢ 6 = λ p. true≢false (sym (ap (λ (k : ℕ). eqb k 3 || eqb k 6) p) ∙ e) in
      ⊎_elim (λ l. vote (omega (arith, given.read.kind_low)))
      (λ l. certificate (omega (arith, given.read.kind_high))) (le_or_lt (kind frame) 4)
    where
      vote : kind frame ≡ 4 → keep digest s frame ≡ join_signers 2 x (signers_of frame)
      vote k = keep_finalize_lem digest s frame k ∙ unfold keep_finalize in
          rw (← given.height) (vote_joined 2 given.range.finalize_below (omega arith))

      certificate : kind frame ≡ 7 → keep digest s frame ≡ join_signers 2 x (signers_of frame)
      certificate k = keep_finalize_certificate_lem digest s frame k ∙ unfold keep_finalize_certificate in
          rw (← given.height) (certificate_joined 2 given.range.finalize_below (omega arith))
