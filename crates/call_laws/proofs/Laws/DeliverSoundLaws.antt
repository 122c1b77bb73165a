-- Deliver leaves a sound state.
use Rattle.std.specs.Prelude.{ℕ, zero, suc, ◌+◌, ◌^◌, ◌≤◌, ◌≡◌, refl, eqb}
use Rattle.std.proofs.Common.{arith, subst}
use Rattle.std.proofs.Math.Option.{some}
use Rattle.protocol.specs.ReadFrame.{ReadFrame}
use Rattle.protocol.specs.SoundState.{ShapedHeight, SoundHeight, SoundState}
use Rattle.protocol.specs.Bytes.{Bytes}
use Rattle.protocol.specs.Mask.{in_mask, union, Within}
use Rattle.protocol.specs.Frame.{kind, signer, frame_height, signer_mask, frame_digest, frame_block, carries_block}
use Rattle.protocol.specs.State.{State, Height, at, last, holds_proposal, is_notarized, with_height}
use Rattle.protocol.specs.View.{View}
use Rattle.protocol.specs.Sound.{view}
use Rattle.protocol.specs.Deliver.{keep_dummy_vote, keep_finalize, keep_block_certificate, keep_dummy_certificate}
use Rattle.protocol.specs.Deliver.{keep_finalize_certificate, keep_proposal, keep_block_vote, keep, with_proposal, with_vote}
use Rattle.protocol.proofs.Laws.DeliverLaws.{OnSome, digest_size_lem, keep_cases}
use Rattle.protocol.proofs.Laws.MaskLaws.{in_mask-add-keep, add_below}
use Rattle.protocol.proofs.Laws.UnionLaws.{union_left, union_lt}
use Rattle.protocol.proofs.Laws.TestsLaws.{cond-elim}
use Rattle.protocol.proofs.Laws.PlaceLaws.{shaped_at}
use Rattle.call_laws.specs.Grows.{Grows}
use Rattle.call_laws.proofs.Laws.HeightSoundLaws.{Replaces, grows, with_height_sound}
use Rattle.call_laws.proofs.Laws.KeepLaws.{replaces_self, masks_replace, proposal_replaces, vote_replaces}
use Rattle.call_laws.proofs.Laws.KeepLaws.{notarized_replaces, notarize_replaces}

module _ (digest : Bytes → Bytes) (s : State) (is : SoundState digest s) (frame : Bytes) (read : ReadFrame s frame)
  where
    abbrev h : ℕ
    h = frame_height frame

    abbrev x : Height
    x = at s h

    abbrev v : View
    v = view s

    abbrev Fits : Height → Type 0
    Fits y = Replaces v h x y

    pub here : SoundHeight v h x
    here = is.each h read.low read.high

    pub shaped : ShapedHeight x
    shaped = go h read.low read.high
      where
        go : (k : ℕ) → 1 ≤ k → k ≤ last s → ShapedHeight (at s k)
        go zero low high = absurd (omega arith)
        go (suc i) low high = shaped_at s i is.shaped high

    -- ---- what each kind keeps
    same_mask : (mask : ℕ) → Within v.n mask mask
    same_mask mask t l e = e

    proposal_fits : kind frame ≡ 1 → OnSome Fits (keep_proposal digest v x frame)
    unfolding keep_proposal
    proposal_fits e = cond-elim (OnSome Fits) (holds_proposal x) (λ _. tt) (λ free.
        notarize_replaces v h x (with_proposal x (frame_block frame))
        (proposal_replaces v h x shaped here (frame_block frame) free
        (read.block_formed (unfold carries_block in rw e refl))) digest)

    vote_fits : kind frame ≡ 2 → OnSome Fits (keep_block_vote digest v x frame)
    unfolding keep_block_vote
    vote_fits e = cond-elim (OnSome Fits) (in_mask x.voter_mask (signer frame)) (λ _. tt) (λ new.
        notarize_replaces v h x (with_vote x (signer frame) (frame_digest frame))
        (vote_replaces v h x shaped here (signer frame) (frame_digest frame)
        (unfold view in read.signer_small (omega arith)) (unfold view in is.n_high) new (digest_size_lem read)) digest)

    dummy_fits : kind frame ≡ 3 → OnSome Fits (keep_dummy_vote x frame)
    unfolding keep_dummy_vote
    dummy_fits e = cond-elim (OnSome Fits) (in_mask x.dummy_mask (signer frame)) (λ _. tt) (λ new.
        masks_replace v h x shaped here (x.dummy_mask + 2 ^ signer frame) x.finalize_mask
        (add_below (signer frame) v.n x.dummy_mask (unfold view in read.signer_small (omega arith))
        here.dummy_below new) here.finalize_below
        (λ t l m. in_mask-add-keep x.dummy_mask (signer frame) t new m) (same_mask x.finalize_mask))

    finalize_fits : kind frame ≡ 4 → OnSome Fits (keep_finalize x frame)
    unfolding keep_finalize
    finalize_fits e = cond-elim (OnSome Fits) (in_mask x.finalize_mask (signer frame)) (λ _. tt) (λ new.
        masks_replace v h x shaped here x.dummy_mask (x.finalize_mask + 2 ^ signer frame) here.dummy_below
        (add_below (signer frame) v.n x.finalize_mask (unfold view in read.signer_small (omega arith))
        here.finalize_below new)
        (same_mask x.dummy_mask) (λ t l m. in_mask-add-keep x.finalize_mask (signer frame) t new m))

    block_certificate_fits : kind frame ≡ 5 → OnSome Fits (keep_block_certificate x frame)
    unfolding keep_block_certificate
    block_certificate_fits e = cond-elim (OnSome Fits) (is_notarized x) (λ _. tt) (λ free.
        notarized_replaces v h x x (replaces_self v h x shaped here) (signer_mask frame) (frame_block frame) free
        (unfold view in read.mask_small (omega arith)) (read.enough (omega arith))
        (read.block_formed (unfold carries_block in rw e refl)))

    dummy_certificate_fits : OnSome Fits (keep_dummy_certificate s.n x frame)
    unfolding keep_dummy_certificate view
    dummy_certificate_fits = cond-elim (OnSome Fits)
        (eqb (union v.n x.dummy_mask (signer_mask frame)) x.dummy_mask)
        (λ _. tt) (λ _.
        masks_replace v h x shaped here (union v.n x.dummy_mask (signer_mask frame)) x.finalize_mask
        (union_lt v.n x.dummy_mask (signer_mask frame)) here.finalize_below
        (λ t l m. union_left v.n x.dummy_mask (signer_mask frame) t l m) (same_mask x.finalize_mask))

    finalize_certificate_fits : OnSome Fits (keep_finalize_certificate s.n x frame)
    unfolding keep_finalize_certificate view
    finalize_certificate_fits = cond-elim (OnSome Fits)
        (eqb (union v.n x.finalize_mask (signer_mask frame)) x.finalize_mask) (λ _. tt) (λ _.
        masks_replace v h x shaped here x.dummy_mask (union v.n x.finalize_mask (signer_mask frame))
        here.dummy_below
        (union_lt v.n x.finalize_mask (signer_mask frame))
        (same_mask x.dummy_mask) (λ t l m. union_left v.n x.finalize_mask (signer_mask frame) t l m))

    keep_fits : OnSome Fits (keep digest s frame)
    keep_fits = keep_cases digest s frame read (λ _. OnSome Fits)
        proposal_fits vote_fits dummy_fits finalize_fits block_certificate_fits
        (λ _. dummy_certificate_fits) (λ _. finalize_certificate_fits)

    placed : (k : ℕ) → 1 ≤ k → k ≤ last s → (y : Height) → Replaces v k (at s k) y →
        SoundState digest (with_height s k y)
    placed zero low high y fits = absurd (omega arith)
    placed (suc i) low high y fits = with_height_sound s i high y digest is fits

    placed_grows : (k : ℕ) → 1 ≤ k → k ≤ last s → (y : Height) → Replaces v k (at s k) y →
        Grows v (view (with_height s k y))
    placed_grows zero low high y fits = absurd (omega arith)
    placed_grows (suc i) low high y fits = grows s i high y digest is fits

    -- what a frame keeps leaves all that was notarized, and every member of the masks
    pub keep_grows : (y : Height) → keep digest s frame ≡ some y → Grows v (view (with_height s h y))
    keep_grows y e = placed_grows h read.low read.high y (subst (OnSome Fits) e keep_fits)

    pub keep_sound : (y : Height) → keep digest s frame ≡ some y → SoundState digest (with_height s h y)
    keep_sound y e = placed h read.low read.high y (subst (OnSome Fits) e keep_fits)
