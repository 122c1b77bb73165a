-- A delivery writes only where `KeptBytes` says, and what it keeps is another height than before.
use Rattle.std.specs.Prelude.{ℕ, ◌+◌, ◌^◌, ◌<◌, ◌≡◌, ◌≢◌, true, false, cond, length, eqb}
use Rattle.std.proofs.Math.Path.{refl}
use Rattle.std.proofs.Common.{sym, subst, ◌∙◌}
use mathlib.Core.List.{List, [], ◌++◌}
use Rattle.std.proofs.Math.Option.{Option, some}
use Rattle.protocol.specs.ReadFrame.{ReadFrame}
use Rattle.protocol.specs.SoundState.{ShapedHeight, SoundState}
use Rattle.protocol.specs.Bytes.{Bytes}
use Rattle.protocol.specs.Mask.{in_mask, union}
use Rattle.protocol.specs.Frame.{kind, signer, frame_height, signer_mask, frame_digest, frame_block}
use Rattle.protocol.specs.State.{State, Height, at, last, encode, with_height, holds_proposal, is_notarized}
use Rattle.protocol.specs.View.{View}
use Rattle.protocol.specs.Sound.{view}
use Rattle.protocol.specs.Deliver.{with_proposal, with_notarized, with_vote, notarize, keep_proposal, keep_block_vote}
use Rattle.protocol.specs.Deliver.{keep_dummy_vote, keep_finalize, keep_block_certificate, keep_dummy_certificate}
use Rattle.protocol.specs.Deliver.{keep_finalize_certificate, keep}
use Rattle.protocol.proofs.Laws.TestsLaws.{cond-elim}
use Rattle.protocol.proofs.Laws.ChangeLaws.{shaped_proposal, shaped_vote}
use Rattle.protocol.proofs.Laws.DeliverLaws.{OnSome, digest_size_lem, block_size_lem, signer_few, keep_cases, notarize_cases}
use Rattle.call_laws.proofs.Laws.DeliverSoundLaws.{shaped}
use Rattle.call_laws.proofs.Laws.HeightBitsLaws.{is_notarized_lem, proposal_status}
use Rattle.call_laws.specs.KeptBytes.{Part, SameOutside, proposal_parts, vote_parts, notarized_parts, kept_parts}
use Rattle.call_laws.specs.KeptBytes.{newly_notarized}
use Rattle.call_laws.proofs.Laws.OutsideLaws.{both_outside, more_outside}
use Rattle.call_laws.proofs.Laws.ChangedPartsLaws.{Place, placed, proposal_outside, vote_outside, dummy_outside}
use Rattle.call_laws.proofs.Laws.ChangedPartsLaws.{finalize_outside, notarized_outside}
use Rattle.call_laws.proofs.Laws.KeptOtherLaws.{Other, proposal_other, vote_other, dummy_other, finalize_other}
use Rattle.call_laws.proofs.Laws.KeptOtherLaws.{certificate_other, dummy_certificate_other}
use Rattle.call_laws.proofs.Laws.KeptOtherLaws.{finalize_certificate_other}

module _ {s : State} {h : ℕ} (place : Place s h) where
  -- ---- each kind of frame, at a height `x` of the state
  module _ (digest : Bytes → Bytes) (v : View) (frame : Bytes) (x : Height) (fits : ShapedHeight x) where
    -- what a kind may write, and what the height that it leaves may notarize
    abbrev Writes : List Part → Height → Type 0
    Writes parts y =
        SameOutside (parts ++ cond (newly_notarized x y) (notarized_parts (last s) h) []) (placed place x)
        (placed place y)

    abbrev Only : ℕ → Option Height → Type 0
    Only k o = OnSome (Writes (kept_parts (last s) h k (signer frame))) o

    newly : (y : Height) (mask : ℕ) (block : Bytes) → is_notarized x ≡ false →
        newly_notarized x (with_notarized y mask block) ≡ true
    unfolding newly_notarized
    newly y mask block free = rw (free, is_notarized_lem y mask block)

    -- a block is notarized after a change that left `z`
    then_notarized : (parts : List Part) (z : Height) → ShapedHeight z →
        SameOutside parts (placed place x) (placed place z) →
        is_notarized x ≡ false →
        (mask : ℕ) (block : Bytes) → length block ≡ 176 → Writes parts (with_notarized z mask block)
    then_notarized parts z shape same free mask block size =
        rw (newly z mask block free) (both_outside same (notarized_outside place z shape mask block size))

    -- the votes are counted after a change that left `z`
    then_counted : (parts : List Part) (z : Height) → ShapedHeight z → is_notarized z ≡ is_notarized x →
        SameOutside parts (placed place x) (placed place z) → Writes parts (notarize digest v z)
    then_counted parts z shape status same =
        notarize_cases digest v z (Writes parts)
        (λ votes. then_notarized parts z shape same (sym status ∙ votes.free) _ z.proposal shape.proposal_size)
        (λ _. more_outside _ same)

    proposal_only : length (frame_block frame) ≡ 176 → Only 1 (keep_proposal digest v x frame)
    unfolding keep_proposal kept_parts
    proposal_only size = cond-elim (Only 1) (holds_proposal x) (λ _. tt) (λ free.
        then_counted (proposal_parts (last s) h) (with_proposal x (frame_block frame))
        (shaped_proposal x (frame_block frame) size fits)
        (proposal_status x (frame_block frame) free) (proposal_outside place x fits (frame_block frame) size))

    vote_only : signer frame < 16 → length (frame_digest frame) ≡ 32 → Only 2 (keep_block_vote digest v x frame)
    unfolding keep_block_vote kept_parts
    vote_only few size = cond-elim (Only 2) (in_mask x.voter_mask (signer frame)) (λ _. tt) (λ _.
        then_counted (vote_parts (last s) h (signer frame)) (with_vote x (signer frame) (frame_digest frame))
        (shaped_vote x (signer frame) (frame_digest frame) few size fits)
        (unfold with_vote is_notarized in refl) (vote_outside place x fits (signer frame) (frame_digest frame) few size))

    dummy_only : Only 3 (keep_dummy_vote x frame)
    unfolding keep_dummy_vote kept_parts
    dummy_only = cond-elim (Only 3) (in_mask x.dummy_mask (signer frame)) (λ _. tt)
        (λ _. more_outside _ (dummy_outside place x fits (x.dummy_mask + 2 ^ signer frame)))

    finalize_only : Only 4 (keep_finalize x frame)
    unfolding keep_finalize kept_parts
    finalize_only = cond-elim (Only 4) (in_mask x.finalize_mask (signer frame)) (λ _. tt)
        (λ _. more_outside _ (finalize_outside place x fits (x.finalize_mask + 2 ^ signer frame)))

    certificate_only : length (frame_block frame) ≡ 176 → Only 5 (keep_block_certificate x frame)
    unfolding keep_block_certificate kept_parts
    certificate_only size = cond-elim (Only 5) (is_notarized x) (λ _. tt) (λ free.
        then_notarized [] x fits (record { same_byte = λ _ _. refl }) free (signer_mask frame) (frame_block frame) size)

    dummy_certificate_only : (n : ℕ) → Only 6 (keep_dummy_certificate n x frame)
    unfolding keep_dummy_certificate kept_parts
    dummy_certificate_only n = cond-elim (Only 6) (eqb (union n x.dummy_mask (signer_mask frame)) x.dummy_mask)
        (λ _. tt) (λ _.
        more_outside _ (dummy_outside place x fits (union n x.dummy_mask (signer_mask frame))))

    finalize_certificate_only : (n : ℕ) → Only 7 (keep_finalize_certificate n x frame)
    unfolding keep_finalize_certificate kept_parts
    finalize_certificate_only n = cond-elim (Only 7)
        (eqb (union n x.finalize_mask (signer_mask frame)) x.finalize_mask) (λ _. tt) (λ _.
        more_outside _ (finalize_outside place x fits (union n x.finalize_mask (signer_mask frame))))

-- ---- the whole delivery
module _ (digest : Bytes → Bytes) (s : State) (is : SoundState digest s)
    (frame : Bytes) (read : ReadFrame s frame) where
  abbrev x : Height
  x = at s (frame_height frame)

  fits : ShapedHeight x
  fits = shaped digest s is frame read

  place : Place s (frame_height frame)
  place = record { shaped = is.shaped; low = read.low; high = read.high }

  kind_only : Only place digest (view s) frame x fits (kind frame) (keep digest s frame)
  kind_only = keep_cases digest s frame read (Only place digest (view s) frame x fits)
      (λ e. proposal_only place digest (view s) frame x fits (block_size_lem read))
      (λ e. vote_only place digest (view s) frame x fits (signer_few read is.n_high e) (digest_size_lem read))
      (λ _. dummy_only place digest (view s) frame x fits)
      (λ _. finalize_only place digest (view s) frame x fits)
      (λ e. certificate_only place digest (view s) frame x fits (block_size_lem read))
      (λ _. dummy_certificate_only place digest (view s) frame x fits _)
      (λ _. finalize_certificate_only place digest (view s) frame x fits _)

  kind_other : OnSome (λ (y : Height). y ≢ x) (keep digest s frame)
  kind_other = keep_cases digest s frame read (λ _. Other digest (view s) frame x)
      (λ _. proposal_other digest (view s) frame x) (λ _. vote_other digest (view s) frame x)
      (λ _. dummy_other digest (view s) frame x) (λ _. finalize_other digest (view s) frame x)
      (λ _. certificate_other digest (view s) frame x) (λ _. dummy_certificate_other digest (view s) frame x _)
      (λ _. finalize_certificate_other digest (view s) frame x _)

  module _ (y : Height) (e : keep digest s frame ≡ some y) where
    -- the bytes outside the parts of the frame's kind and of a block that it notarizes stay
    pub keep_only :
        SameOutside
        (kept_parts (last s) (frame_height frame) (kind frame) (signer frame) ++
        cond (newly_notarized x y) (notarized_parts (last s) (frame_height frame)) [])
        (encode (with_height s (frame_height frame) x)) (encode (with_height s (frame_height frame) y))
    keep_only = subst (Only place digest (view s) frame x fits (kind frame)) e kind_only

    pub keep_other : y ≢ x
    keep_other = subst (OnSome (λ (z : Height). z ≢ x)) e kind_other
