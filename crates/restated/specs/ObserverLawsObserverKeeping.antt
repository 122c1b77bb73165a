-- Written by tests/restated --write: what docs/statements has of
-- crates/observer_laws/specs/ObserverKeeping.antt.
use Rattle.std.specs.Prelude.{ℕ, ◌+◌, ◌-◌, ◌*◌, ◌<◌, ◌≡◌, ◌≢◌, true, false, ◌&&◌, ◌||◌, cond, List, [], ◌∷◌, length}
use package.Rattle.protocol.specs.Bytes.{Bytes, byte_at, AreBytes}
use package.Rattle.protocol.specs.Answer.{Delivery, known, fresh}
use package.Rattle.protocol.specs.Mask.{in_mask}
use package.Rattle.protocol.specs.Frame.{kind, frame_height, signer_mask, frame_block, is_block_certificate, is_dummy_certificate}
use package.Rattle.protocol.specs.Frame.{is_finalize_certificate}
use package.Rattle.protocol.specs.State.{Height, at, book_heights, with_height, is_notarized}
use package.Rattle.protocol.specs.Observer.{observer_state}
use package.Rattle.protocol.specs.ObserverSound.{observer_sound}
use package.Rattle.call_laws.specs.KeptBytes.{Part, SameOutside}
use package.Rattle.observer_laws.specs.ObserverKeeping.{certificate_parts, SameBlock, BlockOf, KeepsCertificate, ObserverKeeps}
use mathlib.Core.Path.{◌≡◌ as ◌is-kept◌, refl as by-text}
use package.Rattle.observer_laws.specs.ObserverKeeping as page

module _ (heights h : ℕ) where
  abbrev observed_content_at : ℕ
  observed_content_at = page.observed_content_at heights h

  abbrev observed_block_at : ℕ
  observed_block_at = page.observed_block_at heights h

  abbrev observed_content_at-kept : ℕ
  observed_content_at-kept = 64 + 8 * (h - 1)

  same-observed_content_at : observed_content_at-kept is-kept page.observed_content_at heights h
  same-observed_content_at = by-text

  abbrev observed_block_at-kept : ℕ
  observed_block_at-kept = 64 + 8 * heights + 176 * (h - 1)

  same-observed_block_at : observed_block_at-kept is-kept page.observed_block_at heights h
  same-observed_block_at = by-text

  certificate_parts-kept : ℕ → List Part
  certificate_parts-kept k =
      cond (is_block_certificate k)
      ((observed_block_at, 176) ∷ (observed_content_at, 1) ∷ (observed_content_at + 2, 2) ∷ [])
      (cond (is_dummy_certificate k) ((observed_content_at + 4, 2) ∷ []) ((observed_content_at + 6, 2) ∷ []))

  same-certificate_parts : certificate_parts-kept is-kept page.certificate_parts heights h
  unfolding certificate_parts-kept page.certificate_parts
  same-certificate_parts = by-text

SameBlock-kept : (x y : Height) (same_status : y.status ≡ x.status) (same_certificate : y.certificate_mask ≡ x.certificate_mask) (same_block : y.notarized ≡ x.notarized) →
    SameBlock x y
SameBlock-kept x y x0 x1 x2 = record { same_status = x0; same_certificate = x1; same_block = x2 }

BlockOf-kept : (frame : Bytes) (y : Height) (notarized : y.status ≡ 2) (its_signers : y.certificate_mask ≡ signer_mask frame) (its_block : y.notarized ≡ frame_block frame) →
    BlockOf frame y
BlockOf-kept frame y x0 x1 x2 = record { notarized = x0; its_signers = x1; its_block = x2 }

KeepsCertificate-kept : (n : ℕ) (frame : Bytes) (x y : Height) (dummies : (t : ℕ) → t < n → in_mask y.dummy_mask t ≡ (in_mask x.dummy_mask t || (is_dummy_certificate (kind frame) && in_mask (signer_mask frame) t))) (finalizes : (t : ℕ) → t < n → in_mask y.finalize_mask t ≡ (in_mask x.finalize_mask t || (is_finalize_certificate (kind frame) && in_mask (signer_mask frame) t))) (first_block_lem : is_notarized x ≡ true → SameBlock x y) (no_block : kind frame ≢ 5 → SameBlock x y) (this_block : kind frame ≡ 5 → is_notarized x ≡ false → BlockOf frame y) (known_block : kind frame ≡ 5 → is_notarized x ≡ true → x.notarized ≡ frame_block frame) →
    KeepsCertificate n frame x y
KeepsCertificate-kept n frame x y x0 x1 x2 x3 x4 x5 = record { dummies = x0; finalizes = x1; first_block_lem = x2; no_block = x3; this_block = x4; known_block = x5 }

ObserverKeeps-kept : (digest : Bytes → Bytes) (book frame : Bytes) (news : Delivery) (after : Bytes) (known_same : news ≡ known → after ≡ book) (fresh_differs : news ≡ fresh → (i : ℕ) × (i < length book) × (byte_at after i ≢ byte_at book i)) (other_bytes : AreBytes book → SameOutside (certificate_parts (book_heights book) (frame_height frame) (kind frame)) book after) (same_length : length after ≡ length book) (elsewhere : observer_state after ≡ with_height (observer_state book) (frame_height frame) (at (observer_state after) (frame_height frame))) (here : KeepsCertificate (observer_state book).n frame (at (observer_state book) (frame_height frame)) (at (observer_state after) (frame_height frame))) (stays_sound : observer_sound digest after ≡ true) →
    ObserverKeeps digest book frame news after
ObserverKeeps-kept digest book frame news after x0 x1 x2 x3 x4 x5 x6 = record { known_same = x0; fresh_differs = x1; other_bytes = x2; same_length = x3; elsewhere = x4; here = x5; stays_sound = x6 }
