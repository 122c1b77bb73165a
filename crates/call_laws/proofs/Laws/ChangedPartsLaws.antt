-- Each change of a height changes only its parts of the book.
use Prim.Native.Nat.{ℕ, suc, ◌+◌, ◌-◌, ◌*◌, ◌^◌, ◌≤◌, ◌<◌}
use native.Mathlib.Omega.{arith}
use Rattle.std.specs.Prelude.{◌≡◌, [], ◌∷◌}
use Rattle.std.proofs.Common.{ap, ◌∙◌}
use Rattle.std.proofs.Math.Path.{subst}
use Rattle.std.proofs.Math.ListN.{length, set, length-set}
use Rattle.protocol.specs.SoundState.{ShapedHeight, Shaped}
use Rattle.protocol.specs.Bytes.{Bytes, le16, put}
use Rattle.protocol.proofs.Laws.BytesLaws.{length_put}
use Rattle.protocol.specs.State.{State, Height, at, last, encode, with_height}
use Rattle.protocol.specs.Deliver.{with_proposal, with_notarized, with_masks, with_vote}
use Rattle.protocol.proofs.Laws.PlaceLaws.{length_encode, suc_pred, last_with, shaped_with}
use Rattle.protocol.proofs.Laws.ChangeLaws.{make_proposal, make_notarized, make_dummy_mask, make_finalize_mask}
use Rattle.protocol.proofs.Laws.ChangeLaws.{make_vote}
use Rattle.call_laws.proofs.Laws.DeliverSoundLaws.{shaped}
use Rattle.call_laws.specs.KeptBytes.{SameOutside, content_at, body_at, proposal_parts, vote_parts, dummy_parts}
use Rattle.call_laws.specs.KeptBytes.{finalize_parts, notarized_parts}
use Rattle.call_laws.proofs.Laws.OutsideLaws.{put_outside, set_outside, both_outside}

pub record Place (s : State) (h : ℕ) : Type 0 where
  pub shaped : Shaped s
  pub low : 1 ≤ h
  pub high : h ≤ last s

module _ {s : State} {h : ℕ} (place : Place s h) where
  abbrev pub placed : Height → Bytes
  placed x = encode (with_height s h x)

  abbrev c : ℕ
  c = content_at (last s) h

  abbrev d : ℕ
  d = body_at (last s) h

  inside : h - 1 < last s
  inside = let low = place.low in let high = place.high in omega arith

  there : suc (h - 1) ≡ h
  there = suc_pred h place.low

  module _ (x : Height) (fits : ShapedHeight x) where
    pub placed_size : length (placed x) ≡ 576 + 880 * last s
    placed_size =
        rw there at
        (length_encode (with_height s (suc (h - 1)) x) (shaped_with s (h - 1) x place.shaped fits) ∙
        ap (λ (k : ℕ). 576 + 880 * k) (last_with s (h - 1) x))

    -- the two bytes of a mask
    mask_outside : (j mask : ℕ) → j ≤ 14 → SameOutside ((c + j, 2) ∷ []) (placed x)
        (put (placed x) (c + j) (le16 mask))
    unfolding le16
    mask_outside j mask few = put_outside (placed x) (c + j) (le16 mask) (rw placed_size (omega arith))

    pub proposal_outside : (block : Bytes) → length block ≡ 176 →
        SameOutside (proposal_parts (last s) h) (placed x) (placed (with_proposal x block))
    unfolding proposal_parts
    proposal_outside block size =
        let e = rw there at (make_proposal s place.shaped (h - 1) inside x fits block size) in
        let marked : Bytes = set (placed x) (c + 1) (x.status + 1) in
        let room : d + length block ≤ length marked =
        rw (size, length-set (placed x) (c + 1) (x.status + 1), placed_size) (omega arith) in
        subst (SameOutside _ (placed x)) e
        (both_outside (set_outside (placed x) (c + 1) (x.status + 1)) (rw size at (put_outside marked d block room)))

    pub vote_outside : (t : ℕ) (digest : Bytes) → t < 16 → length digest ≡ 32 →
        SameOutside (vote_parts (last s) h t) (placed x) (placed (with_vote x t digest))
    unfolding vote_parts le16
    vote_outside t digest few size =
        let mask : ℕ = x.voter_mask + 2 ^ t in
        let e = rw there at (make_vote s place.shaped (h - 1) inside x fits t digest few size) in
        let marked : Bytes = put (placed x) (c + 8) (le16 mask) in
        let same = length_put (placed x) (c + 8) (le16 mask) (rw placed_size (omega arith)) in
        let room : d + (352 + 32 * t) + length digest ≤ length marked = rw (size, same, placed_size) (omega arith) in
        subst (SameOutside _ (placed x)) e
        (both_outside (mask_outside 8 mask (omega arith))
        (rw size at (put_outside marked (d + (352 + 32 * t)) digest room)))

    pub dummy_outside : (mask : ℕ) → SameOutside (dummy_parts (last s) h) (placed x)
        (placed (with_masks x mask x.finalize_mask))
    unfolding dummy_parts
    dummy_outside mask =
        let e = rw there at (make_dummy_mask s place.shaped (h - 1) inside x fits mask) in
        subst (SameOutside _ (placed x)) e
        (mask_outside 4 mask (omega arith))

    pub finalize_outside : (mask : ℕ) → SameOutside (finalize_parts (last s) h) (placed x)
        (placed (with_masks x x.dummy_mask mask))
    unfolding finalize_parts
    finalize_outside mask =
        let e = rw there at (make_finalize_mask s place.shaped (h - 1) inside x fits mask) in
        subst (SameOutside _ (placed x)) e
        (mask_outside 6 mask (omega arith))

    pub notarized_outside : (mask : ℕ) (block : Bytes) → length block ≡ 176 →
        SameOutside (notarized_parts (last s) h) (placed x) (placed (with_notarized x mask block))
    unfolding notarized_parts le16
    notarized_outside mask block size =
        let e = rw there at (make_notarized s place.shaped (h - 1) inside x fits mask block size) in
        let marked : Bytes = set (placed x) (c + 1) (x.status + 2) in
        let same : length marked ≡ 576 + 880 * last s = length-set (placed x) (c + 1) (x.status + 2) ∙ placed_size in
        let signed : Bytes = put marked (c + 2) (le16 mask) in
        let fits_mask : c + 2 + 2 ≤ length marked = omega arith in
        let same' : length signed ≡ 576 + 880 * last s = length_put marked (c + 2) (le16 mask) fits_mask ∙ same in
        let room : d + 176 + length block ≤ length signed = rw size (omega arith) in
        subst (SameOutside _ (placed x)) e
        (both_outside (set_outside (placed x) (c + 1) (x.status + 2))
        (both_outside (put_outside marked (c + 2) (le16 mask) fits_mask)
        (rw size at (put_outside signed (d + 176) block room))))
