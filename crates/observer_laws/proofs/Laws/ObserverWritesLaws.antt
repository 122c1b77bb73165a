-- A certificate that is kept writes only where `ObserverKeeping` says.
use Rattle.std.specs.Prelude.{ℕ, suc, ◌+◌, ◌-◌, ◌*◌, ◌≤◌, ◌<◌, ◌≡◌, [], ◌∷◌, eqb}
use Rattle.std.proofs.Common.{arith, ◌∙◌}
use Rattle.std.proofs.Math.Path.{subst}
use Rattle.std.proofs.Math.Option.{Option, some}
use Rattle.std.proofs.Math.ListN.{length, set, length-set}
use Rattle.protocol.specs.Bytes.{Bytes, le16, put, AreBytes}
use Rattle.protocol.specs.Mask.{union}
use Rattle.protocol.specs.Frame.{kind, frame_height, signer_mask, frame_block}
use Rattle.protocol.specs.State.{State, Height, at, with_height, book_heights, is_notarized}
use Rattle.protocol.specs.Deliver.{keep, keep_block_certificate, keep_dummy_certificate, keep_finalize_certificate}
use Rattle.protocol.specs.Deliver.{with_notarized, with_masks}
use Rattle.protocol.specs.Observer.{observed, observer_state, encode_observer, decode_observer}
use Rattle.protocol.proofs.Laws.BytesLaws.{length_put}
use Rattle.protocol.proofs.Laws.PlaceLaws.{suc_pred}
use Rattle.protocol.proofs.Laws.DeliverLaws.{OnSome, unless_known, block_size_lem}
use Rattle.protocol.proofs.Laws.ObserverCodecLaws.{ExactObserver, last_observed}
use Rattle.protocol.proofs.Laws.ObserverSoundLaws.{exact_observer, encode_decode_observer}
use Rattle.protocol.proofs.Laws.ObserverDeliverLaws.{ObserverAccepts}
use Rattle.protocol.proofs.Laws.ObserverPlaceLaws.{book_observed_dummy, book_observed_finalize, book_observed_notarized}
use Rattle.call_laws.specs.KeptBytes.{SameOutside}
use Rattle.call_laws.proofs.Laws.OutsideLaws.{put_outside, set_outside, both_outside}
use Rattle.observer_laws.proofs.Laws.CertificateLaws.{certificate_cases}
use Rattle.observer_laws.specs.ObserverKeeping.{certificate_parts, observed_content_at, observed_block_at}

module _ (book : Bytes) (exact : ExactObserver book) (whole : encode_observer (decode_observer book) ≡ book) (h : ℕ)
    (low : 1 ≤ h) (high : h ≤ book_heights book) where
  abbrev H : ℕ
  H = book_heights book

  abbrev content_here : ℕ
  content_here = observed_content_at H h

  abbrev block_here : ℕ
  block_here = observed_block_at H h

  abbrev x : Height
  x = at (observer_state book) h

  -- the book with another height there
  abbrev placed : Height → Bytes
  placed y = encode_observer (observed (with_height (observer_state book) h y))

  abbrev Writes : ℕ → Height → Type 0
  Writes k y = SameOutside (certificate_parts H h k) book (placed y)

  there : suc (h - 1) ≡ h
  there = suc_pred h low

  inside : h - 1 < H
  inside = omega arith

  size : length book ≡ 64 + 184 * H
  size = exact

  mask_writes : (j mask : ℕ) → j ≤ 6 →
      SameOutside ((content_here + j, 2) ∷ []) book (put book (content_here + j) (le16 mask))
  unfolding le16
  mask_writes j mask few = put_outside book (content_here + j) (le16 mask) (omega (arith, size))

  pub dummy_writes : (mask : ℕ) → Writes 6 (with_masks x mask x.finalize_mask)
  unfolding certificate_parts
  dummy_writes mask =
      subst (SameOutside _ book) (rw there at (book_observed_dummy book exact whole (h - 1) inside mask))
      (mask_writes 4 mask (omega arith))

  pub finalize_writes : (mask : ℕ) → Writes 7 (with_masks x x.dummy_mask mask)
  unfolding certificate_parts
  finalize_writes mask =
      subst (SameOutside _ book) (rw there at (book_observed_finalize book exact whole (h - 1) inside mask))
      (mask_writes 6 mask (omega arith))

  pub block_writes : (mask : ℕ) (block : Bytes) → length block ≡ 176 → Writes 5 (with_notarized x mask block)
  unfolding certificate_parts le16
  block_writes mask block sized =
      let e = rw there at (book_observed_notarized book exact whole (h - 1) inside mask block sized) in
      let room : block_here + length block ≤ length book = omega (arith, size) in
      let copied : Bytes = put book block_here block in
      let marked : Bytes = set copied content_here (x.status + 2) in
      let long : length marked ≡ 64 + 184 * H =
      length-set copied content_here (x.status + 2) ∙ length_put book block_here block room ∙ size in
      subst (SameOutside _ book) e
      (both_outside (rw sized at (put_outside book block_here block room))
      (both_outside (set_outside copied content_here (x.status + 2))
      (put_outside marked (content_here + 2) (le16 mask) (omega arith))))

module _ (digest : Bytes → Bytes) (book frame : Bytes) (accepts : ObserverAccepts digest book frame)
    (small : AreBytes book) where
  abbrev s : State
  s = observer_state book

  abbrev h' : ℕ
  h' = frame_height frame

  abbrev Kept : ℕ → Option Height → Type 0
  Kept k o = OnSome (λ (y : Height). SameOutside (certificate_parts (book_heights book) h' k) book
      (encode_observer (observed (with_height s h' y)))) o

  kept_writes : Kept (kind frame) (keep digest s frame)
  unfolding keep_block_certificate keep_dummy_certificate keep_finalize_certificate
  kept_writes =
      let exact = exact_observer digest book accepts.was_sound in
      let whole = encode_decode_observer digest book accepts.was_sound small in
      let low = accepts.read.low in
      let high : h' ≤ book_heights book = rw (last_observed book) at accepts.read.high in
      certificate_cases digest s frame accepts.certificate accepts.read Kept
      (λ _. unless_known _ (is_notarized (at s h')) (λ _.
      block_writes book exact whole h' low high (signer_mask frame) (frame_block frame) (block_size_lem accepts.read)))
      (λ _. unless_known _ (eqb (union s.n (at s h').dummy_mask (signer_mask frame)) (at s h').dummy_mask)
      (λ _. dummy_writes book exact whole h' low high _))
      (λ _. unless_known _ (eqb (union s.n (at s h').finalize_mask (signer_mask frame)) (at s h').finalize_mask)
      (λ _. finalize_writes book exact whole h' low high _))

  pub fresh_writes : (y : Height) → keep digest s frame ≡ some y →
      SameOutside (certificate_parts (book_heights book) h' (kind frame)) book
      (encode_observer (observed (with_height s h' y)))
  fresh_writes y e = subst (Kept (kind frame)) e kept_writes
