-- What a frame keeps: known and new frames, and a second write at the height of a first.
use Rattle.std.specs.Prelude.{ℕ, zero, suc, ◌+◌, ◌%◌, ◌^◌, ◌≤◌, ◌<◌, ◌≡◌, refl, Bool, true, false, cond}
use Rattle.std.proofs.Common.{arith, ap, ◌∙◌}
use Rattle.std.proofs.Math.Option.{Option, some, none}
use Rattle.std.proofs.lemmas.Bool.{eqb-false}
use Rattle.protocol.specs.SoundState.{ShapedHeight, Shaped}
use Rattle.protocol.specs.Bytes.{Bytes}
use Rattle.protocol.specs.Mask.{in_mask}
use Rattle.protocol.specs.State.{State, Height, at, last, decode, encode, with_height, holds_proposal, book_heights}
use Rattle.protocol.specs.View.{quorum}
use Rattle.protocol.specs.Sound.{view}
use Rattle.protocol.proofs.Laws.MaskLaws.{add_below}
use Rattle.protocol.proofs.Laws.StateLaws.{decode_encode}
use Rattle.protocol.proofs.Laws.CodecLaws.{last_decode}
use Rattle.protocol.proofs.Laws.PlaceLaws.{with_with, at_with, shaped_at, shaped_with}
use Rattle.protocol.proofs.Laws.ChangeLaws.{named_height}
use Rattle.protocol.specs.Deliver.{with_proposal, with_vote, notarize}
use Rattle.book_fields.specs.Laws.BookLaws.{ready_state, ready_height, same_heights, last_with_height}
use Rattle.answers.specs.declared.answer.Delivered.{Delivered}
use Rattle.answers.specs.declared.answer.Delivered.TheVariants.{Fresh, Known}
use Rattle.contradictions.specs.Accepted.{accepted_book}
use Rattle.delivery.specs.Kept.{kept_at}
use Rattle.frame_refusals.specs.Given.{Spot}

-- ---- known and new
module _ (book : Bytes) (h : ℕ) where
  pub known_frame : (b : Bool) (y : Height) → b ≡ true →
      accepted_book Known book ≡ kept_at book h (cond b none (some y))
  unfolding kept_at
  known_frame b y e = rw e

  pub new_frame : (b : Bool) (y : Height) (after : Bytes) → b ≡ false → after ≡ encode (with_height (decode book) h y) →
      accepted_book Fresh after ≡ kept_at book h (cond b none (some y))
  unfolding kept_at
  new_frame b y after e f = rw (e, f)

  pub same_kept : (o other : Option Height) (answer : Delivered) (after : Bytes) → o ≡ other →
      accepted_book answer after ≡ kept_at book h other → accepted_book answer after ≡ kept_at book h o
  same_kept o other answer after e kept = rw e kept

-- ---- masks
-- a replica that is missing has room in a mask of 16 bits
pub room : (n mask s : ℕ) → s < n → mask < 2 ^ n → 2 ^ n ≤ 65536 → in_mask mask s ≡ false → mask + 2 ^ s < 65536
room n mask s small fits bound new = omega (arith, add_below s n mask small fits new)

-- ---- a height that is there
pub shaped_here : (book : Bytes) (h : ℕ) → Spot book h → ShapedHeight (at (decode book) h)
shaped_here book zero spot = absurd (omega (arith, spot.within))
shaped_here book (suc i) spot = shaped_at (decode book) i (ready_state book spot.ready)
    (rw (last_decode book) spot.within.high)

-- writing what stands there changes nothing
pub same_book : (book : Bytes) (h : ℕ) → Spot book h → encode (with_height (decode book) h (at (decode book) h)) ≡ book
same_book book zero spot = absurd (omega (arith, spot.within))
same_book book (suc i) spot = named_height book i spot.ready.whole

pub kept_proposal : (x : Height) (block : Bytes) → (with_proposal x block).proposal ≡ block
unfolding with_proposal
kept_proposal x block = refl

pub proposal_status : (x : Height) (block : Bytes) → x.status ≤ 3 → holds_proposal x ≡ false →
    (with_proposal x block).status ≤ 3
unfolding with_proposal holds_proposal
proposal_status x block small e =
    let odd : x.status % 2 ≡ 1 → ⊥ = eqb-false (x.status % 2) 1 e in
    omega arith

pub vote_status : (x : Height) (s : ℕ) (digest : Bytes) → x.status ≤ 3 → (with_vote x s digest).status ≤ 3
unfolding with_vote
vote_status x s digest small = small

-- ---- after a first write
notarize_goes_by_n : (digest : Bytes → Bytes) (s : State) (h : ℕ) (y x : Height) →
    notarize digest (view (with_height s h y)) x ≡ notarize digest (view s) x
unfolding notarize quorum view with_height
notarize_goes_by_n digest s h y x = refl

with_twice : (s : State) (h : ℕ) (x y : Height) → 1 ≤ h → with_height (with_height s h x) h y ≡ with_height s h y
with_twice s zero x y low = absurd (omega arith)
with_twice s (suc i) x y low = with_with s i x y

at_written : (s : State) (h : ℕ) (y : Height) → 1 ≤ h → h ≤ last s → at (with_height s h y) h ≡ y
at_written s zero y low high = absurd (omega arith)
at_written s (suc i) y low high = at_with s i y high

shaped_written : (s : State) (h : ℕ) (y : Height) → 1 ≤ h → Shaped s → ShapedHeight y → Shaped (with_height s h y)
shaped_written s zero y low shaped fits = absurd (omega arith)
shaped_written s (suc i) y low shaped fits = shaped_with s i y shaped fits

module _ (book : Bytes) (h : ℕ) (spot : Spot book h) (y : Height) (fits : ShapedHeight y) where
  in_state : h ≤ last (decode book)
  in_state = rw (last_decode book) spot.within.high

  decoded : decode (encode (with_height (decode book) h y)) ≡ with_height (decode book) h y
  decoded = decode_encode (with_height (decode book) h y)
      (shaped_written (decode book) h y spot.within.low (ready_state book spot.ready) fits)

  heights_same : book_heights (encode (with_height (decode book) h y)) ≡ book_heights book
  heights_same = same_heights book (with_height (decode book) h y) (last_with_height (decode book) h y)

  spot_written : y.status ≤ 3 → Spot (encode (with_height (decode book) h y)) h
  spot_written small = record {
    ready = ready_height book spot.ready h y fits;
    within = record { low = spot.within.low; high = rw heights_same spot.within.high };
    status_small = rw (decoded, at_written (decode book) h y spot.within.low in_state) small;
  }

  pub spot_after : (after : Bytes) → after ≡ encode (with_height (decode book) h y) → y.status ≤ 3 → Spot after h
  spot_after after e small = rw e (spot_written small)

  pub height_after : (after : Bytes) → after ≡ encode (with_height (decode book) h y) → at (decode after) h ≡ y
  height_after after e = ap (λ (s : State). at s h) (ap decode e ∙ decoded)
      ∙ at_written (decode book) h y spot.within.low in_state

  pub notarized_after : (digest : Bytes → Bytes) (after final : Bytes) → after ≡ encode (with_height (decode book) h y) →
      final ≡ encode (with_height (decode after) h (notarize digest (view (decode after)) (at (decode after) h))) →
      final ≡ encode (with_height (decode book) h (notarize digest (view (decode book)) y))
  notarized_after digest after final e f =
      f
      ∙ ap (λ (s : State). encode (with_height s h (notarize digest (view s) (at s h)))) (ap decode e ∙ decoded)
      ∙ ap (λ (x : Height). encode (with_height (with_height (decode book) h y) h
      (notarize digest (view (with_height (decode book) h y)) x)))
      (at_written (decode book) h y spot.within.low in_state)
      ∙ ap encode (with_twice (decode book) h y (notarize digest (view (with_height (decode book) h y)) y)
      spot.within.low)
      ∙ ap (λ (x : Height). encode (with_height (decode book) h x)) (notarize_goes_by_n digest (decode book) h y y)
