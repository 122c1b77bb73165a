-- What the writes of a function make of a whole book of an observer, in the order in which the code makes them.
use Rattle.std.specs.Prelude.{ℕ, zero, suc, ◌+◌, ◌-◌, ◌*◌, ◌≤◌, ◌<◌, ◌≡◌, length, set}
use Rattle.std.proofs.Common.{arith, ap, subst, ◌∙◌}
use Rattle.protocol.specs.Bytes.{Bytes, le16, zeros, put, AreBytes}
use Rattle.protocol.specs.State.{book_heights}
use Rattle.protocol.specs.Deliver.{with_notarized}
use Rattle.protocol.specs.Observer.{encode_observer}
use Rattle.protocol.specs.Open.{long}
use Rattle.protocol.specs.ObserverCalls.{new_observer}
use Rattle.protocol.proofs.Laws.PlaceLaws.{suc_pred}
use Rattle.protocol.proofs.Laws.ObserverPlaceLaws.{book_observed_dummy, book_observed_finalize, book_observed_notarized}
use Rattle.protocol.proofs.Laws.ObserverPlaceLaws.{new_observer_from_zeros}
use Rattle.book_fields.specs.Book.{ObserverReady, Within, observed_in, observer_changed}
use Rattle.book_fields.specs.Numbered.{with_mask_at}

pub observer_made : (n heights : ℕ) (weights book cleared : Bytes) → length book ≡ 64 + 184 * heights →
    AreBytes weights → length weights ≡ 2 * n → n ≤ 16 → cleared ≡ zeros (length book) →
    put (put (put (set (set cleared 0 n) 7 3) 8 weights) 40 (le16 heights)) 42 (le16 0) ≡
    encode_observer (new_observer (long weights) n heights)
observer_made n heights weights book cleared size small given high clear =
    rw (clear ∙ ap zeros size)
    (new_observer_from_zeros n heights weights small given high)

-- ---- height `h`, where the code has computed its places
module _ (book : Bytes) (ready : ObserverReady book) (h : ℕ) (within : Within book h) (content : ℕ)
    (content-place : content ≡ 64 + 8 * (h - 1)) where
  inside : h - 1 < book_heights book
  inside = omega arith

  -- height `h` is the next after `h - 1`
  named : (claim : ℕ → Type 0) → claim (suc (h - 1)) → claim h
  named claim p = subst claim (suc_pred h within.low) p

  pub observed_mask_set : (k : ℕ) → 1 ≤ k → k ≤ 2 → (mask : ℕ) →
      put book (content + (2 + 2 * k)) (le16 mask) ≡ observer_changed book h (λ x. with_mask_at x k mask)
  observed_mask_set zero low high mask = absurd (omega arith)
  observed_mask_set (suc zero) low high mask =
      rw content-place
      (named (λ i. put book (64 + 8 * (h - 1) + 4) (le16 mask) ≡ observer_changed book i (λ x. with_mask_at x 1 mask))
      (book_observed_dummy book ready.readable.sized.size ready.whole (h - 1) inside mask))
  observed_mask_set (suc (suc zero)) low high mask =
      rw content-place
      (named (λ i. put book (64 + 8 * (h - 1) + 6) (le16 mask) ≡ observer_changed book i (λ x. with_mask_at x 2 mask))
      (book_observed_finalize book ready.readable.sized.size ready.whole (h - 1) inside mask))
  observed_mask_set (suc (suc (suc k))) low high mask = absurd (omega arith)

  -- `copied` is the book after the block was copied to its place
  pub observed_notarized_set : (from : ℕ) → from ≡ 64 + 8 * book_heights book + 176 * (h - 1) →
      (observed_in book h).status ≡ 0 → (mask : ℕ) (block : Bytes) → length block ≡ 176 → (copied : Bytes) →
      copied ≡ put book from block →
      put (set copied content 2) (content + 2) (le16 mask) ≡ observer_changed book h (λ x. with_notarized x mask block)
  observed_notarized_set from from_place empty mask block size copied copy =
      let filled : Bytes = put book (64 + 8 * book_heights book + 176 * (h - 1)) block in
      let status : 2 ≡ (observed_in book h).status + 2 = omega arith in
      rw (copy, content-place, from_place)
      (ap (λ (held : ℕ). put (set filled (64 + 8 * (h - 1)) held) (64 + 8 * (h - 1) + 2) (le16 mask)) status
      ∙ named (λ i. put (set filled (64 + 8 * (h - 1)) ((observed_in book i).status + 2)) (64 + 8 * (h - 1) + 2)
      (le16 mask) ≡ observer_changed book i (λ x. with_notarized x mask block))
      (book_observed_notarized book ready.readable.sized.size ready.whole (h - 1) inside mask block size))
