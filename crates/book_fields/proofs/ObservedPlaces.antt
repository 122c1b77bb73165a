-- Where the fields of height `h` stand in an observer's book.
use Prim.Native.Nat.{ℕ, suc, ◌+◌, ◌-◌, ◌*◌, ◌<◌}
use native.Mathlib.Omega.{arith}
use mathlib.Core.Path.{◌≡◌, sym, ap, ◌∙◌}
use lib.ListN.{length, take, drop}
use Rattle.protocol.specs.Bytes.{Bytes, byte_at, word16}
use Rattle.protocol.specs.State.{Height, at, book_heights}
use Rattle.protocol.specs.Observer.{observer_state}
use Rattle.protocol.proofs.Laws.BytesLaws.{length_part}
use Rattle.protocol.proofs.Laws.PlaceLaws.{suc_pred}
use Rattle.protocol.proofs.Laws.ObserverFieldLaws.{read_observed_status, read_observed_certificate, read_observed_dummy}
use Rattle.protocol.proofs.Laws.ObserverFieldLaws.{read_observed_finalize, read_observed_notarized}
use Rattle.book_fields.specs.Book.{Within}
use Rattle.book_fields.specs.Numbered.{mask_at, place_of}
use Rattle.book_fields.specs.declared.names.MaskKind.{MaskKind}
use Rattle.book_fields.proofs.Places.{cut_part}

module _ (book : Bytes) (h : ℕ) (within : Within book h) where
  inside : h - 1 < book_heights book
  inside = omega arith

  -- height `h` is the next after `h - 1`
  named : {A : Type 0} (field : Height → A) {value : A} → value ≡ field (at (observer_state book) (suc (h - 1))) →
      value ≡ field (at (observer_state book) h)
  named field e = e ∙ ap (λ (k : ℕ). field (at (observer_state book) k)) (suc_pred h within.low)

  module _ (from : ℕ) (place : from ≡ 64 + 8 * (h - 1)) where
    pub observed_status_at : byte_at book from ≡ (at (observer_state book) h).status
    observed_status_at = rw place (named (λ x. x.status) (read_observed_status book (h - 1) inside))

    pub observed_mask_at : (which : MaskKind) → place_of which < 3 →
        word16 book (from + (2 + 2 * place_of which)) ≡ mask_at (at (observer_state book) h) (place_of which)
    observed_mask_at MaskKind.Certificate l =
        rw place (named (λ x. x.certificate_mask) (read_observed_certificate book (h - 1) inside))
    observed_mask_at MaskKind.Dummy l =
        rw place (named (λ x. x.dummy_mask) (read_observed_dummy book (h - 1) inside))
    observed_mask_at MaskKind.Finalize l =
        rw place (named (λ x. x.finalize_mask) (read_observed_finalize book (h - 1) inside))
    observed_mask_at MaskKind.Voters l = absurd (omega arith)

  pub observed_block_at_lem : (from : ℕ) → from ≡ 64 + 8 * book_heights book + 176 * (h - 1) →
      take (from + 176 - from) (drop from book) ≡ (at (observer_state book) h).notarized
  observed_block_at_lem from place = cut_part book from 176
      ∙ rw place (named (λ x. x.notarized) (read_observed_notarized book (h - 1) inside))

  pub observed_size : length book ≡ 64 + 184 * book_heights book → length (at (observer_state book) h).notarized ≡ 176
  observed_size size =
      ap length (sym (named (λ x. x.notarized) (read_observed_notarized book (h - 1) inside)))
      ∙ length_part book (64 + 8 * book_heights book + 176 * (h - 1)) 176 (omega arith)
