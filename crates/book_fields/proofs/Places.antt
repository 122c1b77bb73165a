-- Where the fields of height `h` stand in a book, for the readers and the writers of one height.
use Prim.Native.Nat.{ℕ, zero, suc, ◌+◌, ◌-◌, ◌*◌, ◌<◌}
use native.Mathlib.Omega.{arith}
use native.Mathlib.Nat.{add-zero}
use mathlib.Core.Path.{◌≡◌, ap, subst, ◌∙◌}
use lib.ListN.{length, take, drop}
use Rattle.protocol.specs.SoundState.{ShapedHeight}
use Rattle.protocol.specs.Bytes.{Bytes, byte_at, word16, part}
use Rattle.protocol.specs.State.{Height, at, last, decode, vote_of, book_heights}
use Rattle.protocol.proofs.Laws.CodecLaws.{Exact, last_decode, decode_shaped}
use Rattle.protocol.proofs.Laws.PlaceLaws.{suc_pred, shaped_at}
use Rattle.protocol.proofs.Laws.FieldLaws.{read_leader, read_status, read_certificate_mask, read_dummy_mask}
use Rattle.protocol.proofs.Laws.FieldLaws.{read_finalize_mask, read_voter_mask, read_proposal, read_notarized, read_vote}
use Rattle.book_fields.specs.Book.{Within}
use Rattle.book_fields.specs.Numbered.{mask_at, place_of, block_at}
use Rattle.book_fields.specs.declared.names.MaskKind.{MaskKind}

-- each mask has one of the four places
pub place_small : (which : MaskKind) → place_of which < 4
place_small MaskKind.Certificate = omega arith
place_small MaskKind.Dummy = omega arith
place_small MaskKind.Finalize = omega arith
place_small MaskKind.Voters = omega arith

-- a lent part, as its place and its size
pub cut_part : (bytes : Bytes) (from size : ℕ) → take (from + size - from) (drop from bytes) ≡ part bytes from size
unfolding part
cut_part bytes from size = let e : from + size - from ≡ size = omega arith in rw e

pub height_shaped : (book : Bytes) (h : ℕ) → Exact book → Within book h → ShapedHeight (at (decode book) h)
height_shaped book h exact within =
    let inside : h - 1 < last (decode book) = rw last_decode (omega arith) in
    subst (λ (k : ℕ). ShapedHeight (at (decode book) k)) (suc_pred h within.low)
    (shaped_at (decode book) (h - 1) (decode_shaped book exact) inside)

pub notarized_size : (book : Bytes) (h : ℕ) → Exact book → Within book h → length (at (decode book) h).notarized ≡ 176
notarized_size book h exact within = (height_shaped book h exact within).notarized_size

module _ (book : Bytes) (h : ℕ) (within : Within book h) where
  inside : h - 1 < book_heights book
  inside = omega arith

  -- height `h` is the next after `h - 1`
  named : {A : Type 0} (field : Height → A) {value : A} → value ≡ field (at (decode book) (suc (h - 1))) →
      value ≡ field (at (decode book) h)
  named field e = e ∙ ap (λ (k : ℕ). field (at (decode book) k)) (suc_pred h within.low)

  module _ (from : ℕ) (place : from ≡ 576 + 16 * (h - 1)) where
    pub leader_at : byte_at book from ≡ (at (decode book) h).leader
    leader_at = rw place (named (λ x. x.leader) (read_leader book (h - 1) inside))

    pub status_at : byte_at book (from + 1) ≡ (at (decode book) h).status
    status_at = rw place (named (λ x. x.status) (read_status book (h - 1) inside))

    pub mask_at_lem : (k : ℕ) → k < 4 → word16 book (from + (2 + 2 * k)) ≡ mask_at (at (decode book) h) k
    mask_at_lem zero l = rw place (named (λ x. x.certificate_mask) (read_certificate_mask book (h - 1) inside))
    mask_at_lem (suc zero) l = rw place (named (λ x. x.dummy_mask) (read_dummy_mask book (h - 1) inside))
    mask_at_lem (suc (suc zero)) l = rw place (named (λ x. x.finalize_mask) (read_finalize_mask book (h - 1) inside))
    mask_at_lem (suc (suc (suc zero))) l = rw place (named (λ x. x.voter_mask) (read_voter_mask book (h - 1) inside))
    mask_at_lem (suc (suc (suc (suc k)))) l = absurd (omega arith)

  module _ (from : ℕ) (place : from ≡ 576 + 16 * book_heights book + 864 * (h - 1)) where
    pub block_at_lem : (k : ℕ) → k < 2 → take (from + 176 * k + 176 - (from + 176 * k))
        (drop (from + 176 * k) book) ≡ block_at (at (decode book) h) k
    block_at_lem k l = cut_part book (from + 176 * k) 176 ∙ rw place (lies k l)
      where
        lies : (k : ℕ) → k < 2 → part book (576 + 16 * book_heights book + 864 * (h - 1) + 176 * k) 176 ≡ block_at
            (at (decode book) h) k
        lies zero l = rw add-zero (named (λ x. x.proposal) (read_proposal book (h - 1) inside))
        lies (suc zero) l = named (λ x. x.notarized) (read_notarized book (h - 1) inside)
        lies (suc (suc k)) l = absurd (omega arith)

    pub vote_at : (s : ℕ) → s < 16 → take (from + 352 + 32 * s + 32 - (from + 352 + 32 * s))
        (drop (from + 352 + 32 * s) book) ≡ vote_of (at (decode book) h) s
    vote_at s small = cut_part book (from + 352 + 32 * s) 32
        ∙ rw place (named (λ x. vote_of x s) (read_vote book (h - 1) inside s small))
