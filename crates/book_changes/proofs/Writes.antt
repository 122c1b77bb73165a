-- What the writes of a function make of a whole book, in the order in which the code makes them.
use Rattle.std.specs.Prelude.{ℕ, zero, suc, ◌+◌, ◌-◌, ◌*◌, ◌^◌, ◌≤◌, ◌<◌, ◌≡◌, refl, [], ◌∷◌, ◌++◌, length, set}
use Rattle.std.proofs.Common.{arith, ap, subst, ◌∙◌}
use Rattle.protocol.specs.SoundState.{ShapedHeight, Shaped}
use Rattle.protocol.specs.Bytes.{Bytes, le16, part, zeros, pieces, put}
use Rattle.protocol.specs.State.{State, Height, encode, decode, at, last, with_height, with_pool}
use Rattle.protocol.specs.State.{book_heights}
use Rattle.protocol.specs.Deliver.{with_proposal, with_notarized, with_vote}
use Rattle.protocol.specs.Submit.{with_pending}
use Rattle.protocol.proofs.Laws.BytesLaws.{length_part}
use Rattle.protocol.proofs.Laws.CodecLaws.{last_decode, decode_shaped}
use Rattle.protocol.proofs.Laws.PlaceLaws.{suc_pred, shaped_at}
use Rattle.protocol.proofs.Laws.FieldLaws.{read_proposal, read_entry}
use Rattle.protocol.proofs.Laws.WriteLaws.{with_status, with_certificate_mask, with_notarized_bytes, write_status}
use Rattle.protocol.proofs.Laws.WriteLaws.{write_certificate_mask, write_notarized}
use Rattle.protocol.proofs.Laws.ChangeLaws.{named_height}
use Rattle.protocol.proofs.Laws.BookLaws.{book_pool, book_proposal, book_dummy_mask, book_finalize_mask, book_vote}
use Rattle.protocol.proofs.Laws.PoolLaws.{book_finish}
use Rattle.book_fields.specs.Book.{Ready, Within}
use Rattle.book_fields.specs.Numbered.{with_mask_at}
use Rattle.book_fields.proofs.Places.{height_shaped}

-- ---- a notarized block: the block first, then status and mask
notarized_last : (x : Height) (mask : ℕ) (block : Bytes) →
    with_certificate_mask (with_status (with_notarized_bytes x block) (x.status + 2)) mask ≡ with_notarized x mask block
unfolding with_notarized with_notarized_bytes with_certificate_mask with_status
notarized_last x mask block = refl

write_block : (s : State) (shaped : Shaped s) (i : ℕ) (inside : i < last s) (x : Height) (fits : ShapedHeight x)
    (mask : ℕ) (block : Bytes) → length block ≡ 176 →
    put (set (put (encode (with_height s (suc i) x)) (576 + 16 * last s + 864 * i + 176) block) (576 + 16 * i + 1)
    (x.status + 2)) (576 + 16 * i + 2) (le16 mask) ≡
    encode (with_height s (suc i) (with_notarized x mask block))
write_block s shaped i inside x fits mask block e =
    rw (
      write_notarized s shaped i inside x fits block e,
      write_status s shaped i inside (with_notarized_bytes x block) (x.status + 2),
      ← notarized_last x mask block,
    )
    (write_certificate_mask s shaped i inside (with_status (with_notarized_bytes x block) (x.status + 2)) mask)

book_block : (book : Bytes) → Ready book → (i : ℕ) → i < book_heights book → (mask : ℕ) (block : Bytes) →
    length block ≡ 176 →
    put (set (put book (576 + 16 * book_heights book + 864 * i + 176) block) (576 + 16 * i + 1)
    ((at (decode book) (suc i)).status + 2)) (576 + 16 * i + 2) (le16 mask) ≡
    encode (with_height (decode book) (suc i) (with_notarized (at (decode book) (suc i)) mask block))
book_block book ready i inside mask block e =
    let within : i < last (decode book) = rw (last_decode book) inside in
    let shaped : Shaped (decode book) = decode_shaped book ready.readable.sized.size in
    rw (named_height book i ready.whole, last_decode book) at
    (write_block (decode book) shaped i within (at (decode book) (suc i)) (shaped_at (decode book) i shaped within) mask
    block e)

-- ---- the pool
module _ (book : Bytes) (ready : Ready book) where
  pub moved_place : (from to : ℕ) → to ≤ from → from < 32 →
      put book (64 + 16 * to) (part book (64 + 16 * from) 16) ≡
      encode (with_pool (decode book) (decode book).pending_count
      (put (decode book).pool (16 * to) (part (decode book).pool (16 * from) 16)))
  moved_place from to down small =
      let size : length (part (decode book).pool (16 * from) 16) ≡ 16 =
      length_part (decode book).pool (16 * from) 16
      (omega (arith, (decode_shaped book ready.readable.sized.size).pool_size_lem)) in
      ap (λ (entry : Bytes). put book (64 + 16 * to) entry) (read_entry book from small) ∙
      book_pool book ready.whole ready.readable.sized.size (16 * to) (part (decode book).pool (16 * from) 16)
      (omega arith)

  -- `copied` is the book after the entry was copied, and `cleared` after the places past it were cleared
  pub finished_pool : (count : ℕ) (entry : Bytes) → count < 32 → length entry ≡ 16 → (copied cleared : Bytes) →
      copied ≡ put book (64 + 16 * count) entry →
      cleared ≡ put copied (64 + 16 * (count + 1)) (zeros (512 - 16 * (count + 1))) →
      set cleared 6 (count + 1) ≡ encode (with_pending (decode book)
      (pieces 16 count (decode book).pool ++ (entry ∷ [])))
  finished_pool count entry few e copied cleared copy clear =
      rw (clear, copy) (book_finish book ready.whole ready.readable.sized.size count entry few e)

-- ---- height `h`, where the code has computed its places
module _ (book : Bytes) (ready : Ready book) (h : ℕ) (within : Within book h) where
  inside : h - 1 < book_heights book
  inside = omega arith

  -- height `h` is the next after `h - 1`
  named : (claim : ℕ → Type 0) → claim (suc (h - 1)) → claim h
  named claim p = subst claim (suc_pred h within.low) p

  module _ (content : ℕ) (content-place : content ≡ 576 + 16 * (h - 1)) where
    pub mask_set : (k : ℕ) → 1 ≤ k → k ≤ 2 → (mask : ℕ) →
        put book (content + (2 + 2 * k)) (le16 mask) ≡ encode
        (with_height (decode book) h (with_mask_at (at (decode book) h) k mask))
    mask_set zero low high mask = absurd (omega arith)
    mask_set (suc zero) low high mask =
        rw content-place
        (named (λ i. put book (576 + 16 * (h - 1) + 4) (le16 mask) ≡ encode
        (with_height (decode book) i (with_mask_at (at (decode book) i) 1 mask)))
        (book_dummy_mask book ready.whole ready.readable.sized.size (h - 1) inside mask))
    mask_set (suc (suc zero)) low high mask =
        rw content-place
        (named (λ i. put book (576 + 16 * (h - 1) + 6) (le16 mask) ≡ encode
        (with_height (decode book) i (with_mask_at (at (decode book) i) 2 mask)))
        (book_finalize_mask book ready.whole ready.readable.sized.size (h - 1) inside mask))
    mask_set (suc (suc (suc k))) low high mask = absurd (omega arith)

    module _ (body : ℕ) (body-place : body ≡ 576 + 16 * book_heights book + 864 * (h - 1)) where
      pub held_proposal : part book body 176 ≡ (at (decode book) h).proposal
      held_proposal =
          rw body-place
          (named (λ k. part book (576 + 16 * book_heights book + 864 * (h - 1)) 176 ≡ (at (decode book) k).proposal)
          (read_proposal book (h - 1) inside))

      module _ (status : ℕ) (status_is : status ≡ (at (decode book) h).status) where
        pub proposal_set : (block : Bytes) → length block ≡ 176 →
            put (set book (content + 1) (status + 1)) body block ≡ encode
            (with_height (decode book) h (with_proposal (at (decode book) h) block))
        proposal_set block e =
            rw (content-place, body-place, status_is)
            (named (λ k. put (set book (576 + 16 * (h - 1) + 1) ((at (decode book) k).status + 1))
            (576 + 16 * book_heights book + 864 * (h - 1)) block ≡
            encode (with_height (decode book) k (with_proposal (at (decode book) k) block)))
            (book_proposal book ready.whole ready.readable.sized.size (h - 1) inside block e))

        -- `copied` is the book after the block was copied to its place, and `marked` after status and mask were written
        pub notarized_set : (mask : ℕ) (block : Bytes) → length block ≡ 176 → (copied : Bytes) →
            copied ≡ put book (body + 176) block →
            (marked : Bytes) → marked ≡ put (set copied (content + 1) (status + 2)) (content + 2) (le16 mask) →
            marked ≡ encode (with_height (decode book) h (with_notarized (at (decode book) h) mask block))
        notarized_set mask block e copied copy marked mark =
            rw (mark, copy, content-place, body-place, status_is)
            (named (λ k. put (set (put book (576 + 16 * book_heights book + 864 * (h - 1) + 176) block)
            (576 + 16 * (h - 1) + 1) ((at (decode book) k).status + 2)) (576 + 16 * (h - 1) + 2) (le16 mask) ≡
            encode (with_height (decode book) k (with_notarized (at (decode book) k) mask block)))
            (book_block book ready (h - 1) inside mask block e))

        -- the same with the held proposal, copied inside the book
        pub held_set : (mask : ℕ) (copied : Bytes) → copied ≡ put book (body + 176) (part book body 176) →
            (marked : Bytes) → marked ≡ put (set copied (content + 1) (status + 2)) (content + 2) (le16 mask) →
            marked ≡ encode (with_height (decode book) h
            (with_notarized (at (decode book) h) mask (at (decode book) h).proposal))
        held_set mask copied copy marked mark =
            notarized_set mask (at (decode book) h).proposal
            (height_shaped book h ready.readable.sized.size within).proposal_size copied
            (copy ∙ ap (λ (block : Bytes). put book (body + 176) block) held_proposal) marked mark

      -- `marked` is the book after the voter mask was written
      pub vote_set : (r : ℕ) (digest : Bytes) → r < 16 → length digest ≡ 32 → (mask : ℕ) →
          mask ≡ (at (decode book) h).voter_mask + 2 ^ r →
          (marked : Bytes) → marked ≡ put book (content + 8) (le16 mask) →
          put marked (body + (352 + 32 * r)) digest ≡ encode
          (with_height (decode book) h (with_vote (at (decode book) h) r digest))
      vote_set r digest small e mask mask_is marked mark =
          rw (mark, content-place, body-place, mask_is)
          (named (λ k. put (put book (576 + 16 * (h - 1) + 8) (le16 ((at (decode book) k).voter_mask + 2 ^ r)))
          (576 + 16 * book_heights book + 864 * (h - 1) + (352 + 32 * r)) digest ≡
          encode (with_height (decode book) k (with_vote (at (decode book) k) r digest)))
          (book_vote book ready.whole ready.readable.sized.size (h - 1) inside r digest small e))
