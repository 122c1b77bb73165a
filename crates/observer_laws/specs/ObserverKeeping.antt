-- What a delivery to an observer leaves where it is not refused: what the certificate says is kept, all that was kept
-- before stays, and no other byte changes; the answer says whether a byte did. That this leaves no choice is
-- `ObserverExactLaws.observer_keeps_exact`.
use Rattle.std.specs.Prelude.{ℕ, ◌+◌, ◌-◌, ◌*◌, ◌<◌, ◌≡◌, ◌≢◌, true, false, ◌&&◌, ◌||◌, cond, List, [], ◌∷◌, length}
use Rattle.protocol.specs.Bytes.{Bytes, byte_at, AreBytes}
use Rattle.protocol.specs.Answer.{Delivery, known, fresh}
use Rattle.protocol.specs.Mask.{in_mask}
use Rattle.protocol.specs.Frame.{kind, frame_height, signer_mask, frame_block, is_block_certificate, is_dummy_certificate}
use Rattle.protocol.specs.Frame.{is_finalize_certificate}
use Rattle.protocol.specs.State.{Height, at, book_heights, with_height, is_notarized}
use Rattle.protocol.specs.Observer.{observer_state}
use Rattle.protocol.specs.ObserverSound.{observer_sound}
use Rattle.call_laws.specs.KeptBytes.{Part, SameOutside}

-- ---- where height `h` stands in an observer's book of `heights` heights
module _ (heights h : ℕ) where
  -- its contents: 0 state, 1 zero, 2 certificate mask, 4 dummy votes, 6 finalizes
  abbrev pub observed_content_at : ℕ
  observed_content_at = 64 + 8 * (h - 1)

  -- its notarized block
  abbrev pub observed_block_at : ℕ
  observed_block_at = 64 + 8 * heights + 176 * (h - 1)

  -- all that a certificate of kind `k` may write: a block with state and mask, or the mask of dummy votes, or that of
  -- finalizes
  unfoldable pub certificate_parts : ℕ → List Part
  certificate_parts k =
      cond (is_block_certificate k)
      ((observed_block_at, 176) ∷ (observed_content_at, 1) ∷ (observed_content_at + 2, 2) ∷ [])
      (cond (is_dummy_certificate k) ((observed_content_at + 4, 2) ∷ []) ((observed_content_at + 6, 2) ∷ []))

-- ---- the block and its certificate
pub record SameBlock (x y : Height) : Type 0 where
  pub same_status : y.status ≡ x.status
  pub same_certificate : y.certificate_mask ≡ x.certificate_mask
  pub same_block : y.notarized ≡ x.notarized

pub record BlockOf (frame : Bytes) (y : Height) : Type 0 where
  pub notarized : y.status ≡ 2
  pub its_signers : y.certificate_mask ≡ signer_mask frame
  pub its_block : y.notarized ≡ frame_block frame

-- ---- one height among `n` replicas, `x` before and `y` after a certificate
pub record KeepsCertificate (n : ℕ) (frame : Bytes) (x y : Height) : Type 0 where
  -- who voted for the dummy block, and who finalizes: those known before, and those that the certificate names
  pub dummies : (t : ℕ) → t < n → in_mask y.dummy_mask t ≡
      (in_mask x.dummy_mask t || (is_dummy_certificate (kind frame) && in_mask (signer_mask frame) t))
  pub finalizes : (t : ℕ) → t < n → in_mask y.finalize_mask t ≡
      (in_mask x.finalize_mask t || (is_finalize_certificate (kind frame) && in_mask (signer_mask frame) t))
  -- the first notarized block stays, and certificates of kinds 6 and 7 change none
  pub first_block_lem : is_notarized x ≡ true → SameBlock x y
  pub no_block : kind frame ≢ 5 → SameBlock x y
  -- a certified block is notarized where none was, and where one was it is that one
  pub this_block : kind frame ≡ 5 → is_notarized x ≡ false → BlockOf frame y
  pub known_block : kind frame ≡ 5 → is_notarized x ≡ true → x.notarized ≡ frame_block frame

-- ---- the bytes of a book, and those after a delivery that answered `news`
pub record ObserverKeeps (digest : Bytes → Bytes) (book frame : Bytes) (news : Delivery) (after : Bytes) : Type 0 where
  -- known: no byte has changed; fresh: one has
  pub known_same : news ≡ known → after ≡ book
  pub fresh_differs : news ≡ fresh → (i : ℕ) × (i < length book) × (byte_at after i ≢ byte_at book i)
  -- only the bytes listed above may have changed (a book's numbers are bytes, as in a slice)
  pub other_bytes : AreBytes book →
      SameOutside (certificate_parts (book_heights book) (frame_height frame) (kind frame)) book after
  pub same_length : length after ≡ length book
  -- and they hold what the certificate says, with no bit of a mask from n up, as in each sound book
  pub elsewhere : observer_state after ≡
      with_height (observer_state book) (frame_height frame) (at (observer_state after) (frame_height frame))
  pub here : KeepsCertificate (observer_state book).n frame (at (observer_state book) (frame_height frame))
      (at (observer_state after) (frame_height frame))
  pub stays_sound : observer_sound digest after ≡ true
