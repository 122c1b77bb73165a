-- The rows of an observer's soundness in the groups in which the code tests them: those of the head, of one height, and
-- of the finalized height.
use Rattle.std.specs.Prelude.{ℕ, Bool, ◌||◌, List, [], ◌∷◌, length, eqb}
use Rattle.protocol.specs.Bytes.{Bytes, is_zero}
use Rattle.protocol.specs.Tests.{all_of, implies, every_height}
use Rattle.protocol.specs.Block.{block_well_formed}
use Rattle.protocol.specs.State.{is_notarized, book_heights}
use Rattle.protocol.specs.View.{quorum, is_finalized}
use Rattle.protocol.specs.Sound.{view, masks_below}
use Rattle.protocol.specs.Observer.{observer_state, observer_book_size}
use Rattle.protocol.specs.ObserverSound.{replica_head, observed_zero}
use Rattle.book_fields.specs.Book.{observed_in}
use Rattle.book_fields.specs.Setting.{setting_rows}

-- what the length and the first 64 bytes must be
unfoldable pub head_rows : Bytes → List Bool
head_rows book =
    eqb (length book) (observer_book_size (book_heights book)) ∷
    all_of (setting_rows book) ∷
    is_zero (replica_head book) ∷ []

-- the notarized block of height `h`, if there is one, is well formed
unfoldable pub block_row : Bytes → ℕ → Bool
block_row book h = implies (is_notarized (observed_in book h)) (block_well_formed h (observed_in book h).notarized)

-- and has the certificate of a quorum
unfoldable pub certificate_row : Bytes → ℕ → Bool
certificate_row book h = implies (is_notarized (observed_in book h))
    (quorum (view (observer_state book)) (observed_in book h).certificate_mask)

-- what height `h` must be
unfoldable pub height_rows : Bytes → ℕ → List Bool
height_rows book h =
    masks_below (observer_state book).n (observed_in book h) ∷
    (eqb (observed_in book h).status 0 || eqb (observed_in book h).status 2) ∷
    block_row book h ∷
    certificate_row book h ∷
    eqb (observed_zero book h) 0 ∷ []

-- what all but the finalized height must be
unfoldable pub book_rows : Bytes → List Bool
book_rows book = all_of (head_rows book) ∷ every_height (λ h. all_of (height_rows book h)) (book_heights book) ∷ []

-- the finalized height is 0 or finalized
unfoldable pub final_row : (Bytes → Bytes) → Bytes → Bool
final_row digest book =
    eqb (observer_state book).finalized 0 ||
    is_finalized digest (view (observer_state book)) (observer_state book).finalized
