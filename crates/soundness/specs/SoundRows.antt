-- The rows of soundness in the groups in which the code tests them: those of the head, of one height, and of the
-- finalized height.
use Rattle.std.specs.Prelude.{ℕ, ◌+◌, Bool, ◌||◌, List, [], ◌∷◌, length, eqb, leb, ltb}
use Rattle.protocol.specs.Bytes.{Bytes, is_zero}
use Rattle.protocol.specs.Tests.{all_of, implies, in_range, every_height}
use Rattle.protocol.specs.State.{decode, book_size, is_notarized, book_heights, maximum_pending}
use Rattle.protocol.specs.View.{quorum, is_finalized}
use Rattle.protocol.specs.Sound.{masks_below, blocks_well_formed, content_zeros}
use Rattle.book_fields.specs.Book.{height_in, book_view}
use Rattle.book_fields.specs.Setting.{setting_rows}

-- what the numbers must be that only a replica has
unfoldable pub number_rows : Bytes → List Bool
number_rows book =
    ltb (decode book).own (decode book).n ∷
    in_range 1 (book_heights book + 1) (decode book).current ∷
    ltb (decode book).flags 16 ∷
    leb (decode book).pending_count maximum_pending ∷ []

-- what the length and the first 64 bytes must be
unfoldable pub head_rows : Bytes → List Bool
head_rows book =
    eqb (length book) (book_size (book_heights book)) ∷
    all_of (setting_rows book) ∷
    all_of (number_rows book) ∷ []

-- the notarized block of height `h`, if there is one, has the certificate of a quorum
abbrev pub certificate_row : Bytes → ℕ → Bool
certificate_row book h = implies (is_notarized (height_in book h))
    (quorum (book_view book) (height_in book h).certificate_mask)

-- what height `h` must be
unfoldable pub height_rows : Bytes → ℕ → List Bool
height_rows book h =
    ltb (height_in book h).leader (decode book).n ∷
    masks_below (decode book).n (height_in book h) ∷
    leb (height_in book h).status 3 ∷
    blocks_well_formed h (height_in book h) ∷
    certificate_row book h ∷
    is_zero (content_zeros book h) ∷ []

-- what all but the finalized height must be
unfoldable pub book_rows : Bytes → List Bool
book_rows book = all_of (head_rows book) ∷ every_height (λ h. all_of (height_rows book h)) (book_heights book) ∷ []

-- the finalized height is 0 or finalized
unfoldable pub final_row : (Bytes → Bytes) → Bytes → Bool
final_row digest book = eqb (decode book).finalized 0 || is_finalized digest (book_view book) (decode book).finalized
