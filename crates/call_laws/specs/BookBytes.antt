-- What Open, Signal, Submit and Move leave of a book's bytes where they are not refused: what they write, and every
-- other byte as it was. What Deliver leaves is in `Keeping`.
use Rattle.std.specs.Prelude.{ℕ, ◌+◌, ◌-◌, ◌*◌, ◌≤◌, ◌≡◌, false, List, [], ◌∷◌, ◌++◌, map, length, set}
use Rattle.protocol.specs.Open.{Opening, opened_edition, opened_weights}
use Rattle.protocol.specs.Bytes.{Bytes, byte_at, zeros, join, put}
use Rattle.protocol.specs.State.{State, decode, flag, pending, weight_bytes, padded, short_number, number_bytes, head_put}
use Rattle.protocol.specs.State.{book_current}
use Rattle.protocol.specs.Submit.{still_pending}

-- Open: n, own number, H, flags 0, c 1, g 0, no pending entry, the edition, the weights if it has any; for each height
-- its leader; and zeros
unfoldable pub opened_book : Opening → ℕ → ℕ → ℕ → Bytes → Bytes
opened_book way n own heights leaders =
    let e : ℕ = opened_edition way in
    (n ∷ own ∷ short_number e heights ∷ 0 ∷ short_number e 1 ∷ 0 ∷ 0 ∷ e ∷
    (weight_bytes e (padded (opened_weights n way)) ++ (number_bytes e heights 1 0 ++ zeros 512))) ++
    (join (map (λ leader. leader ∷ zeros 15) leaders) ++ zeros (864 * heights))

-- Signal: flag 1 was clear and is added to byte 3; the height is the current one
pub record Signals (book : Bytes) (h : ℕ) (after : Bytes) : Type 0 where
  pub current : h ≡ book_current book
  pub was_clear : flag 1 (decode book) ≡ false
  pub bytes : after ≡ set book 3 (byte_at book 3 + 1)

-- the entries after Submit: those pending that the log does not hold, in order, and then the new one
abbrev pub entries_after : Bytes → Bytes → List Bytes
entries_after book entry = still_pending (decode book) ++ (entry ∷ [])

-- Submit: byte 6 becomes their number, and bytes 64 to 575 become these entries with zeros after them
pub record Submits (book entry after : Bytes) : Type 0 where
  pub room : length (entries_after book entry) ≤ 32
  pub bytes :
      after ≡
      put (set book 6 (length (entries_after book entry))) 64
      (join (entries_after book entry) ++ zeros (512 - 16 * length (entries_after book entry)))
  pub now_pending : pending (decode after) ≡ entries_after book entry

-- Move: byte 3, and c and g where the edition has them, become those of the state that the step leaves
abbrev pub head_of : Bytes → State → Bytes
head_of book s = head_put 5 44 s.finalized (head_put 4 42 s.current (set book 3 s.flags))
