-- Written by tests/restated --write: what docs/statements has of
-- crates/call_laws/specs/BookBytes.antt.
use Rattle.std.specs.Prelude.{ℕ, ◌+◌, ◌-◌, ◌*◌, ◌≤◌, ◌≡◌, false, List, [], ◌∷◌, ◌++◌, map, length, set}
use package.Rattle.protocol.specs.Open.{Opening, opened_edition, opened_weights}
use package.Rattle.protocol.specs.Bytes.{Bytes, byte_at, zeros, join, put}
use package.Rattle.protocol.specs.State.{State, decode, flag, pending, weight_bytes, padded, short_number, number_bytes, head_put}
use package.Rattle.protocol.specs.State.{book_current}
use package.Rattle.protocol.specs.Submit.{still_pending}
use package.Rattle.call_laws.specs.BookBytes.{Signals, entries_after, Submits}
use mathlib.Core.Path.{◌≡◌ as ◌is-kept◌, refl as by-text}
use package.Rattle.call_laws.specs.BookBytes as page

opened_book-kept : Opening → ℕ → ℕ → ℕ → Bytes → Bytes
opened_book-kept way n own heights leaders =
    let e : ℕ = opened_edition way in
    (n ∷ own ∷ short_number e heights ∷ 0 ∷ short_number e 1 ∷ 0 ∷ 0 ∷ e ∷
    (weight_bytes e (padded (opened_weights n way)) ++ (number_bytes e heights 1 0 ++ zeros 512))) ++
    (join (map (λ leader. leader ∷ zeros 15) leaders) ++ zeros (864 * heights))

same-opened_book : opened_book-kept is-kept page.opened_book
unfolding opened_book-kept page.opened_book
same-opened_book = by-text

Signals-kept : (book : Bytes) (h : ℕ) (after : Bytes) (current : h ≡ book_current book) (was_clear : flag 1 (decode book) ≡ false) (bytes : after ≡ set book 3 (byte_at book 3 + 1)) →
    Signals book h after
Signals-kept book h after x0 x1 x2 = record { current = x0; was_clear = x1; bytes = x2 }

abbrev entries_after-kept : Bytes → Bytes → List Bytes
entries_after-kept book entry = still_pending (decode book) ++ (entry ∷ [])

same-entries_after : entries_after-kept is-kept page.entries_after
same-entries_after = by-text

Submits-kept : (book entry after : Bytes) (room : length (entries_after book entry) ≤ 32) (bytes : after ≡ put (set book 6 (length (entries_after book entry))) 64 (join (entries_after book entry) ++ zeros (512 - 16 * length (entries_after book entry)))) (now_pending : pending (decode after) ≡ entries_after book entry) →
    Submits book entry after
Submits-kept book entry after x0 x1 x2 = record { room = x0; bytes = x1; now_pending = x2 }

abbrev head_of-kept : Bytes → State → Bytes
head_of-kept book s = head_put 5 44 s.finalized (head_put 4 42 s.current (set book 3 s.flags))

same-head_of : head_of-kept is-kept page.head_of
same-head_of = by-text
