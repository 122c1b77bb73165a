-- The loop of `add_pending`: after `k` places the pool begins with those of them that stay, and what follows from it.
use Rattle.std.proofs.Common.{ℕ, ◌+◌, ◌*◌, ◌≤◌, ◌<◌, arith, ◌≡◌, ◌∙◌, Bool, true, false, [], ◌∷◌, ◌++◌}
use Rattle.protocol.specs.Bytes.{Bytes, part, holds}
use Rattle.protocol.specs.State.{decode, encode, maximum_pending}
use Rattle.protocol.specs.Sound.{view, log}
use Rattle.protocol.specs.View.{log_at}
use Rattle.protocol.proofs.Laws.PoolLaws.{moved}
use Rattle.protocol.proofs.Laws.EntriesLaws.{place_leaves, place_stays}
use Rattle.book_fields.specs.Book.{Ready}
use Rattle.chains.proofs.Closing.{staying, closed_log, closed_place}

-- what is known whenever the loop's test is reached: `book` is the book as it was, `after` as it is
module _ (book : Bytes) (r : Ready book) (few : (decode book).pending_count ≤ maximum_pending) (k : ℕ)
    (inside : k < (decode book).pending_count) (after : Bytes)
    (closed : after ≡ encode (moved (decode book) (staying (decode book) k))) where
  within : k ≤ maximum_pending
  within = omega arith

  -- the entry at place `k` is that of the book as it was, and so is the log that it is looked for in
  pub entry_now : {entry : Bytes} → entry ≡ part (decode after).pool (16 * k) 16 →
      entry ≡ part (decode book).pool (16 * k) 16
  entry_now e = e ∙ closed_place book r few k within after closed

  module _ (finalized : ℕ) (at_end : finalized ≡ (decode book).finalized) (entry : Bytes)
      (read : entry ≡ part (decode after).pool (16 * k) 16) {found : Bool}
      (asked : found ≡ holds entry (log_at (view (decode after)) finalized)) where
    found_now : found ≡ holds entry (log (decode book))
    found_now = asked ∙ closed_log book r few k within after closed entry finalized at_end

    pub now_leaves : found ≡ true → staying (decode book) (k + 1) ≡ staying (decode book) k
    now_leaves e = place_leaves (decode book) (log (decode book)) k inside (entry_now read) found_now e

    pub now_stays : found ≡ false → staying (decode book) (k + 1) ≡ staying (decode book) k ++ (entry ∷ [])
    now_stays e = place_stays (decode book) (log (decode book)) k inside (entry_now read) found_now e
