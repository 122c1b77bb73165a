-- The loop of `offer`: after `k` places the block has those of them that the chain lacks, and what follows from that.
use Rattle.std.proofs.Common.{ℕ, ◌*◌, ◌≤◌, ◌<◌, arith, ◌≡◌, ◌∙◌, List, [], length, take}
use Rattle.protocol.specs.Every.{Every, none}
use Rattle.protocol.specs.Bytes.{Bytes, part, over_front, without, Sized}
use Rattle.protocol.specs.Block.{new_block}
use Rattle.protocol.specs.State.{decode, pending, maximum_pending}
use Rattle.protocol.specs.Sound.{view}
use Rattle.protocol.specs.View.{log_at}
use Rattle.protocol.proofs.Laws.EntriesLaws.{lacked_sized}
use Rattle.chains.specs.Walkable.{Walkable}
use Rattle.chains.proofs.Pending.{pool_length, place_length, filled_length}
use Rattle.chains.proofs.Pending.{filled_over}

-- the entries of the first `k` places that the chain ending in height `j` lacks
abbrev pub lacked : Bytes → ℕ → ℕ → List Bytes
lacked book j k = without (log_at (view (decode book)) j) (take k (pending (decode book)))

module _ (book : Bytes) (j : ℕ) (w : Walkable book j) (most : (decode book).pending_count ≤ maximum_pending)
    (k : ℕ) where
  pub sized : Every (Sized 16) (lacked book j k)
  sized = lacked_sized (decode book) (log_at (view (decode book)) j) k (pool_length w) most

  pub entry_size : {entry : Bytes} → k < (decode book).pending_count → entry ≡ part (decode book).pool (16 * k) 16 →
      length entry ≡ 16
  entry_size l e = place_length (decode book).pool k (pool_length w) (omega arith) e

  -- `buffer` before the block was begun, `begun` when it was begun, `block` whenever the loop's test is reached
  module _ (h : ℕ) (digest buffer begun block : Bytes) (digest_size_lem : length digest ≡ 32)
      (first : begun ≡ over_front (new_block h j digest []) buffer) (few : length (lacked book j k) ≤ 8)
      (now : block ≡ over_front (new_block h j digest (lacked book j k)) begun) where
    pub same_size : 176 ≤ length buffer → length block ≡ length buffer
    same_size room =
        let began = filled_length h j digest digest_size_lem buffer [] none (omega arith) room first in
        filled_length h j digest digest_size_lem begun (lacked book j k) sized few (omega arith) now ∙ began

    pub all_over : {offer : List Bytes} → offer ≡ lacked book j k →
        block ≡ over_front (new_block h j digest offer) buffer
    all_over e = filled_over h j digest digest_size_lem buffer (lacked book j k) sized few first now e
