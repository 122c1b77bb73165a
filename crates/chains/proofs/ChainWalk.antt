-- One step of the walk back through a chain: what a linked height's block says, of its parent and of the chain's
-- entries.
use Rattle.std.proofs.Common.{ℕ, zero, suc, ◌+◌, ◌≤◌, ◌<◌, arith, ◌≡◌, sym, ap, subst, ◌∙◌, true, false, ◌++◌}
use Rattle.std.proofs.Common.{length, length-append}
use Rattle.protocol.specs.Bytes.{Bytes, holds}
use Rattle.protocol.specs.Block.{parent_height, entry_count, entries}
use Rattle.protocol.specs.State.{maximum_entries}
use Rattle.protocol.specs.Sound.{view}
use Rattle.protocol.specs.View.{log_at}
use Rattle.protocol.proofs.Laws.FormedLaws.{Formed, formed}
use Rattle.protocol.proofs.Laws.LinkedLaws.{linked_parent}
use Rattle.protocol.proofs.Laws.ChainLaws.{log_suc, log_bound}
use Rattle.sha256.specs.Digest.{sha256}
use Rattle.chains.specs.Walkable.{WalkableAs}
use Rattle.book_fields.specs.Book.{view_of}
use Rattle.book_fields.specs.Kinds.{BookKind}
use Rattle.protocol.proofs.Laws.EntriesLaws.{entries_length, holds_back}
use Rattle.protocol.proofs.Laws.EntriesLaws.{holds_front}
use Rattle.chains.specs.Entries.{first_entries}

pub record Step (kind : BookKind) (book : Bytes) (h : ℕ) (block : Bytes) : Type 0 where
  pub parent : WalkableAs kind book (parent_height block)
  pub below : parent_height block < h
  pub size : length block ≡ 176
  pub few : entry_count block ≤ 8
  pub log : log_at (view_of kind book) h ≡ log_at (view_of kind book) (parent_height block) ++ entries block

pub walk_step : {kind : BookKind} {book : Bytes} {h : ℕ} {block : Bytes} → WalkableAs kind book h → 0 < h →
    block ≡ (view_of kind book).block h → Step kind book h block
unfolding view
walk_step {h = zero} w low e = absurd (omega arith)
walk_step {kind} {book} {h = suc i} w low e =
    let (has, parent, on) = linked_parent sha256 (view_of kind book) i w.is_linked_lem in
    let lower = on.below in
    let f : Formed (suc i) ((view_of kind book).block (suc i)) =
    formed (suc i) _ (w.formed (suc i) (omega arith) has) in
    let h-high = w.high in
    subst (λ (b : Bytes). Step kind book (suc i) b) (sym e)
    (record {
      parent = record { shown = w.shown; high = omega arith; is_linked_lem = parent; formed = w.formed };
      below = lower;
      size = f.size;
      few = f.few_entries;
      log = log_suc sha256 (view_of kind book) i w.is_linked_lem;
    })

pub walk_few : {kind : BookKind} {book : Bytes} {h : ℕ} → WalkableAs kind book h →
    length (log_at (view_of kind book) h) ≤ maximum_entries
walk_few {kind} {book} {h} w =
    let bound = log_bound sha256 (view_of kind book) w.formed h w.is_linked_lem in
    let high = w.high in
    let heights = w.shown.heights in
    omega arith

pub walk_parent : {kind : BookKind} {book : Bytes} {h j : ℕ} {block : Bytes} → Step kind book h block →
    j ≡ parent_height block → WalkableAs kind book j
walk_parent {kind} {book} s e = subst (λ (k : ℕ). WalkableAs kind book k) (sym e) s.parent

pub walk_count : {kind : BookKind} {book : Bytes} {h j k : ℕ} {block : Bytes} → Step kind book h block →
    j ≡ parent_height block → k ≡ entry_count block →
    length (log_at (view_of kind book) h) ≡ length (log_at (view_of kind book) j) + k
walk_count {block = block} s p q = rw (p, q) (ap length s.log ∙ rw (length-append, entries_length block))

-- ---- whether the chain has an entry
-- all places of a block
pub all_entries_lem : (block : Bytes) (count : ℕ) → count ≡ entry_count block →
    first_entries count block ≡ entries block
unfolding entries
all_entries_lem block count e = ap (λ (k : ℕ). first_entries k block) e

pub walk_found : {kind : BookKind} {book : Bytes} {h : ℕ} {block : Bytes} (x : Bytes) → Step kind book h block →
    holds x (entries block) ≡ true → holds x (log_at (view_of kind book) h) ≡ true
walk_found {kind} {book} {block = block} x s e = ap (holds x) s.log
    ∙ holds_back x (log_at (view_of kind book) (parent_height block)) (entries block) e

pub walk_on : {kind : BookKind} {book : Bytes} {h j : ℕ} {block : Bytes} (x : Bytes) → Step kind book h block →
    j ≡ parent_height block → holds x (entries block) ≡ false →
    holds x (log_at (view_of kind book) h) ≡ holds x (log_at (view_of kind book) j)
walk_on {kind} {book} {block = block} x s p e =
    rw p (ap (holds x) s.log ∙ holds_front x (log_at (view_of kind book) (parent_height block)) (entries block) e)
