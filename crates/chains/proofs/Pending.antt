-- Turns of the loops over pending entries: one looked for, those that a chain lacks counted, and a block filled with
-- them.
use Rattle.std.proofs.Common.{ℕ, ◌+◌, ◌*◌, ◌≤◌, ◌<◌, arith, ◌≡◌, refl, sym, ap, subst, ◌∙◌, List, [], ◌∷◌, ◌++◌}
use Rattle.std.proofs.Common.{length, take, length-append, length-drop}
use Rattle.protocol.specs.Every.{Every, none}
use Rattle.protocol.specs.Bytes.{Bytes, part, over_front, without, put, Sized}
use Rattle.protocol.proofs.Laws.BytesLaws.{length_part}
use Rattle.protocol.specs.Block.{new_block}
use Rattle.protocol.specs.State.{State, decode, pending, maximum_pending}
use Rattle.protocol.specs.Sound.{view}
use Rattle.protocol.specs.View.{log_at}
use Rattle.protocol.specs.Submit.{still_pending}
use Rattle.protocol.proofs.Laws.CodecLaws.{decode_shaped}
use Rattle.protocol.proofs.Laws.EntriesLaws.{pending_all}
use Rattle.protocol.proofs.Laws.LogLaws.{log_lacks}
use Rattle.protocol.proofs.Laws.BlockLaws.{new_block_size}
use Rattle.protocol.proofs.Laws.BuildLaws.{block_more}
use Rattle.protocol.proofs.Laws.FrontLaws.{front_again}
use Rattle.chains.specs.Walkable.{Walkable}

-- ---- a book's places
pub walk_at : {book : Bytes} {h k : ℕ} → Walkable book h → k ≡ h → Walkable book k
walk_at {book} w e = subst (λ (i : ℕ). Walkable book i) (sym e) w

pub pool_length : {book : Bytes} {h : ℕ} → Walkable book h → length (decode book).pool ≡ 512
pool_length {book} w = (decode_shaped book w.shown.sized.size).pool_size_lem

pub place_length : (pool : Bytes) (k : ℕ) {entry : Bytes} → length pool ≡ 512 → k < maximum_pending →
    entry ≡ part pool (16 * k) 16 → length entry ≡ 16
place_length pool k size few e = ap length e ∙ length_part pool (16 * k) 16 (omega arith)

-- ---- those that stay
pub one_more : (es : List Bytes) (entry : Bytes) {more : List Bytes} {left : ℕ} → left ≡ length es →
    more ≡ es ++ (entry ∷ []) → left + 1 ≡ length more
one_more es entry p q = rw p (sym (ap length q ∙ length-append es (entry ∷ [])))

pub all_stay : (s : State) (finalized k : ℕ) → finalized ≡ s.finalized → s.pending_count ≤ k →
    without (log_at (view s) finalized) (take k (pending s)) ≡ still_pending s
unfolding still_pending
all_stay s finalized k p h = rw (p, pending_all s k h) (sym (log_lacks s (pending s)))

-- ---- a block that is filled
pub begun_again : (new buffer : Bytes) {after : Bytes} → after ≡ over_front new buffer → after ≡ over_front new after
begun_again new buffer e = e ∙ sym (front_again new new buffer refl) ∙ ap (over_front new) (sym e)

over_length : (new buffer : Bytes) → length new ≤ length buffer → length (over_front new buffer) ≡ length buffer
unfolding over_front
over_length new buffer h = simp (length-append, length-drop) (omega arith)

module _ (h parent : ℕ) (digest : Bytes) (digest_size_lem : length digest ≡ 32) (buffer : Bytes) where
  pub filled_length : (es : List Bytes) {block : Bytes} → Every (Sized 16) es → length es ≤ 8 → 176 ≤ length buffer →
      block ≡ over_front (new_block h parent digest es) buffer → length block ≡ length buffer
  filled_length es sized few room e =
      let size = new_block_size h parent digest es digest_size_lem sized few in
      ap length e ∙ over_length (new_block h parent digest es) buffer (omega arith)

  pub filled_more : (es : List Bytes) (entry : Bytes) {more : List Bytes} {block after : Bytes} {taken : ℕ} →
      Every (Sized 16) es → taken ≡ length es → taken < 8 → length entry ≡ 16 →
      more ≡ es ++ (entry ∷ []) → block ≡ over_front (new_block h parent digest es) buffer →
      after ≡ put (put block (48 + 16 * taken) entry) 4 ((taken + 1) ∷ []) →
      after ≡ over_front (new_block h parent digest more) buffer
  filled_more es entry {taken = taken} sized count room size m b a =
      a ∙
      ap (λ (l : Bytes). put (put l (48 + 16 * taken) entry) 4 ((taken + 1) ∷ [])) b ∙
      block_more h parent digest digest_size_lem buffer taken es entry sized (sym count) room size ∙
      ap (λ (l : List Bytes). over_front (new_block h parent digest l) buffer) (sym m)

  pub filled_over : (es : List Bytes) {begun block : Bytes} {offer : List Bytes} → Every (Sized 16) es → length es ≤ 8 →
      begun ≡ over_front (new_block h parent digest []) buffer →
      block ≡ over_front (new_block h parent digest es) begun → offer ≡ es →
      block ≡ over_front (new_block h parent digest offer) buffer
  filled_over es sized few b e o =
      let size = new_block_size h parent digest es digest_size_lem sized few in
      let first = new_block_size h parent digest [] digest_size_lem none (omega arith) in
      e ∙
      ap (over_front (new_block h parent digest es)) b ∙
      front_again (new_block h parent digest es) (new_block h parent digest []) buffer (size ∙ sym first) ∙
      ap (λ (l : List Bytes). over_front (new_block h parent digest l) buffer) (sym o)
