-- The chain of a linked height and its entries, built from those of its parent, and their sizes.
use Rattle.std.specs.Prelude.{ℕ, zero, suc, ◌*◌, ◌≤◌, ◌≡◌, true, length, drop}
use Rattle.std.proofs.Common.{arith, sym, ◌∙◌, length-append, length-drop}
use Rattle.std.proofs.Math.Path.{ap}
use mathlib.Core.List.{List, [], ◌∷◌, ◌++◌}
use Rattle.protocol.specs.Every.{Every, none}
use Rattle.protocol.specs.Bytes.{Bytes, join, Sized}
use Rattle.protocol.proofs.Laws.FormedLaws.{formed}
use Rattle.protocol.proofs.Laws.EveryLaws.{every_append}
use Rattle.protocol.proofs.Laws.PiecesLaws.{length_join, length_pieces, pieces_sized}
use Rattle.protocol.proofs.Laws.DistinctLaws.{every_distinct}
use Rattle.protocol.specs.Block.{parent_height, entry_count, entries, all_entries, block_well_formed}
use Rattle.protocol.specs.Distinct.{distinct}
use Rattle.protocol.specs.View.{View, linked, chain_within, chain, log_at}
use Rattle.protocol.proofs.Laws.ViewLaws.{chain_none, chain_step, log_zero, all_entries-append, all_entries-one}
use Rattle.protocol.proofs.Laws.LinkedLaws.{linked_parent}

-- ---- chains
module _ (digest : Bytes → Bytes) (v : View) where
  -- two fuels that suffice give one chain
  same_chain : (f g h : ℕ) → linked digest v h ≡ true → h ≤ f → h ≤ g → chain_within f v h ≡ chain_within g v h
  same_chain zero g zero e p q = chain_none zero v ∙ sym (chain_none g v)
  same_chain zero g (suc i) e p q = absurd (omega arith)
  same_chain (suc f) g zero e p q = chain_none (suc f) v ∙ sym (chain_none g v)
  same_chain (suc f) zero (suc i) e p q = absurd (omega arith)
  same_chain (suc f) (suc g) (suc i) e p q =
      let (has, parent, on) = linked_parent digest v i e in
      let lower = on.below in
      rw (
        chain_step f v i,
        chain_step g v i,
        same_chain f g (parent_height (v.block (suc i))) parent (omega arith)
            (omega arith),
      )

  pub chain_within_lem : (f h : ℕ) → linked digest v h ≡ true → h ≤ f → chain_within f v h ≡ chain v h
  unfolding chain
  chain_within_lem f h e p = same_chain f h h e p (omega arith)

  pub chain_suc : (i : ℕ) → linked digest v (suc i) ≡ true →
      chain v (suc i) ≡ chain v (parent_height (v.block (suc i))) ++ (v.block (suc i) ∷ [])
  chain_suc i e =
      let (has, parent, on) = linked_parent digest v i e in
      let lower = on.below in
      unfold chain in chain_step i v i ∙ ap (λ (c : List Bytes). c ++ (v.block (suc i) ∷ []))
      (chain_within_lem i (parent_height (v.block (suc i))) parent (omega arith))

  pub log_suc : (i : ℕ) → linked digest v (suc i) ≡ true →
      log_at v (suc i) ≡ log_at v (parent_height (v.block (suc i))) ++ entries (v.block (suc i))
  unfolding log_at
  log_suc i e =
      let p = chain v (parent_height (v.block (suc i))) in
      let b = v.block (suc i) in
      ap all_entries (chain_suc i e) ∙ all_entries-append p (b ∷ [])
      ∙ ap (λ (x : List Bytes). all_entries p ++ x) (all_entries-one b)

-- ---- sizes
pub entries_sized : (h : ℕ) (block : Bytes) → block_well_formed h block ≡ true → Every (Sized 16) (entries block)
unfolding entries
entries_sized h block e =
    let is = formed h block e in
    pieces_sized 16 (entry_count block) (drop 48 block) (simp length-drop (omega arith))

pub entries_count : (h : ℕ) (block : Bytes) → block_well_formed h block ≡ true → length (entries block) ≤ 8
unfolding entries
entries_count h block e =
    let is = formed h block e in
    let n = length_pieces 16 (entry_count block) (drop 48 block) in
    omega arith

module _ (digest : Bytes → Bytes) (v : View) (formed : (h : ℕ) → 1 ≤ h → v.has_block h ≡ true →
    block_well_formed h (v.block h) ≡ true) where
  -- a property of logs that each block's entries keep
  log_induction : (P : ℕ → List Bytes → Type 0) → P 0 [] →
      ((i j : ℕ) (log : List Bytes) → j ≤ i → P j log → block_well_formed (suc i) (v.block (suc i)) ≡ true →
      P (suc i) (log ++ entries (v.block (suc i)))) →
      (f h : ℕ) → h ≤ f → linked digest v h ≡ true → P h (log_at v h)
  log_induction P base step zero zero l e = rw log_zero base
  log_induction P base step zero (suc i) l e = absurd (omega arith)
  log_induction P base step (suc f) zero l e = rw log_zero base
  log_induction P base step (suc f) (suc i) l e =
      let (has, parent, on) = linked_parent digest v i e in
      let lower = on.below in
      let below = log_induction P base step f (parent_height (v.block (suc i))) (omega arith) parent in
      rw (log_suc digest v i e)
      (step i (parent_height (v.block (suc i))) (log_at v (parent_height (v.block (suc i)))) (omega arith) below
      (formed (suc i) (omega arith) has))

  pub log_sized : (h : ℕ) → linked digest v h ≡ true → Every (Sized 16) (log_at v h)
  log_sized h e =
      log_induction (λ i log. Every (Sized 16) log) none
      (λ i j log l p w. every_append p (entries_sized (suc i) (v.block (suc i)) w)) h h (omega arith) e

  -- the number of the bytes of those that are distinct
  pub distinct_length : (h : ℕ) → linked digest v h ≡ true →
      length (join (distinct (log_at v h))) ≡ 16 * length (distinct (log_at v h))
  distinct_length h e = length_join 16 (distinct (log_at v h)) (every_distinct (log_sized h e))

  pub log_bound : (h : ℕ) → linked digest v h ≡ true → length (log_at v h) ≤ 8 * h
  log_bound h e =
      log_induction (λ i log. length log ≤ 8 * i) (omega arith)
      (λ i j log l p w. simp length-append (omega (arith, entries_count (suc i) (v.block (suc i)) w))) h h
      (omega arith) e
