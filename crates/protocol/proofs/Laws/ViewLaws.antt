-- Runs of dummies, the digest of a parent, and chains and their entries, a step at a time.
use Prim.Native.Nat.{ℕ, zero, suc, ◌+◌, ◌≤◌, ◌<◌}
use Rattle.std.proofs.Common.{arith, inl, inr, append_assoc, append-nil}
use Rattle.std.specs.Prelude.{◌≡◌, refl, ◌⊎◌, true, List, [], ◌∷◌, ◌++◌, length}
use Rattle.std.proofs.Math.Dec.{eqb-suc-zero}
use Rattle.protocol.specs.Bytes.{Bytes, is_zero}
use Rattle.protocol.specs.Block.{parent_height, entries, all_entries}
use Rattle.protocol.specs.View.{View, is_dummy, dummy_run, digest_at, chain_within, chain, log_at}
use Rattle.protocol.proofs.Laws.TestsLaws.{and_both, le_or_lt}
use Rattle.protocol.proofs.Laws.RowLaws.{zeros_is_zero}
use Rattle.protocol.proofs.Laws.BytesLaws.{length_zeros}

-- ---- runs of dummies
pub run_sound : (v : View) (j count : ℕ) → dummy_run v j count ≡ true → (k : ℕ) → j < k → k ≤ j + count →
    is_dummy v k ≡ true
unfolding dummy_run
run_sound v j zero e k low high = absurd (omega arith)
run_sound v j (suc count) e k low high =
    let both = and_both (dummy_run v j count) (is_dummy v (j + suc count)) e in
    pick both.1 (λ z. run_sound v j count both.0 k low z) (le_or_lt k (j + count))
  where
    pick : is_dummy v (j + suc count) ≡ true → (k ≤ j + count → is_dummy v k ≡ true) → (k ≤ j + count) ⊎ (j + count < k) →
        is_dummy v k ≡ true
    pick top below (inl z) = below z
    pick top below (inr z) = let n : k ≡ j + suc count = omega arith in rw n top

pub run_complete : (v : View) (j count : ℕ) → ((k : ℕ) → j < k → k ≤ j + count → is_dummy v k ≡ true) →
    dummy_run v j count ≡ true
unfolding dummy_run
run_complete v j zero every = refl
run_complete v j (suc count) every =
    rw (
      run_complete v j count (λ k low high. every k low (omega arith)),
      every (j + suc count) (omega arith) (omega arith),
    )

-- ---- the digest that names a parent
module _ (digest : Bytes → Bytes) (v : View) where
  pub digest_at_size : ((block : Bytes) → length (digest block) ≡ 32) → (j : ℕ) → length (digest_at digest v j) ≡ 32
  unfolding digest_at
  digest_at_size sized zero = length_zeros 32
  digest_at_size sized (suc j) = sized (v.block (suc j))

  pub digest_at_start : (j : ℕ) → j ≡ 0 → is_zero (digest_at digest v j) ≡ true
  unfolding digest_at
  digest_at_start zero e = zeros_is_zero 32
  digest_at_start (suc j) e = absurd (omega arith)

-- ---- chains
pub chain_zero : (v : View) → chain v 0 ≡ []
unfolding chain chain_within
chain_zero v = refl

pub log_zero : (v : View) → log_at v 0 ≡ []
unfolding log_at all_entries
log_zero v = rw chain_zero

-- height 0 has no chain, going back any number of times
pub chain_none : (f : ℕ) (v : View) → chain_within f v 0 ≡ []
unfolding chain_within
chain_none zero v = refl
chain_none (suc f) v = refl

pub chain_step : (f : ℕ) (v : View) (i : ℕ) → chain_within (suc f) v (suc i) ≡ chain_within f v
    (parent_height (v.block (suc i))) ++ (v.block (suc i) ∷ [])
unfolding chain_within
chain_step f v i = rw eqb-suc-zero

-- ---- entries
pub all_entries-append : (xs ys : List Bytes) → all_entries (xs ++ ys) ≡ all_entries xs ++ all_entries ys
unfolding all_entries
all_entries-append [] ys = refl
all_entries-append (x ∷ xs) ys = rw (all_entries-append xs ys, append_assoc)

pub all_entries-one : (x : Bytes) → all_entries (x ∷ []) ≡ entries x
unfolding all_entries
all_entries-one x = append-nil (entries x)
