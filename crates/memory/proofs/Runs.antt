-- Where a run of dummies starts, height by height.
use Prim.Native.Nat.{ℕ, zero, suc, ◌+◌, ◌-◌, ◌≤◌}
use native.Mathlib.Omega.{arith}
use mathlib.Core.Path.{◌≡◌, refl, sym, ap, ◌∙◌}
use mathlib.Core.Bool.{Bool, true, false, ◌&&◌, cond, and-true, and-false}
use lib.Dec.{leb}
use borrow.Author.Tests.{le-leb, lt-leb}
use Rattle.protocol.specs.View.{View, is_dummy, dummy_run}
use Rattle.memory.specs.Memo.{run_start}

module _ (v : View) where
  pub start_within : (h : ℕ) → run_start v h ≤ h
  unfolding run_start
  start_within zero = omega arith
  start_within (suc h) = go (is_dummy v (suc h)) (start_within h)
    where
      go : (b : Bool) → run_start v h ≤ h → cond b (run_start v h) (suc h) ≤ suc h
      go true e = omega arith
      go false e = omega arith

  pub start_zero : (h : ℕ) → h ≡ 0 → 0 ≡ run_start v h
  unfolding run_start
  start_zero zero e = refl
  start_zero (suc h) e = absurd (omega arith)

  pub start_back : (h : ℕ) → 1 ≤ h → is_dummy v h ≡ true → run_start v (h - 1) ≡ run_start v h
  unfolding run_start
  start_back zero low e = absurd (omega arith)
  start_back (suc h) low e = let back : suc h - 1 ≡ h = omega arith in rw (back, e)

  pub start_here : (h : ℕ) → 1 ≤ h → is_dummy v h ≡ false → h ≡ run_start v h
  unfolding run_start
  start_here zero low e = absurd (omega arith)
  start_here (suc h) low e = rw e

  run_by_start : (j count : ℕ) → dummy_run v j count ≡ leb (run_start v (j + count)) j
  unfolding dummy_run run_start
  run_by_start j zero = let e : j + 0 ≡ j = omega arith in rw e (sym (le-leb (run_start v j) j (start_within j)))
  run_by_start j (suc count) = let e : j + suc count ≡ suc (j + count) = omega arith in
      rw e (go (is_dummy v (suc (j + count))) (run_by_start j count))
    where
      go : (b : Bool) → dummy_run v j count ≡ leb (run_start v (j + count)) j →
          (dummy_run v j count && b) ≡ leb (cond b (run_start v (j + count)) (suc (j + count))) j
      go true so_far = and-true (dummy_run v j count) ∙ so_far
      go false so_far = and-false (dummy_run v j count) ∙ sym (lt-leb (suc (j + count)) j (omega arith))

  pub run_none : (j top : ℕ) → j ≡ top → true ≡ dummy_run v j (top - j)
  unfolding dummy_run
  run_none j top e = let none : top - j ≡ 0 = omega arith in rw none

  pub run_is : (j top : ℕ) → j ≤ top → leb (run_start v top) j ≡ dummy_run v j (top - j)
  run_is j top high = let e : j + (top - j) ≡ top = omega arith in
      sym (run_by_start j (top - j) ∙ ap (λ (h : ℕ). leb (run_start v h) j) e)
