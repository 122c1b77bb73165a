-- A test as a number, 1 or 0: what code adds and multiplies where a branch would decide.
use Rattle.std.specs.Prelude.{ℕ, zero, suc, ◌*◌, ◌≤◌, ◌≡◌, refl, Bool, true, false, ◌&&◌, cond, eqb}
use Rattle.std.proofs.Common.{arith, mul-one, mul-zero, one-mul, zero-mul}

pub one_test : (t : Bool) → eqb (cond t 1 0) 1 ≡ t
one_test true = refl
one_test false = refl

pub times_small : (k x : ℕ) → x ≤ 1 → k * x ≤ k
times_small k zero h = omega arith
times_small k (suc zero) h = omega arith
times_small k (suc (suc x)) h = absurd (omega arith)

pub times_test : (t : Bool) (k : ℕ) → k * cond t 1 0 ≡ cond t k 0
times_test true k = mul-one k
times_test false k = mul-zero k

pub one_of_both : (t u : Bool) (x y : ℕ) → x ≡ cond t 1 0 → y ≡ cond u 1 0 → x * y ≡ cond (t && u) 1 0
one_of_both t u x y e f = rw (e, f) (go t)
  where
    go : (t : Bool) → cond t 1 0 * cond u 1 0 ≡ cond (t && u) 1 0
    go true = one-mul (cond u 1 0)
    go false = zero-mul (cond u 1 0)
