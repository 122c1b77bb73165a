-- What two quorums share, as a mask: a third of the weight, and where all replicas weigh the same a third of them.
use Rattle.std.specs.Prelude.{ℕ, zero, suc, ◌+◌, ◌*◌, ◌≤◌, ◌<◌, ◌≡◌, refl, ◌⊎◌, Bool, true, false, ◌&&◌, cond, List, [], ◌∷◌, length, replicate, leb}
use Rattle.std.proofs.Common.{arith, mul-add, mul-suc, mul_left_comm, mul-le-mul_left, sym, ap, ap₂, subst, ◌∙◌, inl, inr, leb-true, le-leb}
use Rattle.std.proofs.Math.Nat.{mul-lt-mul_of_pos_left, le_of_mul-le-mul_left}
use Rattle.std.proofs.lemmas.List.{length-replicate}
use Rattle.std.proofs.lemmas.Bool.{lt-leb}
use Rattle.protocol.specs.Mask.{in_mask, mask_of, ones, intersection, weigh, total}
use Rattle.protocol.specs.View.{View, quorum, mask_weight, total_weight}
use Rattle.protocol.proofs.Laws.TestsLaws.{le_or_lt}
use Rattle.protocol.proofs.Laws.MaskLaws.{mask_of-bit}
use Rattle.protocol.proofs.Laws.QuorumLaws.{quorums_share, ones_weigh}

-- only the tests of the replicas that are there matter
weigh_same : (p q : ℕ → Bool) (ws : List ℕ) → ((t : ℕ) → t < length ws → p t ≡ q t) → weigh p ws ≡ weigh q ws
unfolding weigh
weigh_same p q [] e = refl
weigh_same p q (w ∷ ws) e =
    ap₂ (λ (b : Bool) (x : ℕ). cond b w 0 + x) (e 0 (omega arith))
    (weigh_same (λ t. p (suc t)) (λ t. q (suc t)) ws (λ t l. e (suc t) (omega arith)))

both_weigh : (a b : ℕ) (ws : List ℕ) →
    weigh (λ t. in_mask (intersection (length ws) a b) t) ws ≡ weigh (λ t. in_mask a t && in_mask b t) ws
unfolding intersection
both_weigh a b ws =
    weigh_same (λ t. in_mask (mask_of (λ s. in_mask a s && in_mask b s) (length ws)) t) (λ t. in_mask a t && in_mask b t) ws
    (λ t l. mask_of-bit (λ s. in_mask a s && in_mask b s) (length ws) t l)

-- ---- over any weights: a third of all
pub quorums_third : (v v' : View) (a b : ℕ) → v'.weights ≡ v.weights → quorum v a ≡ true → quorum v' b ≡ true →
    total_weight v ≤ 3 * mask_weight v (intersection (length v.weights) a b)
unfolding quorum
quorums_third v v' a b e p q =
    rw (both_weigh a b v.weights)
    (quorums_share (λ t. in_mask a t) (λ t. in_mask b t) v.weights
    (leb-true (2 * total v.weights) (3 * weigh (λ t. in_mask a t) v.weights) p)
    (leb-true (2 * total v.weights) (3 * weigh (λ t. in_mask b t) v.weights)
    (subst (λ (ws : List ℕ). leb (2 * total ws) (3 * weigh (λ t. in_mask b t) ws) ≡ true) e q)))

-- no more can be said: these two share just a third
pub third_tight : (v : View) → v.weights ≡ 10 ∷ 4 ∷ 6 ∷ 7 ∷ 3 ∷ [] →
    (quorum v 30 ≡ true) × (quorum v 25 ≡ true) × (3 * mask_weight v (intersection 5 30 25) ≡ total_weight v)
unfolding quorum intersection mask_of in_mask weigh total
third_tight v e = rw e (refl, refl, refl)

-- ---- over equal weights: a third of the replicas
total_equal : (n weight : ℕ) → total (replicate n weight) ≡ weight * n
unfolding total
total_equal zero weight = omega arith
total_equal (suc n) weight = let more = mul-suc weight n in let rest = total_equal n weight in omega arith

weigh_equal : (p : ℕ → Bool) (n weight : ℕ) → weigh p (replicate n weight) ≡ weight * weigh p (replicate n 1)
unfolding weigh
weigh_equal p zero weight = omega arith
weigh_equal p (suc n) weight =
    let rest = weigh_equal (λ t. p (suc t)) n weight in
    first (p 0) (weigh (λ t. p (suc t)) (replicate n weight)) (weigh (λ t. p (suc t)) (replicate n 1)) rest
  where
    first : (b : Bool) (x y : ℕ) → x ≡ weight * y → cond b weight 0 + x ≡ weight * (cond b 1 0 + y)
    first true x y e = let more = mul-add weight 1 y in omega arith
    first false x y e = omega arith

ones_equal : (mask n weight : ℕ) → weigh (λ t. in_mask mask t) (replicate n weight) ≡ weight * ones mask n
ones_equal mask n weight = weigh_equal (λ t. in_mask mask t) n weight ∙ ap (λ (x : ℕ). weight * x)
    (sym (ones_weigh mask n))

-- what all numbers are multiplied by does not matter
leb_times : (weight x y : ℕ) → 1 ≤ weight → leb (weight * x) (weight * y) ≡ leb x y
leb_times weight x y low = pick (le_or_lt x y)
  where
    pick : (x ≤ y) ⊎ (y < x) → leb (weight * x) (weight * y) ≡ leb x y
    pick (inl l) = le-leb (weight * x) (weight * y) (mul-le-mul_left weight l) ∙ sym (le-leb x y l)
    pick (inr l) = lt-leb (weight * x) (weight * y) (mul-lt-mul_of_pos_left l low) ∙ sym (lt-leb x y l)

-- it is their number that counts
pub quorum_equal : (v : View) (n weight mask : ℕ) → 1 ≤ weight → v.weights ≡ replicate n weight →
    quorum v mask ≡ leb (2 * n) (3 * ones mask n)
unfolding quorum
quorum_equal v n weight mask low e =
    rw (
      e,
      total_equal n weight,
      ones_equal mask n weight,
      mul_left_comm 2 weight n,
      mul_left_comm 3 weight (ones mask n),
    )
    (leb_times weight (2 * n) (3 * ones mask n) low)

pub equal_third : (v v' : View) (n weight a b : ℕ) → 1 ≤ weight → v.weights ≡ replicate n weight →
    v'.weights ≡ replicate n weight → quorum v a ≡ true → quorum v' b ≡ true → n ≤ 3 * ones (intersection n a b) n
equal_third v v' n weight a b low e e' p q =
    le_of_mul-le-mul_left {k = weight}
    (rw (
      e,
      total_equal n weight,
      length-replicate n weight,
      ones_equal (intersection n a b) n weight,
      mul_left_comm 3 weight (ones (intersection n a b) n),
    ) at (quorums_third v v' a b (e' ∙ sym e) p q)) low
