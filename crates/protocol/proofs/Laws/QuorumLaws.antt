-- Replicas with weights: what two quorums share weighs at least a third, so it holds a replica outside any lighter set.
use Rattle.std.specs.Prelude.{ℕ, zero, suc, ◌+◌, ◌*◌, ◌/◌, ◌%◌, ◌^◌, ◌≤◌, ◌<◌, ◌≡◌, Bool, true, false, ◌&&◌, cond, List, [], ◌∷◌, length, get_or, take, replicate, eqb, leb}
use Rattle.std.proofs.Common.{arith, mod-lt, sym, ap, ap₂, subst, ◌∙◌, le_of_suc-le-suc, not-suc-le-zero, leb-true}
use Rattle.std.proofs.Math.Path.{refl}
use Rattle.protocol.proofs.Laws.OneOrZeroLaws.{times_test}
use Rattle.protocol.specs.Mask.{in_mask, ones, weigh, total}
use Rattle.protocol.specs.View.{View, quorum, mask_weight, total_weight}
use Rattle.protocol.proofs.Laws.TestsLaws.{and_both}

one_replica : (x y : Bool) (w : ℕ) → cond x w 0 + cond y w 0 ≤ w + cond (x && y) w 0
one_replica true true w = omega arith
one_replica true false w = omega arith
one_replica false true w = omega arith
one_replica false false w = omega arith

pub shared : (p q : ℕ → Bool) (ws : List ℕ) → weigh p ws + weigh q ws ≤ total ws + weigh (λ t. p t && q t) ws
unfolding weigh total
shared p q [] = omega arith
shared p q (w ∷ ws) =
    let h = one_replica (p 0) (q 0) w in
    let r = shared (λ t. p (suc t)) (λ t. q (suc t)) ws in
    omega arith

-- two quorums share a third of the weight
pub quorums_share : (p q : ℕ → Bool) (ws : List ℕ) → 2 * total ws ≤ 3 * weigh p ws → 2 * total ws ≤ 3 * weigh q ws →
    total ws ≤ 3 * weigh (λ t. p t && q t) ws
quorums_share p q ws a b = let h = shared p q ws in omega arith

-- what weighs more has a replica that what weighs less has not
pub Outside : (ℕ → Bool) → (ℕ → Bool) → ℕ → Type 0
Outside p d k = (t : ℕ) × (t < k) × (p t ≡ true) × (d t ≡ false)

pub outside : (p d : ℕ → Bool) (ws : List ℕ) → weigh d ws < weigh p ws → Outside p d (length ws)
unfolding weigh Outside
outside p d [] h = absurd (omega arith)
outside p d (w ∷ ws) h = go (p 0) (d 0) refl refl h (λ k. up (outside (λ t. p (suc t)) (λ t. d (suc t)) ws k))
  where
    up : Outside (λ t. p (suc t)) (λ t. d (suc t)) (length ws) → Outside p d (suc (length ws))
    up (t, l, a, b) = (suc t, omega arith, a, b)

    go : (x y : Bool) → p 0 ≡ x → d 0 ≡ y → cond y w 0 + weigh (λ t. d (suc t)) ws < cond x w 0 + weigh (λ t. p (suc t))
        ws →
        (weigh (λ t. d (suc t)) ws < weigh (λ t. p (suc t)) ws → Outside p d (suc (length ws))) →
        Outside p d (suc (length ws))
    go true false a b l below = (0, omega arith, a, b)
    go true true a b l below = below (omega arith)
    go false true a b l below = below (omega arith)
    go false false a b l below = below (omega arith)

-- ---- equal weights
pub total_equal : (n : ℕ) → total (replicate n 1) ≡ n
unfolding total
total_equal zero = refl
total_equal (suc n) = let h = total_equal n in omega arith

weigh_last : (p : ℕ → Bool) (k : ℕ) → weigh p (replicate (suc k) 1) ≡ weigh p (replicate k 1) + cond (p k) 1 0
unfolding weigh
weigh_last p zero = omega arith
weigh_last p (suc k) = let h = weigh_last (λ t. p (suc t)) k in omega arith

pub bit_weight : (x : ℕ) → x < 2 → x ≡ cond (eqb x 1) 1 0
bit_weight zero h = refl
bit_weight (suc zero) h = refl
bit_weight (suc (suc x)) h = absurd (omega arith)

pub ones_weigh : (m n : ℕ) → ones m n ≡ weigh (λ t. in_mask m t) (replicate n 1)
unfolding ones in_mask
ones_weigh m zero = weigh_none
  where
    weigh_none : 0 ≡ weigh (λ t. eqb (m / 2 ^ t % 2) 1) []
    weigh_none = unfold weigh in refl
ones_weigh m (suc n) =
    ap₂ ◌+◌ (ones_weigh m n) (bit_weight (m / 2 ^ n % 2) (mod-lt _ (omega arith)))
    ∙ sym (weigh_last (λ t. eqb (m / 2 ^ t % 2) 1) n)

-- where all weigh 1 it is the number that counts
pub quorum_even : (v : View) (n mask : ℕ) → v.weights ≡ replicate n 1 → quorum v mask ≡ leb (2 * n) (3 * ones mask n)
unfolding quorum
quorum_even v n mask e = rw (e, total_equal n, sym (ones_weigh mask n))

-- two quorums of views of the same weights share a replica outside any set that weighs less than a third
pub quorums_meet : (v v' : View) (a b d : ℕ) → v'.weights ≡ v.weights → quorum v a ≡ true → quorum v' b ≡ true →
    3 * mask_weight v d < total_weight v →
    (t : ℕ) × (t < length v.weights) × (in_mask a t ≡ true) × (in_mask b t ≡ true) × (in_mask d t ≡ false)
unfolding quorum Outside
quorums_meet v v' a b d e p q h = found (outside (λ t. in_mask a t && in_mask b t) (λ t. in_mask d t) v.weights lighter)
  where
    lighter : weigh (λ t. in_mask d t) v.weights < weigh (λ t. in_mask a t && in_mask b t) v.weights
    lighter =
        let many = leb-true (2 * total v.weights) (3 * weigh (λ t. in_mask a t) v.weights) p in
        let more = leb-true (2 * total v.weights) (3 * weigh (λ t. in_mask b t) v.weights)
        (subst (λ (ws : List ℕ). leb (2 * total ws) (3 * weigh (λ t. in_mask b t) ws) ≡ true) e q) in
        let third = quorums_share (λ t. in_mask a t) (λ t. in_mask b t) v.weights many more in
        omega arith

    found : Outside (λ t. in_mask a t && in_mask b t) (λ t. in_mask d t) (length v.weights) →
        (t : ℕ) × (t < length v.weights) × (in_mask a t ≡ true) × (in_mask b t ≡ true) × (in_mask d t ≡ false)
    found (t, l, ab, nd) = let k = and_both (in_mask a t) (in_mask b t) ab in (t, l, k.0, k.1, nd)

-- ---- one replica more
pub total_more : (ws : List ℕ) (s : ℕ) → s < length ws → total (take (s + 1) ws) ≡ total (take s ws) + get_or ws s 0
unfolding total
total_more [] s h = absurd (not-suc-le-zero h)
total_more (w ∷ ws) zero h = omega arith
total_more (w ∷ ws) (suc s) h =
    let e : suc s + 1 ≡ suc (s + 1) = omega arith in
    let rest = total_more ws s (le_of_suc-le-suc h) in
    rw e (omega arith)

pub weigh_more : (p : ℕ → Bool) (ws : List ℕ) (s : ℕ) → s < length ws →
    weigh p (take (s + 1) ws) ≡ weigh p (take s ws) + cond (p s) (get_or ws s 0) 0
unfolding weigh
weigh_more p [] s h = absurd (not-suc-le-zero h)
weigh_more p (w ∷ ws) zero h = omega arith
weigh_more p (w ∷ ws) (suc s) h =
    let e : suc s + 1 ≡ suc (s + 1) = omega arith in
    let rest = weigh_more (λ t. p (suc t)) ws s (le_of_suc-le-suc h) in
    rw e (omega arith)

-- its weight times its bit
pub weighed_bit : (mask s w : ℕ) → w * (mask / 2 ^ s % 2) ≡ cond (in_mask mask s) w 0
unfolding in_mask
weighed_bit mask s w =
    ap (λ (x : ℕ). w * x) (bit_weight (mask / 2 ^ s % 2) (mod-lt _ (omega arith)))
    ∙ times_test (eqb (mask / 2 ^ s % 2) 1) w
