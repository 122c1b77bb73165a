-- How many are in a mask: no fewer in a larger one, so that quorums stay quorums.
use Rattle.std.specs.Prelude.{ℕ, suc, ◌+◌, ◌*◌, ◌≤◌, ◌<◌, ◌≡◌, refl, Bool, true, false, cond, List, [], ◌∷◌, length}
use Rattle.std.proofs.Common.{arith, leb-true, le-leb}
use Rattle.std.proofs.lemmas.Bool.{false≢true}
use Rattle.protocol.specs.Mask.{in_mask, weigh, total, Within}
use Rattle.protocol.specs.View.{View, quorum}

pub weigh_mono : (p q : ℕ → Bool) (ws : List ℕ) → ((t : ℕ) → t < length ws → p t ≡ true → q t ≡ true) →
    weigh p ws ≤ weigh q ws
unfolding weigh
weigh_mono p q [] h = omega arith
weigh_mono p q (w ∷ ws) h =
    let rest = weigh_mono (λ t. p (suc t)) (λ t. q (suc t)) ws (λ t l. h (suc t) (omega arith)) in
    let here = first (p 0) (q 0) w (h 0 (omega arith)) in
    omega arith
  where
    first : (x y : Bool) (w : ℕ) → (x ≡ true → y ≡ true) → cond x w 0 ≤ cond y w 0
    first true true w k = omega arith
    first true false w k = absurd (false≢true (k refl))
    first false y w k = omega arith

pub quorum_mono : (v : View) (a b : ℕ) → Within (length v.weights) a b → quorum v a ≡ true → quorum v b ≡ true
unfolding quorum
quorum_mono v a b h q =
    let many = leb-true (2 * total v.weights) (3 * weigh (λ t. in_mask a t) v.weights) q in
    let more = weigh_mono (λ t. in_mask a t) (λ t. in_mask b t) v.weights h in
    le-leb (2 * total v.weights) (3 * weigh (λ t. in_mask b t) v.weights) (omega arith)
