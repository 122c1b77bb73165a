-- Replicas that fit have some weight, and then nobody is no quorum.
use Rattle.std.specs.Prelude.{ℕ, zero, suc, ◌*◌, ◌≤◌, ◌≡◌, refl, Bool, false, List, [], ◌∷◌, length, take, drop, replicate, eqb}
use native.Mathlib.Omega.{arith}
use Rattle.std.proofs.Math.Bool.{true}
use Rattle.std.proofs.lemmas.List.{length-replicate}
use Rattle.std.proofs.lemmas.Bool.{lt-leb}
use Rattle.protocol.specs.Bytes.{Bytes, byte_at, all, is_zero}
use Rattle.protocol.specs.Tests.{in_range}
use Rattle.protocol.specs.Mask.{in_mask, weigh, total}
use Rattle.protocol.specs.View.{View, quorum, total_weight}
use Rattle.protocol.specs.Sound.{weights_fit}
use Rattle.protocol.specs.State.{maximum_weight, weights_in, evenly, book_weights}
use Rattle.protocol.proofs.Laws.HeadLaws.{padded_front}
use Rattle.protocol.proofs.Laws.TestsLaws.{and_both}
use Rattle.protocol.proofs.Laws.RowLaws.{in_range_lem}
use Rattle.protocol.proofs.Laws.MaskLaws.{in_mask-zero}

pub some_weight : (n : ℕ) (weights : List ℕ) → 1 ≤ n → 1 ≤ length weights → weights_fit n weights ≡ true →
    1 ≤ total (take n weights)
some_weight zero weights low long fits = absurd (omega arith)
some_weight (suc n) [] low long fits = absurd (omega arith)
some_weight (suc n) (w ∷ ws) low long fits =
    unfold total in
    let first : in_range 1 maximum_weight w ≡ true = unfold weights_fit all in
    (and_both (in_range 1 maximum_weight w) _
    (and_both (all (λ x. in_range 1 maximum_weight x) (take (suc n) (w ∷ ws))) (is_zero (drop n ws)) fits).0).0 in
    let positive = (in_range_lem 1 maximum_weight w first).0 in
    omega arith

-- in edition 1 each replica of the head weighs 1
pub head_even : (book : Bytes) → byte_at book 0 ≤ 16 → eqb (byte_at book 7) 1 ≡ true →
    take (byte_at book 0) (book_weights book) ≡ replicate (byte_at book 0) 1
unfolding weights_in evenly
head_even book high first =
    rw first (padded_front (byte_at book 0) (replicate (byte_at book 0) 1) (length-replicate (byte_at book 0) 1) high)

nobody_weighs : (p : ℕ → Bool) → ((t : ℕ) → p t ≡ false) → (ws : List ℕ) → weigh p ws ≡ 0
unfolding weigh
nobody_weighs p nobody [] = refl
nobody_weighs p nobody (w ∷ ws) =
    let rest = nobody_weighs (λ t. p (suc t)) (λ t. nobody (suc t)) ws in
    rw (nobody 0) (omega arith)

pub nobody_no_quorum : (v : View) → 1 ≤ total_weight v → quorum v 0 ≡ false
unfolding quorum
nobody_no_quorum v some =
    rw (nobody_weighs (λ t. in_mask 0 t) in_mask-zero v.weights) (lt-leb (2 * total v.weights) 0 (omega arith))
