-- `in_range` meets its contract: what it found good, and the weights that are left, say what all of them say.
use Rattle.std.specs.Prelude.{ℕ, suc, ◌≡◌, ◌+◌, ◌<◌, Bool, ◌&&◌, List, [], ◌∷◌, length, get_or, drop}
use Rattle.std.proofs.Common.{rules, arith, add-one, refl, sym, subst, ◌∙◌, drop_of_length-le, drop-cons}
use Rattle.std.proofs.Math.Bool.{and-true, and_assoc}
use Rattle.protocol.specs.Bytes.{all}
use Rattle.protocol.specs.Tests.{in_range}
use Rattle.protocol.specs.State.{words, maximum_weight}
use Rattle.protocol.proofs.Laws.HeadLaws.{word_at, words_count}
use Rattle.wire.proofs.weights.in_range.Goals as goal

-- one weight more
more : (p : ℕ → Bool) (ws : List ℕ) (s w : ℕ) (good : Bool) → s < length ws → w ≡ get_or ws s 0 →
    (good && all p (drop s ws)) ≡ all p ws → ((good && p w) && all p (drop (s + 1) ws)) ≡ all p ws
unfolding all
more p ws s w good low e before =
    rw (add-one, and_assoc good (p w) (all p (drop (suc s) ws)))
    (subst (λ (l : List ℕ). (good && all p l) ≡ all p ws) split before)
  where
    split : drop s ws ≡ w ∷ drop (suc s) ws
    split = drop-cons ws s 0 low ∙ rw e

pub loop-s-init : goal.loop-s-init
loop-s-init c = refl

pub loop-s-preserved : goal.loop-s-preserved
unfolding in_range
loop-s-preserved c = let weights = c.args.weights.now in
    let n = c.args.n in
    let at = c.loop-s in
    let test : c.contains-good.result ≡ in_range 1 maximum_weight c.word.result = search rules in
    rw test (more (λ w. in_range 1 maximum_weight w) (words n weights) at.s _ at.good
    (omega (arith, words_count n weights))
    (c.word.ensures.0 ∙ sym (word_at n weights at.s (omega arith))) at.invariant)

pub returns : goal.returns
unfolding all
returns c = let weights = c.args.weights.now in
    let n = c.args.n in
    let at = c.loop-s in
    let none : drop at.s (words n weights) ≡ [] =
    drop_of_length-le (words n weights) {i = at.s} (omega (arith, words_count n weights)) in
    sym (and-true at.good) ∙ (rw none at at.invariant)
