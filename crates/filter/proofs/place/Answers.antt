-- `place` meets its contract: words below 2^16 times numbers below 2^32, so that no sum wraps.
use Rattle.std.specs.Prelude.{ℕ, ◌+◌, ◌*◌, ◌%◌, ◌≤◌, ◌<◌, ◌≡◌, refl}
use Rattle.std.proofs.Common.{arith, mul-le-mul_left, add-one, ap, ◌∙◌}
use Rattle.protocol.specs.Bytes.{Bytes, word16}
use Rattle.filter.specs.Filter.{word32, mixed, place_of}
use Rattle.filter.proofs.place.Goals as goal

product : (a b : ℕ) → a < 4294967296 → b < 65536 → a * b ≤ 281474976710656
product a b low small =
    let high : b ≤ 65536 = omega arith in
    let most : a * b ≤ a * 65536 = mul-le-mul_left a high in
    omega arith

mixed-none : (filter e : Bytes) → 0 ≡ mixed filter e 0
unfolding mixed
mixed-none filter e = refl

mixed-more : (filter e : Bytes) (i sum a b : ℕ) → sum ≡ mixed filter e i → a ≡ word32 filter (4 * i) →
    b ≡ word16 e (2 * i) → sum + a * b ≡ mixed filter e (i + 1)
unfolding mixed
mixed-more filter e i sum a b s p q = rw (s, p, q, add-one i) refl

pub loop-i-init : goal.loop-i-init
loop-i-init c = (mixed-none _ _, omega arith)

pub overflow_mul-sum : goal.overflow_mul-sum
overflow_mul-sum c = let key = c.long_word in
    let most = product key.result c.word.result key.ensures.1 c.word.ensures.1 in
    omega (arith, most)

pub overflow_add-sum : goal.overflow_add-sum
overflow_add-sum c = let key = c.long_word in
    let most = product key.result c.word.result key.ensures.1 c.word.ensures.1 in
    let so_far = c.loop-i.invariant in
    omega (arith, most, so_far.1)

pub loop-i-preserved : goal.loop-i-preserved
loop-i-preserved c = let key = c.long_word in
    let most = product key.result c.word.result key.ensures.1 c.word.ensures.1 in
    let so_far = c.loop-i.invariant in (
      mixed-more _ _ c.loop-i.i c.loop-i.sum key.result c.word.result so_far.0 key.ensures.0 c.word.ensures.0,
      omega (arith, most, so_far.1),
    )

pub returns : goal.returns
unfolding place_of
returns c = let all : c.loop-i.i ≡ 8 = omega arith in
    ap (λ (n : ℕ). n % 4294967291)
    (c.loop-i.invariant.0 ∙ ap (mixed c.args.filter.now c.args.entry.now) all)
