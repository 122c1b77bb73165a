-- `compress` meets its contract: the words of the block, the rounds with the schedule beside them, the last rounds, and
-- the sum. Assumes nothing.
use Rattle.std.proofs.Common.{◌≡◌, ℕ, ◌+◌, ◌*◌, ◌<◌, List, refl, sym, ap, ◌∙◌, ap₂, zero-add, arith, rules}
use Rattle.sha256.specs.Steps.{rounds_from, extended_from}
use Rattle.sha256.specs.Laws.StepsLaws.{start_state_lem, start_words, turn_rounds, turn_words, turn_agrees, compressed}
use Rattle.sha256.proofs.compression.compress.Goals as goal

pub loop-i-init : goal.loop-i-init
loop-i-init c = let w = c.message_words-w.result in
    let k = c.round_constants-k.result in (
      omega arith,
      start_words k w c.args.hash 0,
      start_state_lem k (extended_from w 0 48) c.args.hash 0,
    )

pub loop-i-preserved : goal.loop-i-preserved
loop-i-preserved c = let head = c.loop-i in
    let first = c.message_words-w.result in
    let below : head.i < 12 = omega arith in (
      omega arith,
      turn_words first head.w c.four_steps-turned.new.w head.i head.invariant.1 c.four_steps-turned.ensures.w_after,
      turn_rounds c.round_constants-k.result (extended_from first 0 48) head.w c.args.hash head.s c.four_steps-turned.result 0
          head.i (4 * head.i) (sym (zero-add (4 * head.i))) (turn_agrees first head.w head.i below head.invariant.1)
          head.invariant.2 c.four_steps-turned.ensures.value,
    )

pub loop-i-2-init : goal.loop-i-2-init
loop-i-2-init c = (omega arith, start_state_lem c.round_constants-k.result c.loop-i.w c.loop-i.s 48)

pub loop-i-2-preserved : goal.loop-i-2-preserved
loop-i-2-preserved c = let head = c.loop-i-2 in
    let words = c.loop-i.w in (
      omega arith,
      turn_rounds c.round_constants-k.result words words c.loop-i.s head.s c.four_rounds-turned.result 48 head.i
          (48 + 4 * head.i) refl (λ j lt. refl) head.invariant.1 c.four_rounds-turned.ensures,
    )

pub returns : goal.returns
returns c = let first = c.loop-i in
    let last = c.loop-i-2 in
    let k = c.round_constants-k.result in
    let start = c.message_words-w.result in
    let all_first : 4 * first.i ≡ 48 = omega arith in
    let all_last : 4 * last.i ≡ 16 = omega arith in
    let words : first.w ≡ extended_from start 0 48 = first.invariant.1 ∙ ap (extended_from start 0) all_first in
    compressed c.args.block.now start first.w k c.args.hash first.s last.s c.add_words.result (search rules)
    c.message_words-w.ensures c.round_constants-k.ensures
    (first.invariant.2 ∙ ap₂ (λ (l : List ℕ) (n : ℕ). rounds_from k l c.args.hash 0 n) (sym words) all_first) words
    (last.invariant.1 ∙ ap (rounds_from k first.w first.s 48) all_last) c.add_words.ensures
