-- `new_book` meets its contract: after `i` turns the first `i` heights have their leaders.
use Rattle.std.proofs.Common.{arith, ap, ◌∙◌, length-set}
use Rattle.protocol.specs.State.{encode}
use Rattle.protocol.specs.Open.{new_state, long}
use Rattle.book_changes.proofs.Leaders.{led_none, led_more, led_all}
use Rattle.book_changes.proofs.fresh.new_book.Goals as goal

pub loop-i-init : goal.loop-i-init
loop-i-init c = let leaders = c.args.leaders.now in
    let made = c.led_by_zero in (
      made.ensures
          ∙ ap (λ l. encode (new_state (long c.args.weights.now) c.args.n c.args.own l))
          (led_none leaders),
      omega (arith, made.auto.book),
    )

pub loop-i-preserved : goal.loop-i-preserved
loop-i-preserved c = let args = c.args in
    let at = c.loop-i in (
      led_more (long args.weights.now) args.n args.own args.leaders.now at.i at.book
          at.invariant.0 (omega arith),
      rw length-set at.invariant.1,
    )

pub returns : goal.returns
returns c = let args = c.args in
    let at = c.loop-i in
    at.invariant.0 ∙ ap (λ l. encode (new_state (long args.weights.now) args.n args.own l))
    (led_all args.leaders.now at.i (omega arith))
