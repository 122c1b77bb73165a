-- `weight_in` meets its contract: a weight times the 1 or 0 of its replica's bit.
use native.Mathlib.Omega.{arith}
use mathlib.Core.Path.{◌∙◌, ap}
use Prim.Native.Nat.{ℕ, ◌*◌}
use Rattle.protocol.specs.Mask.{in_mask}
use Rattle.protocol.proofs.Laws.OneOrZeroLaws.{times_small, times_test}
use Rattle.book_fields.proofs.weighing.weight_in.Goals as goal

pub overflow_mul-result : goal.overflow_mul-result
overflow_mul-result c = let product = times_small c.args.weight c.one_if_in.result c.one_if_in.ensures.1 in
    omega arith

pub returns : goal.returns
returns c = let args = c.args in
    let product = times_small args.weight c.one_if_in.result c.one_if_in.ensures.1 in (
      ap (λ (x : ℕ). args.weight * x) c.one_if_in.ensures.0 ∙ times_test (in_mask args.mask args.s)
          args.weight,
      product,
    )
