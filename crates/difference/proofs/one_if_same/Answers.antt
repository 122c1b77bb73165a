-- `one_if_same` meets its contract: strings of different lengths differ, and others are equal where nothing differs.
use Rattle.std.proofs.Common.{arith, ◌+◌, ◌/◌}
use Rattle.difference.proofs.Differences.{compared, one_at_most, equal_number}
use Rattle.difference.proofs.one_if_same.Goals as goal

pub overflow_mul-of_one_length : goal.overflow_mul-of_one_length
overflow_mul-of_one_length c = omega (arith, (compared c.args.a.now c.args.b.now).0)

pub difference-differing-requires : goal.difference-differing-requires
difference-differing-requires c =
    let both = compared c.args.a.now c.args.b.now in
    record { count_in_bounds = both.0; count_in_bounds_2 = both.1 }

pub returns : goal.returns
returns c = (
  equal_number c.args.a.now c.args.b.now c.difference-differing.result c.difference-differing.ensures.0,
  one_at_most c.args.a.now c.args.b.now (1 / (1 + c.difference-differing.result)),
)
