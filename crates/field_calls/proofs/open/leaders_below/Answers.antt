-- `leaders_below` meets its contract: the iterator gives every leader.
use Rattle.std.proofs.Common.{rules, tests, ◌∙◌}
use Rattle.std.proofs.lemmas.Iterator.{YieldsList-from_slice}
use Rattle.std.proofs.lemmas.Iterator.Search.{all_from_yields_List}
use Rattle.std.proofs.Math.Dec.{ltb}
use Rattle.field_calls.proofs.Tests.{every_byte}
use Rattle.field_calls.proofs.open.leaders_below.Goals as goal

pub returns : goal.returns
returns c =
    all_from_yields_List (λ leader. ltb leader c.args.n) _ _ _ c.all.ensures.ran
    (YieldsList-from_slice c.args.leaders.now cc) (λ x b q k. search (rules, tests))
    ∙ every_byte (λ leader. ltb leader c.args.n) c.args.leaders.now
