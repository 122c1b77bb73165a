-- `same_bytes` meets its contract: strings of one length are equal where nothing differs, others are not.
use Rattle.std.proofs.Common.{sym, ne_eqb, ◌∙◌}
use Rattle.difference.proofs.Differences.{same_of_one_length, different_lengths}
use Rattle.wire.proofs.bytes.same_bytes.Goals as goal

pub returns-then-a-b : goal.returns-then-a-b
returns-then-a-b c = rw c.difference.ensures.0 (same_of_one_length c.args.a.now c.args.b.now c.if-a-b.true)

pub returns-else-a-b : goal.returns-else-a-b
returns-else-a-b c = ne_eqb _ _ c.if-a-b.false ∙ sym (different_lengths c.args.a.now c.args.b.now c.if-a-b.false)
