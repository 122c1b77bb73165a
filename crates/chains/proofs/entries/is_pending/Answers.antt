-- `is_pending` meets its contract: the places that it goes through are those of the pending entries.
use Rattle.std.proofs.Common.{◌∙◌, ◌*◌, refl, rules, tests, arith}
use Rattle.std.proofs.lemmas.Iterator.{YieldsList-from_range}
use Rattle.std.proofs.lemmas.Iterator.Search.{any_from_yields_List}
use Rattle.protocol.specs.Bytes.{part, same}
use Rattle.protocol.specs.State.{decode}
use Rattle.chains.proofs.Looked.{any_pending}
use Rattle.chains.proofs.entries.is_pending.Goals as goal

pub returns : goal.returns
returns c =
    let s = decode c.args.book.now in
    let count = c.pending_count-count.result in
    any_from_yields_List (λ k. same c.args.entry.now (part s.pool (16 * k) 16)) _ _ c.any.result c.any.ensures.ran
    (YieldsList-from_range 0 count count refl (omega arith)) (λ x b q k. search (rules, tests))
    ∙ any_pending s c.args.entry.now count c.pending_count-count.ensures.0
