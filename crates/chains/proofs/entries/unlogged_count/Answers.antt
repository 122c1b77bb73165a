-- `unlogged_count` meets its contract: of the places that it goes through, those whose entries the log lacks are
-- counted.
use Rattle.std.proofs.Common.{◌∙◌, ◌*◌, not, rules, tests, arith}
use Rattle.std.proofs.lemmas.Iterator.{YieldsList-from_range}
use Rattle.std.proofs.lemmas.Iterator.Consumers.{YieldsList-from_filter, count_from_yields_List}
use Rattle.protocol.specs.Bytes.{part, holds}
use Rattle.protocol.specs.State.{decode}
use Rattle.protocol.specs.Sound.{view}
use Rattle.protocol.specs.View.{log_at}
use Rattle.chains.proofs.Looked.{stays_counted, stay_few}
use Rattle.chains.proofs.entries.unlogged_count.Goals as goal

pub returns : goal.returns
returns c =
    let s = decode c.args.book.now in
    let count = c.pending_count-count.result in
    let log = log_at (view s) c.finalized-finalized.result in
    let counted = count_from_yields_List c.filter.result c.count.result c.count.ensures.ran
    (YieldsList-from_filter _ (λ k. not (holds (part s.pool (16 * k) 16) log))
    (YieldsList-from_range 0 count count c.filter.ensures.source (omega arith))
    c.filter.ensures.closure (λ x b q k. search (rules, tests))) in
    let stay = stays_counted s c.finalized-finalized.result count c.finalized-finalized.ensures.0
    c.pending_count-count.ensures.0 in
    let few = stay_few s in
    (counted ∙ stay, omega (arith, counted ∙ stay))
