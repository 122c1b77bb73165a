-- `log_count` meets its contract: the log ends at the finalized height.
use Rattle.std.proofs.Common.{ap, ◌∙◌, length}
use Rattle.protocol.specs.Observer.{observer_state}
use Rattle.log_calls.specs.Laws.ReadLaws.{log_at_lem}
use Rattle.observer.specs.Laws.LogLaws.{observer_walkable}
use Rattle.observer.proofs.log.log_count.Goals as goal

pub count_distinct-requires : goal.count_distinct-requires
count_distinct-requires c = observer_walkable c.args.book.now c.finalized-g.result c.requires c.finalized-g.ensures.0

pub returns : goal.returns
returns c = (
  c.count_distinct.ensures.0 ∙ ap length (log_at_lem (observer_state c.args.book.now) _
      c.finalized-g.ensures.0),
  c.count_distinct.ensures.1,
)
