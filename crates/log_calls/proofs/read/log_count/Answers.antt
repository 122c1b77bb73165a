-- `log_count` meets its contract: the log ends at the finalized height.
use Rattle.std.proofs.Common.{ap, ◌∙◌, length}
use Rattle.protocol.specs.State.{decode}
use Rattle.log_calls.specs.Laws.ReadLaws.{walkable, log_at_lem}
use Rattle.log_calls.proofs.read.log_count.Goals as goal

pub count_distinct-requires : goal.count_distinct-requires
count_distinct-requires c =
    walkable c.args.book.now c.finalized-finalized.result c.requires c.finalized-finalized.ensures.0

pub returns : goal.returns
returns c = (
  c.count_distinct.ensures.0 ∙ ap length (log_at_lem (decode c.args.book.now) _
      c.finalized-finalized.ensures.0),
  c.count_distinct.ensures.1,
)
