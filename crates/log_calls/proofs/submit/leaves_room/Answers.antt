-- `leaves_room` meets its contract: with fewer than 32 pending, fewer than 32 stay pending.
use Rattle.std.proofs.Common.{◌∙◌, lt-ltb, refl, ap, ltb}
use Rattle.protocol.specs.State.{decode}
use Rattle.log_calls.specs.Laws.ReadLaws.{walkable}
use Rattle.log_calls.proofs.Numbers.{few_stay}
use Rattle.log_calls.proofs.submit.leaves_room.Goals as goal

pub unlogged_count-requires : goal.unlogged_count-requires
unlogged_count-requires c = record {
  walkable = walkable c.args.book.now (decode c.args.book.now).finalized c.requires refl;
  book_bound = c.requires.state.pending_few;
}

pub returns-then-count-lt-MAXIMUM_PENDING : goal.returns-then-count-lt-MAXIMUM_PENDING
returns-then-count-lt-MAXIMUM_PENDING c =
    lt-ltb c.pending_count-count.result 32 c.if-count-lt-MAXIMUM_PENDING.true
    ∙ few_stay (decode c.args.book.now)
    c.pending_count-count.result c.pending_count-count.ensures.0 c.if-count-lt-MAXIMUM_PENDING.true

pub returns-else-count-lt-MAXIMUM_PENDING : goal.returns-else-count-lt-MAXIMUM_PENDING
returns-else-count-lt-MAXIMUM_PENDING c = ap (λ k. ltb k 32) c.unlogged_count.ensures.0
