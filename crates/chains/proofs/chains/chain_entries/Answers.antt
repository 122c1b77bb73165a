-- `chain_entries` meets its contract: what is counted and the log that is left make the whole log.
use Rattle.std.proofs.Common.{ap, length, arith}
use Rattle.protocol.specs.Bytes.{Bytes}
use Rattle.protocol.specs.View.{log_at}
use Rattle.book_fields.specs.Book.{view_of}
use Rattle.protocol.proofs.Laws.EntriesLaws.{log_start}
use Rattle.chains.proofs.ChainWalk.{walk_step, walk_few, walk_count}
use Rattle.chains.proofs.chains.chain_entries.Goals as goal

pub loop-block-init : goal.loop-block-init
loop-block-init g c =
    let chain = c.chain_of-block-items.ensures in
    rw (c.into_iter-block-iterator.ensures.into_iter_gives, chain.book, chain.height) (c.requires, tt, omega arith)

pub entry_count-sum-requires : goal.entry_count-sum-requires
entry_count-sum-requires g c =
    (walk_step c.loop-block.invariant.0 c.in-Some.ensures.steps.0 c.in-Some.ensures.steps.1).size

pub overflow_add-sum : goal.overflow_add-sum
overflow_add-sum g c =
    let step = walk_step c.loop-block.invariant.0 c.in-Some.ensures.steps.0 c.in-Some.ensures.steps.1 in
    let few = walk_few c.requires in
    omega (arith, c.loop-block.invariant.2)

pub loop-block-preserved : goal.loop-block-preserved
loop-block-preserved g c =
    let step = walk_step c.loop-block.invariant.0 c.in-Some.ensures.steps.0 c.in-Some.ensures.steps.1 in
    let count = walk_count step c.in-Some.ensures.steps.2 c.entry_count-sum.ensures.0 in
    let rest = ap (λ (b : Bytes). length (log_at (view_of g.K.Kind.kind b) c.next.new.self.at))
    c.in-Some.ensures.steps.3 in
    (c.in-Some.ensures.goes.keeps, tt, omega (arith, c.loop-block.invariant.2))

pub returns : goal.returns
returns g c =
    let left = c.loop-block.block-iterator in
    let none = ap length (log_start (view_of g.K.Kind.kind left.book.now) left.at
    (omega (arith, c.in-None.ensures.steps))) in
    let few = walk_few c.requires in
    omega (arith, c.loop-block.invariant.2)
