-- `chain_holds` meets its contract: the blocks passed do not have the entry, so that the whole log has it if the rest
-- has it.
use Rattle.std.proofs.Common.{refl, sym, ap, ◌∙◌, arith}
use Rattle.protocol.specs.Bytes.{Bytes, holds}
use Rattle.protocol.specs.View.{log_at}
use Rattle.book_fields.specs.Book.{view_of}
use Rattle.protocol.proofs.Laws.EntriesLaws.{log_start, holds_none}
use Rattle.chains.proofs.ChainWalk.{walk_step, walk_found, walk_on, all_entries_lem}
use Rattle.chains.proofs.chains.chain_holds.Goals as goal

pub loop-block-init : goal.loop-block-init
loop-block-init g c =
    let chain = c.chain_of-block-items.ensures in
    rw (c.into_iter-block-iterator.ensures.into_iter_gives, chain.book, chain.height) (c.requires, tt, refl)

pub entry_count-requires : goal.entry_count-requires
entry_count-requires g c =
    (walk_step c.loop-block.invariant.0 c.in-Some.ensures.steps.0 c.in-Some.ensures.steps.1).size

pub block_holds-requires : goal.block_holds-requires
block_holds-requires g c =
    let step = walk_step c.loop-block.invariant.0 c.in-Some.ensures.steps.0 c.in-Some.ensures.steps.1 in
    (step.size, omega arith)

pub returns-then-block_holds : goal.returns-then-block_holds
returns-then-block_holds g c =
    let entry = c.args.entry.now in
    let step = walk_step c.loop-block.invariant.0 c.in-Some.ensures.steps.0 c.in-Some.ensures.steps.1 in
    let all = all_entries_lem c.in-Some.block.now _ c.entry_count.ensures.0 in
    sym (c.loop-block.invariant.2 ∙ walk_found entry step
    (ap (holds entry) (sym all) ∙ sym c.block_holds.ensures ∙ c.if-block_holds.true))

pub loop-block-preserved : goal.loop-block-preserved
loop-block-preserved g c =
    let entry = c.args.entry.now in
    let step = walk_step c.loop-block.invariant.0 c.in-Some.ensures.steps.0 c.in-Some.ensures.steps.1 in
    let all = all_entries_lem c.in-Some.block.now _ c.entry_count.ensures.0 in (
      c.in-Some.ensures.goes.keeps,
      tt,
      c.loop-block.invariant.2
          ∙ walk_on entry step c.in-Some.ensures.steps.2
          (ap (holds entry) (sym all) ∙ sym c.block_holds.ensures ∙ c.if-block_holds.false)
          ∙ ap (λ (b : Bytes). holds entry (log_at (view_of g.K.Kind.kind b) c.next.new.self.at))
          (sym c.in-Some.ensures.steps.3),
    )

pub returns : goal.returns
returns g c =
    let entry = c.args.entry.now in
    let left = c.loop-block.block-iterator in
    sym (c.loop-block.invariant.2 ∙ ap (holds entry)
    (log_start (view_of g.K.Kind.kind left.book.now) left.at (omega (arith, c.in-None.ensures.steps)))
    ∙ holds_none entry)
