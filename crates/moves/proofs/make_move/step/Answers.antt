-- `step` meets its contract: the first of the five moves whose test passes.
use Rattle.std.proofs.Common.{sym, ◌∙◌}
use Rattle.protocol.specs.State.{decode}
use Rattle.moves.specs.Laws.OrderLaws.{step_dummy, step_output, step_later, outputs, outputs_not, took_as}
use Rattle.moves.specs.Laws.OrderLaws.{took_output}
use Rattle.moves.proofs.make_move.step.Goals as goal

pub returns-then-dummy_vote_applies : goal.returns-then-dummy_vote_applies
returns-then-dummy_vote_applies c = took_as (step_dummy (decode c.args.book.now)
    (sym c.dummy_vote_applies.ensures ∙ c.if-dummy_vote_applies.true))
    c.cast_dummy_vote.ensures

pub returns-then-finalized-g : goal.returns-then-finalized-g
returns-then-finalized-g c = let s = decode c.args.book.now in
    let newest = c.new_finalized-g in
    let settled = c.finalized in
    let taken = c.output in
    took_as
    (step_output s (sym c.dummy_vote_applies.ensures ∙ c.if-dummy_vote_applies.false)
    (outputs s newest.result settled.result newest.ensures.answer settled.ensures.0
    c.if-finalized-g.true))
    (took_output s c.args.reply.now taken.new.book taken.result taken.ensures.answer taken.ensures.book)

pub returns : goal.returns
returns c = let s = decode c.args.book.now in
    let newest = c.new_finalized-g in
    let settled = c.finalized in
    took_as
    (step_later s (sym c.dummy_vote_applies.ensures ∙ c.if-dummy_vote_applies.false)
    (outputs_not s newest.result settled.result newest.ensures.answer settled.ensures.0
    c.if-finalized-g.false))
    c.later_step.ensures
