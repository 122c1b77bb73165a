-- `later_step` meets its contract: the first of the last three moves whose test passes, by what its test has found.
use Rattle.std.proofs.Common.{sym, subst, ◌∙◌}
use Rattle.sha256.specs.Digest.{sha256}
use Rattle.protocol.specs.State.{decode}
use Rattle.protocol.proofs.Laws.MoveLaws.{propose_rows, block_vote_rows}
use Rattle.book_fields.specs.Laws.HeadLaws.{running_high}
use Rattle.applies.specs.Found.{PassFound, ProposeFound}
use Rattle.moves.specs.Laws.OrderLaws.{later_pass, later_propose, later_vote, later_idle, pass_running}
use Rattle.moves.specs.Laws.OrderLaws.{took_as, took_idle}
use Rattle.moves.proofs.make_move.later_step.Goals as goal

pub pass-requires : goal.pass-requires
pass-requires c = let book = c.args.book.now in
    let found = subst (PassFound sha256 (decode book)) c.in-Some.is
    c.pass_applies.ensures.answer in record {
      sound_book = c.requires.sound_book;
      book_bound = running_high book (pass_running (decode book) found.0);
      by_value = found.1;
      in_bounds = c.requires.in_bounds;
    }

pub returns-in-Some : goal.returns-in-Some
returns-in-Some c = let s = decode c.args.book.now in
    let found = subst (PassFound sha256 s) c.in-Some.is c.pass_applies.ensures.answer in
    took_as (later_pass s found.0) c.pass.ensures

pub propose-requires : goal.propose-requires
propose-requires c = let book = c.args.book.now in
    let found = subst (ProposeFound sha256 (decode book)) c.in-Some-propose_applies.is
    c.propose_applies.ensures.answer in record {
      sound_book = c.requires.sound_book;
      memo = c.propose_applies.ensures.memo;
      book_bound = running_high book (propose_rows sha256 (decode book) found.0).running;
      book_value = found.1;
      in_bounds = c.requires.in_bounds;
    }

pub returns-in-Some-propose_applies : goal.returns-in-Some-propose_applies
returns-in-Some-propose_applies c = let s = decode c.args.book.now in
    let no_pass = subst (PassFound sha256 s) c.in_default.is
    c.pass_applies.ensures.answer in
    let found = subst (ProposeFound sha256 s) c.in-Some-propose_applies.is c.propose_applies.ensures.answer in
    took_as (later_propose s no_pass found.0) c.propose.ensures

pub cast_block_vote-requires : goal.cast_block_vote-requires
cast_block_vote-requires c = let book = c.args.book.now in record {
  sound_book = c.requires.sound_book;
  book_bound = running_high book (block_vote_rows sha256 (decode book)
      (sym c.block_vote_applies.ensures.answer ∙ c.if-block_vote_applies.true)).running;
  in_bounds = c.requires.in_bounds;
}

pub returns-then-block_vote_applies : goal.returns-then-block_vote_applies
returns-then-block_vote_applies c = let s = decode c.args.book.now in
    let no_pass = subst (PassFound sha256 s) c.in_default.is
    c.pass_applies.ensures.answer in
    let no_proposal = subst (ProposeFound sha256 s) c.in_default-propose_applies.is
    c.propose_applies.ensures.answer in
    took_as (later_vote s no_pass no_proposal (sym c.block_vote_applies.ensures.answer ∙ c.if-block_vote_applies.true))
    c.cast_block_vote.ensures

pub returns : goal.returns
returns c = let book = c.args.book.now in
    let s = decode book in
    let no_pass = subst (PassFound sha256 s) c.in_default.is
    c.pass_applies.ensures.answer in
    let no_proposal = subst (ProposeFound sha256 s) c.in_default-propose_applies.is
    c.propose_applies.ensures.answer in
    took_as (later_idle s no_pass no_proposal (sym c.block_vote_applies.ensures.answer ∙ c.if-block_vote_applies.false))
    (took_idle book c.args.reply.now c.requires.sound_book.ready.whole)
