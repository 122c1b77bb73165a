-- `votes_for` meets its contract: the 1 or 0 of a bit of the voters, times that of the vote that is kept for it.
use Rattle.std.proofs.Common.{arith}
use Rattle.protocol.proofs.Laws.OneOrZeroLaws.{times_small}
use Rattle.book_fields.specs.Book.{height_in}
use Rattle.tally.proofs.Votes.{vote_number}
use Rattle.tally.proofs.votes_for.Goals as goal

pub overflow_mul-result : goal.overflow_mul-result
overflow_mul-result c = let product = times_small c.one_if_in.result c.one_if_same.result c.one_if_same.ensures.1 in
    omega arith

pub returns : goal.returns
returns c = let args = c.args in
    let product = times_small c.one_if_in.result c.one_if_same.result c.one_if_same.ensures.1 in record {
      vote = vote_number (height_in args.book.now args.h) args.voters args.digest.now args.s
          c.vote_digest-vote.result.now c.one_if_in.result c.one_if_same.result
          c.vote_digest-vote.ensures
          c.one_if_in.ensures.0
          c.one_if_same.ensures.0;
      once = omega arith;
    }
