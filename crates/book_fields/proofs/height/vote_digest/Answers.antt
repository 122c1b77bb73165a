-- `vote_digest` meets its contract: the part that it lends stands at the place of that vote.
use Rattle.book_fields.proofs.Places.{vote_at}
use Rattle.book_fields.proofs.height.vote_digest.Goals as goal

pub returns : goal.returns
returns c = vote_at c.args.book.now c.args.h c.requires.within _ c.body_at.ensures
    c.args.s c.requires.s_lt_maximum_replicas
