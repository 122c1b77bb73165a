-- `set_vote` meets its contract: the voter mask gains the replica's bit, and the digest is copied to its place.
use Rattle.std.proofs.Common.{arith, ◌∙◌}
use Rattle.book_changes.proofs.Writes.{vote_set}
use Rattle.book_changes.proofs.height.set_vote.Goals as goal

pub returns : goal.returns
returns c = let small = c.requires.s_lt_maximum_replicas in
    c.copy_to.ensures ∙
    vote_set c.args.book.now c.requires.ready c.args.h c.requires.within _
    c.content_at-content.ensures _ c.body_at-body.ensures
    c.args.s c.args.digest.now small c.requires.digest_len _
    (omega (arith, c.mask_at-mask.ensures.0, c.bit.ensures.0)) _
    c.put_word.ensures
