-- `start_block` meets its contract: five pieces, each behind the other, make the block.
use Rattle.wire.proofs.Writes.{block_starts}
use Rattle.wire.proofs.block.start_block.Goals as goal

pub returns : goal.returns
returns c = let args = c.args in
    block_starts args.block.now args.digest.now c.put_word.new.bytes c.put_word-2.new.bytes
    c.clear.new.target c.copy_to.new.target c.clear-2.new.target args.h args.parent
    c.requires.digest_len
    c.put_word.ensures c.put_word-2.ensures c.clear.ensures c.copy_to.ensures
    c.clear-2.ensures
