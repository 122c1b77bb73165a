-- `long_word` meets its contract: two words below 65,536 make a number below 2^32.
use Rattle.std.proofs.Common.{rules}
use Rattle.filter.specs.Filter.{word32}
use Rattle.protocol.specs.Bytes.{word16}
use Rattle.filter.proofs.long_word.Goals as goal

pub returns : goal.returns
unfolding word32 word16
returns c = search rules
