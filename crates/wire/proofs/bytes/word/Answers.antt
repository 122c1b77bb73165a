-- `word` meets its contract: two bytes, the low one first, are the number.
use Rattle.std.proofs.Common.{rules}
use Rattle.protocol.specs.Bytes.{word16}
use Rattle.wire.proofs.bytes.word.Goals as goal

pub returns : goal.returns
unfolding word16
returns c = search rules
