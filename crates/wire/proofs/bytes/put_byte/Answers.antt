-- `put_byte` meets its contract: one store is one byte put.
use Rattle.std.proofs.Common.{sym}
use Rattle.protocol.proofs.Laws.BytesLaws.{put_byte}
use Rattle.wire.proofs.bytes.put_byte.Goals as goal

pub returns : goal.returns
returns c = sym (put_byte c.args.bytes.now c.args.at c.args.value c.requires.at_in_bounds)
