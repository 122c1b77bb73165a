-- `is_zero` meets its contract: the bits that it gathers are none if and only if every byte is zero.
use Rattle.std.specs.Prelude.{◌≡◌, fold}
use Rattle.std.proofs.Common.{rules, bit_or}
use Rattle.wire.proofs.Scan.{gathered}
use Rattle.wire.proofs.bytes.is_zero.Goals as goal

pub returns : goal.returns
returns c = let all : c.fold.result ≡ fold bit_or 0 c.args.bytes.now = search rules in
    rw all (gathered 0 c.args.bytes.now)
