-- The numbers of the flags: each that has a name is one which may be asked for and set.
use Rattle.std.specs.Prelude.{◌≤◌}
use Rattle.std.proofs.Common.{arith}
use Rattle.book_fields.specs.declared.names.Flag.{Flag}
use Rattle.book_fields.specs.Numbered.{bit_of}

pub bit_low : (which : Flag) → 1 ≤ bit_of which
bit_low Flag.TimerFired = omega arith
bit_low Flag.DummyVoted = omega arith
bit_low Flag.BlockVoted = omega arith
bit_low Flag.Proposed = omega arith

pub bit_high : (which : Flag) → bit_of which ≤ 8
bit_high Flag.TimerFired = omega arith
bit_high Flag.DummyVoted = omega arith
bit_high Flag.BlockVoted = omega arith
bit_high Flag.Proposed = omega arith
