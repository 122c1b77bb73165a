-- The answer of `parent_of` as the protocol's option, which is an older one than the language's own.
use Rattle.std.specs.Prelude.{ℕ, Option, Some, None}
use Rattle.std.proofs.Math.Option.{some, none}
use Rattle.std.proofs.Math.Option as math

abbrev pub parent_option : Option ℕ → math.Option ℕ
parent_option (Some j) = some j
parent_option None = none
