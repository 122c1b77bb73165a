-- Bytes as the contracts read them: a list of numbers below 256. Assumes nothing.
use Rattle.std.specs.Prelude.{ℕ, List}

abbrev pub Bytes : Type 0
Bytes = List ℕ
