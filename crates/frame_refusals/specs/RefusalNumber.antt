-- A refusal as a number alone, where 0 stands for none.
use Rattle.std.specs.Prelude.{ℕ, zero, suc}
use Rattle.std.proofs.Math.Option.{Option, some, none}

-- 0 stands for no refusal
unfoldable pub refusal_of : ℕ → Option ℕ
refusal_of zero = none
refusal_of (suc number) = some (suc number)
