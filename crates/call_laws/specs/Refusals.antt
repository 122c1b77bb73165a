-- Refusals: a call tries its rows in order. It is refused if and only if one fails, by the number of the first that
-- does, and then no byte lent to it changes.
use Rattle.std.specs.Prelude.{ℕ, ◌≡◌, ◌↔◌, List}
use Rattle.std.proofs.Math.Option.{some}
use Rattle.protocol.specs.Bytes.{Bytes}
use Rattle.protocol.specs.Tests.{Row, first_refusal}
use Rattle.protocol.specs.Answer.{Answer, refused}

-- a call with these rows: its answer, and the bytes lent to it, before and after
pub record Refuses (A : Type 0) (rows : List Row) (answer : Answer A) (before after : List Bytes) : Type 0 where
  pub by_number : (number : ℕ) → (answer ≡ refused number) ↔ (first_refusal rows ≡ some number)
  pub unchanged : (number : ℕ) → answer ≡ refused number → after ≡ before
