-- Written by tests/restated --write: what docs/statements has of
-- crates/call_laws/specs/Refusals.antt.
use Rattle.std.specs.Prelude.{ℕ, ◌≡◌, ◌↔◌, List}
use Rattle.std.proofs.Math.Option.{some}
use package.Rattle.protocol.specs.Bytes.{Bytes}
use package.Rattle.protocol.specs.Tests.{Row, first_refusal}
use package.Rattle.protocol.specs.Answer.{Answer, refused}
use package.Rattle.call_laws.specs.Refusals.{Refuses}
use mathlib.Core.Path.{◌≡◌ as ◌is-kept◌, refl as by-text}
use package.Rattle.call_laws.specs.Refusals as page

Refuses-kept : (A : Type 0) (rows : List Row) (answer : Answer A) (before after : List Bytes) (by_number : (number : ℕ) → (answer ≡ refused number) ↔ (first_refusal rows ≡ some number)) (unchanged : (number : ℕ) → answer ≡ refused number → after ≡ before) →
    Refuses A rows answer before after
Refuses-kept A rows answer before after x0 x1 = record { by_number = x0; unchanged = x1 }
