-- What the tests of moves 3 and 4 find: whether the move applies, and what its step then goes by.
use Rattle.std.specs.Prelude.{ℕ, ◌≡◌, true, false, Option, Some, None}
use Rattle.std.proofs.Math.Option.{some}
use Rattle.protocol.specs.Bytes.{Bytes}
use Rattle.protocol.specs.State.{State}
use Rattle.protocol.specs.Move.{pass_applies, passes_by, propose_applies, parent_below}
use Rattle.answers.specs.declared.answer.Certificate.{Certificate}
use Rattle.answers.specs.Answers.{certificate_of}

module _ (digest : Bytes → Bytes) (s : State) where
  -- move 3: the certificate that the pass goes by
  abbrev pub PassFound : Option Certificate → Type 0
  PassFound (Some certificate) = (pass_applies digest s ≡ true) × (certificate_of certificate ≡ passes_by digest s)
  PassFound None = pass_applies digest s ≡ false

  -- move 4: the height of the parent
  abbrev pub ProposeFound : Option ℕ → Type 0
  ProposeFound (Some j) = (propose_applies digest s ≡ true) × (parent_below digest s ≡ some j)
  ProposeFound None = propose_applies digest s ≡ false
