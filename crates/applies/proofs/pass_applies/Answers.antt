-- `pass_applies` meets its contract: where the dummy block is notarized, the chain below decides.
use Rattle.std.proofs.Common.{arith}
use Rattle.std.proofs.lemmas.Grind.{common_steps}
use Rattle.protocol.specs.Move.{pass_applies, is_some}
use Rattle.applies.proofs.pass_applies.Goals as goal

pub returns-in_err-chain_below-clause-answer : goal.returns-in_err-chain_below-clause-answer
unfolding pass_applies is_some
returns-in_err-chain_below-clause-answer c = grind (arith, common_steps)

pub returns-clause-answer : goal.returns-clause-answer
unfolding pass_applies is_some
returns-clause-answer c = grind (arith, common_steps)
