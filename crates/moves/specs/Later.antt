-- The last three moves in their order, as the code tries them after the first two.
use Rattle.std.specs.Prelude.{[], ◌∷◌}
use Rattle.sha256.specs.Digest.{sha256}
use Rattle.protocol.specs.State.{State}
use Rattle.protocol.specs.Move.{Step, first_step, idle_step, pass_applies, pass_step, propose_applies, propose_step}
use Rattle.protocol.specs.Move.{block_vote_applies, block_vote_step}

unfoldable pub later_step : State → Step
later_step s =
    first_step
    ((pass_applies sha256 s, pass_step sha256 s) ∷
    (propose_applies sha256 s, propose_step sha256 s) ∷
    (block_vote_applies sha256 s, block_vote_step sha256 s) ∷ [])
    (idle_step s)
